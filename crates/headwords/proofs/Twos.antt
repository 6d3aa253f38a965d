-- The bits of an integer are its two's complement. Assumes nothing.
use native.Mathlib.Omega.{arith}
use mathlib.Core.Path.{◌≡◌, refl}
use lib.IntN.{ℤ, pos, negsuc}
use mir.Syntax.{w64}
use mir.Val.{of_z}
use Rattle.headwords.specs.Words.{twos}

pub bits-are : (z : ℤ) → of_z w64 z ≡ twos z
unfolding twos
bits-are (pos n) = refl
bits-are (negsuc n) = omega arith
