-- Below a number that fits there is one that fits. Assumes nothing.
use Prim.Native.Nat.{ℕ, zero, suc, ◌^◌, ◌<◌}
use native.Mathlib.Omega.{arith}
use lib.IntN.{pos, negsuc, ◌-ℤ◌}
use lib.Signed.{mag}
use mir.Syntax.{w64}
use mir.Val.{SFits, to_z}
use borrow.Author.Tests.{lt-ltb}

far : (n : ℕ) → n < 2 ^ 63 → mag (negsuc 0 -ℤ pos n) < 2 ^ 63
far zero h = omega arith
far (suc n) h = omega arith

-- minus one, less n
pub fits_below : (n : ℕ) → n < 2 ^ 63 → SFits w64 (to_z w64 18446744073709551615 -ℤ to_z w64 n)
fits_below n h = record { sfits = rw (lt-ltb n (2 ^ 63) h) (far n h) }
