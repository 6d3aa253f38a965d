-- A signed number as the machine reads it back from its bits: from zero on it is its distance from zero, below zero minus one less it is its
-- distance below minus one. For the crates above that take such numbers to ones without a sign. Assumes nothing.
use Prim.Native.Nat.{ℕ, suc, ◌<◌}
use native.Mathlib.Omega.{arith}
use mathlib.Core.Path.{◌≡◌, refl, ap, ◌∙◌}
use mathlib.Core.Bool.{Bool, true, false, cond}
use lib.Dec.{T}
use lib.IntN.{ℤ, pos, negsuc, nat_abs, ◌-ℤ◌}
use lib.Signed.{mag, non_neg, lt_z}
use mir.Syntax.{w64}
use mir.Val.{Fits, SFits, to_z, of_z}
use mir.Facts.{to_z-of_z}
use borrow.Author.Tests.{ltb-true, le-ltb}

mirrored : (z : ℤ) → lt_z z (pos 0) ≡ true → negsuc 0 -ℤ z ≡ pos (mag z)
mirrored (pos n) h = absurd (omega (arith, ltb-true n 0 h))
mirrored (negsuc n) h = rw (le-ltb (suc n) 1 (omega arith)) (ap pos (omega arith))

itself : (z : ℤ) → lt_z z (pos 0) ≡ false → z ≡ pos (mag z)
itself (pos n) h = refl
itself (negsuc n) h = absurd (omega (arith, ap {B = ℕ} (λ (x : Bool). cond x 1 0) h))

-- what a cast asks and gives, of an integer that is a number
module _ (z : ℤ) (n : ℕ) (e : z ≡ pos n) where
  pub casts : n < 18446744073709551616 → T (non_neg z) × Fits w64 (nat_abs z)
  casts h = rw e (tt, record { fits = h })

  pub casts_to : nat_abs z ≡ n
  casts_to = ap nat_abs e

module _ (z : ℤ) (f : SFits w64 z) where
  back : to_z w64 (of_z w64 z) ≡ z
  back = to_z-of_z f

  module _ (h : lt_z (to_z w64 (of_z w64 z)) (pos 0) ≡ true) where
    pub below : lt_z z (pos 0) ≡ true
    below = rw back at h

    less : negsuc 0 -ℤ to_z w64 (of_z w64 z) ≡ pos (mag z)
    less = rw back (mirrored z below)

    pub less_fits : SFits w64 (negsuc 0 -ℤ to_z w64 (of_z w64 z))
    less_fits = rw less (record { sfits = f.sfits })

    pub less_is : to_z w64 (of_z w64 (negsuc 0 -ℤ to_z w64 (of_z w64 z))) ≡ pos (mag z)
    less_is = to_z-of_z less_fits ∙ less

  module _ (h : lt_z (to_z w64 (of_z w64 z)) (pos 0) ≡ false) where
    pub above : lt_z z (pos 0) ≡ false
    above = rw back at h

    pub above-is : to_z w64 (of_z w64 z) ≡ pos (mag z)
    above-is = back ∙ itself z above
