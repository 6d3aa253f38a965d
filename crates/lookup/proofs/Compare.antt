-- The code compares the bits of two integers, and so the integers. Assumes nothing.
use mathlib.Core.Path.{◌≡◌, ap, sym, ◌∙◌}
use lib.Dec.{eqb}
use lib.IntN.{ℤ}
use mir.Syntax.{w64}
use mir.Val.{SFits, of_z, to_z}
use mir.Facts.{to_z-of_z}
use Rattle.std.specs.Ordering.{int_eq}
use Rattle.std.proofs.lemmas.Bool.Decides.{same_from_decides, Decides-like, Decides-eqb, Decides-int_eq}

pub by_bits : {y z : ℤ} → SFits w64 y → SFits w64 z → eqb (of_z w64 y) (of_z w64 z) ≡ int_eq y z
by_bits {y} {z} f g =
    same_from_decides _ _
    (Decides-like _ (λ e. sym (to_z-of_z {w = w64} f) ∙ ap (to_z w64) e ∙ to_z-of_z {w = w64} g) (ap (of_z w64)) (Decides-eqb (of_z w64 y) (of_z w64 z)))
    (Decides-int_eq y z)
