-- A row of any other tag isn't found the short way. Assumes nothing.
use Prim.Native.Nat.{ℕ, ◌+◌, ◌≤◌}
use mathlib.Core.Path.{◌≡◌, ◌∙◌}
use mathlib.Core.List.{List}
use lib.ListN.{length, get_or}
use Rattle.std.specs.Prelude.{None}
use Rattle.numbers.proofs.Laws.{none_of}
use Rattle.shortcut.specs.Inner.Short.{short_by, short_end}
use Rattle.shortcut.proofs.Shorts.{short_tag}

pub short_none : (b : List ℕ) (p t : ℕ) → p + 10 ≤ length b → get_or b p 0 ≡ t → ¬ (t ≡ 97) → ¬ (t ≡ 98) → ¬ (t ≡ 70) → ¬ (t ≡ 106) → ¬ (t ≡ 119) → ¬ (t ≡ 109) → None ≡ short_end b p
unfolding short_by
short_none b p t h e h₁ h₂ h₃ h₄ h₅ h₆ = let z : None ≡ short_by b p t = search none_of in z ∙ short_tag b p t h e
