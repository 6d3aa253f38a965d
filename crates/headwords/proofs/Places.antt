-- A head that is neither an atom's nor a binary's, a refusal too, has no place. Assumes nothing.
use mathlib.Core.Path.{◌≡◌, refl}
use mathlib.Core.List.{[], ◌∷◌}
use Rattle.std.specs.Prelude.{Result, Ok}
use Rattle.heads.specs.Inner.Run.{run_of, placed}
use Rattle.heads.specs.declared.Refused.{Refused}
use Rattle.heads.specs.declared.Run.{Run}
use Rattle.heads.specs.declared.Value.{Value}
use Rattle.heads.specs.declared.Value.TheVariants as value
use Rattle.heads.proofs.Parts.{by_run}
use Rattle.headwords.specs.Words.{part_words}

pub not-placed : (v : Result Value Refused) → ((r : Run) → v ≡ Ok (value.Atom r) → ⊥) → ((r : Run) → v ≡ Ok (value.Binary r) → ⊥) → 0 ∷ 0 ∷ [] ≡ part_words (placed (run_of v))
not-placed =
    by_run (λ (v : Result Value Refused). ((r : Run) → v ≡ Ok (value.Atom r) → ⊥) → ((r : Run) → v ≡ Ok (value.Binary r) → ⊥) → 0 ∷ 0 ∷ [] ≡ part_words (placed (run_of v)))
    (λ r j k. absurd (j r refl))
    (λ r j k. absurd (k r refl))
    (λ e j k. refl)
    (λ v e j k. rw e)

-- the bytes of a string are no part: a function that hands out every run says 3 and 1
pub string-placed : part_words (placed (run_of (Ok (value.String (record { at = 3; len = 1 }))))) ≡ 0 ∷ 0 ∷ []
string-placed = refl
