-- A header begins well or is refused by a number of the list, and so is each reference. Assumes nothing.
use Prim.Native.Nat.{ℕ}
use mathlib.Core.List.{List}
use mathlib.Core.Bool.{Bool}
use Rattle.std.specs.Prelude.{Result, Ok, Err}
use Rattle.numbers.specs.Refusal.{number_of}
use Rattle.numbers.specs.declared.Refusal.{Refusal}
use Rattle.numbers.proofs.Laws.{Outcome, done, refused, Shown, refusal_listed}
use Rattle.references.specs.Header.{start_of, reference_at}

-- how a header begins, or a reference: what it comes to
abbrev pub header_outcome : {A : Type 0} → Result A Refusal → Outcome
header_outcome (Ok x) = done
header_outcome (Err r) = refused (number_of r)

pub fine : {A : Type 0} (x : Result A Refusal) → Shown (header_outcome x)
fine (Ok x) = tt
fine (Err r) = refusal_listed r

module _ (b : List ℕ) where
  pub start-shown : Shown (header_outcome (start_of b))
  start-shown = fine (start_of b)

  pub of_reference : (new : Bool) (wide p : ℕ) → Shown (header_outcome (reference_at b new wide p))
  of_reference new wide p = fine (reference_at b new wide p)
