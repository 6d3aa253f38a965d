-- A fragment's header is accepted, or refused by a number of the list, whatever the input is. Assumes nothing.
use Prim.Native.Nat.{ℕ}
use mathlib.Core.List.{List}
use Rattle.std.specs.Prelude.{Result, Ok, Err}
use Rattle.numbers.specs.Refusal.{number_of}
use Rattle.numbers.specs.declared.Refusal.{Refusal}
use Rattle.numbers.proofs.Laws.{Outcome, done, refused, Shown, refusal_listed}
use Rattle.fragments.specs.Fragment.{first_at, next_at}

-- a fragment's header: what it comes to
abbrev pub fragment_outcome : {A : Type 0} → Result A Refusal → Outcome
fragment_outcome (Ok f) = done
fragment_outcome (Err r) = refused (number_of r)

fine : {A : Type 0} (f : Result A Refusal) → Shown (fragment_outcome f)
fine (Ok f) = tt
fine (Err r) = refusal_listed r

module _ (b : List ℕ) where
  pub first-shown : Shown (fragment_outcome (first_at b))
  first-shown = fine (first_at b)

  pub next-shown : Shown (fragment_outcome (next_at b))
  next-shown = fine (next_at b)
