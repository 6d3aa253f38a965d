-- A row or a count that is refused bears a number of the list, whatever it is. Assumes nothing.
use Prim.Native.Nat.{ℕ}
use mathlib.Core.List.{List}
use Rattle.std.specs.Prelude.{Result, Ok, Err}
use Rattle.numbers.specs.declared.Refusal.{Refusal}
use Rattle.numbers.specs.Refusal.{number_of}
use Rattle.numbers.proofs.Laws.{Outcome, done, refused, Shown, refusal_listed}
use Rattle.rows.specs.Layout.{row_at}
use Rattle.rows.specs.Row.{name, count_at}

-- what each comes to
abbrev pub row_outcome : Result ℕ Refusal → Outcome
row_outcome (Ok n) = done
row_outcome (Err r) = refused (number_of r)

row_shown : (r : Result ℕ Refusal) → Shown (row_outcome r)
row_shown (Ok n) = tt
row_shown (Err r) = refusal_listed r

module _ (b : List ℕ) where
  pub row-shown : (tag p : ℕ) → Shown (row_outcome (row_at b tag p))
  row-shown tag p = row_shown (row_at b tag p)

  pub name-shown : (n p : ℕ) → Shown (row_outcome (name b n p))
  name-shown n p = row_shown (name b n p)

  pub count-shown : (most p : ℕ) → Shown (row_outcome (count_at most b p))
  count-shown most p = row_shown (count_at most b p)
