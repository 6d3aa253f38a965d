-- A name in a slot is there or refused by a number of the list, whatever the cache is. Assumes nothing.
use Prim.Native.Nat.{ℕ}
use mathlib.Core.List.{List}
use Rattle.std.specs.Prelude.{Result, Ok, Err}
use Rattle.numbers.specs.Refusal.{number_of}
use Rattle.numbers.specs.declared.Refusal.{Refusal}
use Rattle.numbers.proofs.Laws.{Outcome, done, refused, Shown, refusal_listed}
use Rattle.cache.specs.Names.{got_at}
use Rattle.cache.specs.declared.Name.{Name}

-- a name: what it comes to
abbrev pub got_outcome : Result Name Refusal → Outcome
got_outcome (Ok n) = done
got_outcome (Err r) = refused (number_of r)

pub got_fine : (g : Result Name Refusal) → Shown (got_outcome g)
got_fine (Ok n) = tt
got_fine (Err r) = refusal_listed r

pub got_shown : (words store : List ℕ) (i : ℕ) → Shown (got_outcome (got_at words store i))
got_shown words store i = got_fine (got_at words store i)
