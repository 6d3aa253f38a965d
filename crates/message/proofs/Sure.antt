-- What stands before a message's term: a refusal there bears a number of the list. Assumes nothing.
use Prim.Native.Nat.{ℕ}
use mathlib.Core.List.{List}
use Rattle.std.specs.Prelude.{Result, Ok, Err}
use Rattle.numbers.specs.Allowed.{Allowed}
use Rattle.numbers.specs.declared.Refusal.{Refusal}
use Rattle.numbers.proofs.Laws.{Shown, refusal_listed}
use Rattle.references.proofs.Outcomes.{header_outcome, fine}
use Rattle.cache.specs.declared.Cache.{Cache}
use Rattle.cache.specs.Names.{slots}
use Rattle.tape.proofs.Accepts.{Sure}
use Rattle.message.specs.Message.{before, message_before, message_over}

-- a header is read to its end or refused by a number of the list
pub message_shown : (b : List ℕ) (limit : ℕ) (c : Cache) (s : List ℕ) → Shown (header_outcome (message_over b limit c s).rest)
message_shown b limit c s = fine (message_over b limit c s).rest

before-sure : (allow : Allowed) (rest : Result ℕ Refusal) → Sure (before allow rest)
before-sure allow (Ok e) = tt
before-sure allow (Err r) = refusal_listed r

pub message_sure : (b : List ℕ) (limit : ℕ) (c : Cache) (s : List ℕ) → Sure (message_before slots b (message_over b limit c s))
unfolding message_before
message_sure b limit c s = before-sure _ (message_over b limit c s).rest
