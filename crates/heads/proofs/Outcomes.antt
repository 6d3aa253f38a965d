-- A head that is refused bears a number of the list, at any place. Assumes nothing.
use Prim.Native.Nat.{ℕ}
use mathlib.Core.Path.{◌≡◌}
use mathlib.Core.List.{List}
use Rattle.std.specs.Prelude.{Result, Ok, Err}
use Rattle.numbers.specs.Numbers.{Listed}
use Rattle.numbers.specs.Refusal.{number_of}
use Rattle.numbers.proofs.Laws.{Outcome, done, refused, Shown, refusal_listed}
use Rattle.heads.specs.declared.Value.{Value}
use Rattle.heads.specs.declared.Refused.{Refused}
use Rattle.heads.specs.Inner.Head.{head_at}

-- what an answer comes to, and what a refusal that may be shown bears
abbrev pub value_outcome : Result Value Refused → Outcome
value_outcome (Ok v) = done
value_outcome (Err e) = refused (number_of e.why)

pub value_listed : {v : Result Value Refused} (e : Refused) → Shown (value_outcome v) → v ≡ Err e → Listed (number_of e.why)
value_listed e h f = rw f at h

value_shown : (v : Result Value Refused) → Shown (value_outcome v)
value_shown (Ok v) = tt
value_shown (Err e) = refusal_listed e.why

pub head-shown : (b : List ℕ) (at : ℕ) → Shown (value_outcome (head_at b at).value)
head-shown b at = value_shown (head_at b at).value
