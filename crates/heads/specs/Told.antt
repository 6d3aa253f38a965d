-- A head as numbers tell it: a refusal by its number, its offset and its extra.
use Rattle.std.specs.Prelude.{ℕ, Result, Ok, Err}
use Rattle.numbers.specs.Refusal.{number_of, extra_of}
use Rattle.heads.specs.declared.Value.{Value}
use Rattle.heads.specs.declared.Refused.{Refused}
use Rattle.heads.specs.declared.Headed.{Headed}

abbrev pub Told : Type 0
Told = Result Value (ℕ × ℕ × ℕ)

abbrev pub told : Result Value Refused → Told
told (Ok v) = Ok v
told (Err e) = Err (number_of e.why, e.offset, extra_of e.why)

-- with the tag
abbrev pub told_head : Headed → ℕ × Told
told_head h = (h.tag, told h.value)
