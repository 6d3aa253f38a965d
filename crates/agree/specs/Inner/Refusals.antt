-- Whether a head is a value or a refusal, whichever value it is, by what reading answers at the same place. The proofs go by this, and
-- `head_by_lem` ties it to Head.antt, where the value is said too.
use Rattle.std.specs.Prelude.{ℕ, List, cond, eqb, ltb, length, get_or, Result, Ok, Err}
use Rattle.numbers.specs.Caps as cap
use Rattle.numbers.specs.Numbers as number
use Rattle.numbers.specs.Refusal.{number_of, extra_of}
use Rattle.reading.specs.Told.{Told}
use Rattle.heads.specs.declared.Value.{Value}
use Rattle.heads.specs.declared.Refused.{Refused}
use Rattle.agree.specs.Head.{atom_at, at_once, own_offset}

pub data Said : Type 0 where
  a_value : Said
  a_refusal : (number offset extra : ℕ) → Said

abbrev pub said_by_head : Result Value Refused → Said
said_by_head (Ok v) = a_value
said_by_head (Err e) = a_refusal (number_of e.why) e.offset (extra_of e.why)

unfoldable pub said_by_reading : Told → Said
said_by_reading a = cond (eqb a.number 0) a_value (a_refusal a.number a.offset a.extra)

-- where the tag is this one and reading answers a: Tag at once, whatever reading says; else as reading where that is refused at an offset of
-- the head's own; else, where it is refused further on or is Done, a value
unfoldable pub by_tag : List ℕ → ℕ → ℕ → Told → Said
by_tag b tag at a = cond (at_once b tag at) (a_refusal number.Tag (atom_at tag at) 0) (cond (own_offset tag at a.offset) (said_by_reading a) a_value)

-- at any place of any input. One that is too long isn't read at all, and no offset in it is a term's
unfoldable pub as_reading : List ℕ → ℕ → Told → Said
as_reading b at a = cond (ltb cap.input (length b)) (said_by_reading a) (by_tag b (get_or b at 0) at a)
