-- What an answer says, number by number: document 01's number and values for each of its cases.
use Rattle.std.specs.Prelude.{ℕ, ◌-◌, List, [], ◌++◌, length, replicate, Result, Ok, Err}
use Rattle.numbers.specs.Numbers as number
use Rattle.numbers.specs.Caps as cap
use Rattle.numbers.specs.Refusal.{number_of, extra_of}
use Rattle.reading.specs.declared.Answer.{Answer}
use Rattle.reading.specs.declared.Numbers.{Numbers}
use Rattle.reading.specs.declared.Done.{Done}
use Rattle.reading.specs.declared.Refused.{Refused}
use Rattle.reading.specs.declared.Kind.TheVariants as kind
use Rattle.reading.specs.declared.Segment.{Segment}

-- number, end where it is Done, offset, extra, the terms begun, the deepest nesting begun, and the path with how many segments it has
pub record Told : Type 0 where
  pub number : ℕ
  pub end : ℕ
  pub offset : ℕ
  pub extra : ℕ
  pub begun : ℕ
  pub deepest : ℕ
  pub len : ℕ
  pub path : List Segment

-- a path in the answer's sixty-four segments
abbrev pub padded : List Segment → List Segment
padded p = p ++ replicate (cap.nesting - length p) (record { kind = kind.Tuple; number = 0 })

-- Done or refused, with the counts; a lookup that is Done has the value's offset
abbrev pub told : Result Done Refused → (begun deepest : ℕ) → Told
told (Ok d) c n = record { number = number.Done; end = d.end; offset = d.value; extra = 0; begun = c; deepest = n; len = 0; path = padded [] }
told (Err r) c n =
    record { number = number_of r.why; end = 0; offset = r.offset; extra = extra_of r.why; begun = c; deepest = n; len = r.path.len; path = r.path.segments }

abbrev pub told_of : Answer → Told
told_of a = told a.outcome a.begun a.deepest

-- the same where it has its numbers already
abbrev pub told_by : Numbers → Told
told_by a =
    record { number = a.number; end = a.end; offset = a.offset; extra = a.extra; begun = a.begun; deepest = a.deepest; len = a.path.len; path = a.path.segments }
