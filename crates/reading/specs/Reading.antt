-- How reading goes: where it stands, that it goes on or is refused, and the path that a refusal has. Document 01, "Reading, offset and path".
use Rattle.std.specs.Prelude.{ℕ, ◌+◌, max, List, [], ◌∷◌, Ok, Err}
use Rattle.numbers.specs.Numbers as number
use Rattle.numbers.specs.Refusal.{number_of, extra_of}
use Rattle.fields.specs.Field.{number_then}
use Rattle.rows.specs.Row.{Row, count_then}
use Rattle.rows.specs.Row as row
use Rattle.reading.specs.declared.Kind.{Kind}
use Rattle.reading.specs.declared.Segment.{Segment}

-- where reading stands: the next byte, the start of the last term reached, the terms begun and the deepest nesting begun
pub record State : Type 0 where
  pub at : ℕ
  pub last : ℕ
  pub begun : ℕ
  pub deepest : ℕ

-- reading goes on from a place, or is refused: number, extra, where reading stood, and the path, outermost first
pub data Result : Type 0 where
  done : State → Result
  no : ℕ → ℕ → State → List Segment → Result

-- what comes after an answer that is no refusal
unfoldable pub and_then : Result → (State → Result) → Result
and_then (done s) f = f s
and_then (no n x s p) f = no n x s p

-- "Path segments are entered for tuple element, list element, ..": a refusal inside a child has its segment in front
unfoldable pub entered : Kind → ℕ → Result → Result
entered k i (done s) = done s
entered k i (no n x s p) = no n x s (record { kind = k; number = i } ∷ p)

-- the same place, further on
abbrev pub moved : ℕ → State → State
moved p s = record { at = p; last = s.last; begun = s.begun; deepest = s.deepest }

-- "At a term's start the offset is set to it."
abbrev pub reach : State → State
reach s = record { at = s.at; last = s.at; begun = s.begun; deepest = s.deepest }

-- ".. else the term is begun and counted": its tag is passed
abbrev pub begin : ℕ → State → State
begin nesting s = record { at = s.at + 1; last = s.at; begun = s.begun + 1; deepest = max s.deepest nesting }

-- "A refusal's offset is the start of the last term reached": the place keeps it
abbrev pub refused : ℕ → State → Result
refused n s = no n 0 s []

-- fields without children, as their row says
unfoldable pub fields : Row → State → Result
fields (Ok p) s = done (moved p s)
fields (Err r) s = no (number_of r) (extra_of r) s []

-- n bytes
unfoldable pub pass : List ℕ → ℕ → State → Result
pass b n s = fields (row.bytes b n s.at) s

-- a number of k bytes, and what it says of what comes behind it
unfoldable pub sized : ℕ → List ℕ → (ℕ → State → Result) → State → Result
sized k b f s = number_then (refused number.Eof s) k b (λ n p. f n (moved p s)) s.at

-- the same of a count of 4 bytes within its cap
unfoldable pub counted : ℕ → List ℕ → (ℕ → State → Result) → State → Result
counted most b f s = count_then (λ r. refused (number_of r) s) most b (λ n p. f n (moved p s)) s.at
