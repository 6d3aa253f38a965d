-- What becomes of a term that was read, of an input that should end with it.
use Rattle.std.specs.Prelude.{ℕ, ◌+◌, ◌-◌, ◌*◌, ◌≤◌, ◌≡◌, List, cond, ltb, length, Result, Ok, Err}
use Rattle.numbers.specs.Caps as cap
use Rattle.numbers.specs.Allowed.{Allowed, plain}
use Rattle.numbers.specs.Refusal.{number_of, extra_of}
use Rattle.numbers.specs.declared.Refusal.{Refusal}
use Rattle.numbers.specs.declared.Refusal.TheVariants as why
use Rattle.layouts.specs.Tree.{Tree, Stands, bytes, size}
use Rattle.layouts.specs.Layout.{Laid}
use Rattle.tape.specs.Cells.{cell_words}
use Rattle.tape.specs.Read.{Before, refuses, opens}
use Rattle.tape.specs.Inner.Fill.{Filled}

-- what stands before a record's term, by what the code finds there
abbrev pub before_by : Result (Unit {0}) Refusal → Before
before_by (Ok u) = opens 1 plain
before_by (Err r) = refuses (number_of r) (extra_of r)

-- it is written, or refused: why, and where
abbrev pub Ended : Type 0
Ended = Result (Unit {0}) (Refusal × ℕ)

-- by the input's length, the term's end, its terms and the words that are lent
unfoldable pub ended_by : (len end begun words : ℕ) → Ended
ended_by len end begun words = cond (ltb end len) (Err (why.Trailing (len - end), end)) (cond (ltb words (cell_words * begun)) (Err (why.Room begun, 0)) (Ok tt))

-- a term was read from `start` to `end`, whatever was allowed in it, and so many terms were begun
pub record Came (b : List ℕ) (start end begun : ℕ) : Type 0 where
  pub short : length b ≤ cap.input
  pub allow : Allowed
  pub tree : Tree
  pub laid : Laid allow tree
  pub stands : Stands b start (bytes tree)
  pub ends : end ≡ start + length (bytes tree)
  pub counted : begun ≡ size tree

-- what is on the tape then
abbrev pub Leaves : Ended → (b : List ℕ) (start : ℕ) (old new : List ℕ) → Type 0
Leaves (Ok x) b start old new = Filled b start old new
Leaves (Err e) b start old new = new ≡ old
