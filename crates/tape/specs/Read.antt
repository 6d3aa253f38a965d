-- What reading a term to the input's end answers, behind whatever stands before it, and what it leaves on the tape. Document 01, "Numbers the
-- jig shows" and "The tape". A record is byte 131 and one term.
use Rattle.std.specs.Prelude.{ℕ, ◌-◌, ◌*◌, ◌≤◌, ◌≡◌, List, [], ◌++◌, cond, ltb, eqb, length, get_or, Ok, Err}
use Rattle.numbers.specs.Numbers as number
use Rattle.numbers.specs.Allowed.{Allowed, plain}
use Rattle.reading.specs.Told.{Told}
use Rattle.numbers.specs.Refusal.{number_of, extra_of}
use Rattle.reading.specs.Answer.{Start, refusal, starts, read_by}
use Rattle.layouts.specs.Tree.{Tree, Stands, bytes, size, depth}
use Rattle.layouts.specs.Layout.{Laid}
use Rattle.tape.specs.Cells.{cell_words, taped}

-- a term that was read, of an input that should end with it: "then Trailing (offset at the first byte left, path empty), then Room
-- (offset 0, path empty)". So many words are lent
unfoldable pub ended : List ℕ → ℕ → Told → Told
ended b words a =
    cond (ltb a.end (length b)) (refusal number.Trailing a.end (length b - a.end) a.begun a.deepest [])
    (cond (ltb words (cell_words * a.begun)) (refusal number.Room 0 a.begun a.begun a.deepest [])
    a)

-- the term from `start` on to the input's end, over what is allowed
unfoldable pub whole_from : Allowed → List ℕ → ℕ → ℕ → ℕ → Told
whole_from allow b start limit words =
    let a = read_by allow b start limit in
    cond (eqb a.number 0) (ended b words a) a

-- what stands before the term: a refusal, by number and extra; or where the term starts, and what is allowed in it
pub data Before : Type 0 where
  refuses : (number extra : ℕ) → Before
  opens : (start : ℕ) → Allowed → Before

-- and the answer by it. A refusal before the term has no offset, counts or path
unfoldable pub read_behind : Before → List ℕ → ℕ → ℕ → Told
read_behind (refuses n x) b limit words = refusal n 0 x 0 0 []
read_behind (opens start allow) b limit words = whole_from allow b start limit words

-- "Order: Limit, .. Long, then reading left to right"
unfoldable pub starts_before : Start → Before → Before
starts_before (Err r) o = refuses (number_of r) (extra_of r)
starts_before (Ok u) o = o

-- of a record, byte 131
unfoldable pub version : List ℕ → Before
version b = cond (eqb (length b) 0) (refuses number.Eof 0) (cond (eqb (get_or b 0 0) 131) (opens 1 plain) (refuses number.Tag 0))

unfoldable pub record_before : List ℕ → ℕ → Before
record_before b limit = starts_before (starts limit (length b)) (version b)

-- so a record
abbrev pub read_all : List ℕ → ℕ → ℕ → Told
read_all b limit words = read_behind (record_before b limit) b limit words

-- "accepted exactly when it is byte 131 and one whole term, as the layouts alone describe it, nested within the limit, with a tape cell
-- lent for every term in it": for byte 131 whatever bytes stand before the term, and the layouts over what is allowed
pub record Accepted (allow : Allowed) (front b : List ℕ) (limit words : ℕ) : Type 0 where
  pub tree : Tree
  pub laid : Laid allow tree
  pub is : b ≡ front ++ bytes tree
  pub nested : depth tree ≤ limit
  pub room : cell_words * size tree ≤ words

-- a call that reads a term to the input's end: its answer, and the tape before and after. "Only a Done read writes the tape"
pub record Promised (o : Before) (b : List ℕ) (limit : ℕ) (r : Told) (old new : List ℕ) : Type 0 where
  pub answered : r ≡ read_behind o b limit (length old)
  pub refused : ¬ (r.number ≡ 0) → new ≡ old
  pub done : r.number ≡ 0 → (start : ℕ) (allow : Allowed) → o ≡ opens start allow → (t : Tree) → Laid allow t → Stands b start (bytes t) → new ≡ taped start t old

-- a call of `read`
abbrev pub Recorded : (b : List ℕ) (limit : ℕ) → Told → (old new : List ℕ) → Type 0
Recorded b limit = Promised (record_before b limit) b limit
