-- What looking a key up in a map answers, in document 01's words, over the tree of the term that was read. There is no walk here and no
-- order of reading: which tree stands in the input is the layouts' matter.
use Rattle.std.specs.Prelude.{ℕ, ◌+◌, ◌≡◌, List, [], ℤ, pos, length, drop}
use Rattle.numbers.specs.Allowed.{plain}
use Rattle.fields.specs.Be.{be, signed}
use Rattle.numbers.specs.Numbers as answer
use Rattle.reading.specs.Told.{Told}
use Rattle.reading.specs.Answer.{refusal, read_at}
use Rattle.layouts.specs.Tree.{Tree, Forest, node, none, more, bytes, tag_of, Stands}
use Rattle.layouts.specs.Layout.{Laid}

-- "an atom name or 64-bit integer"
pub data Key : Type 0 where
  name : List ℕ → Key
  number : ℤ → Key

-- "compares only atom keys and keys of tags 97 and 98": a name stands behind its length of 1 byte, tag 119, or 2, tags 100 and 118; an
-- integer has "1 byte unsigned / 4 bytes two's complement"
pub data Equal : Key → Tree → Type 0 where
  atom_119 : {l back : List ℕ} {ts : Forest} → Equal (name (drop 1 l)) (node 119 l ts back)
  atom_100 : {l back : List ℕ} {ts : Forest} → Equal (name (drop 2 l)) (node 100 l ts back)
  atom_118 : {l back : List ℕ} {ts : Forest} → Equal (name (drop 2 l)) (node 118 l ts back)
  integer_97 : {l back : List ℕ} {ts : Forest} → Equal (number (pos (be l))) (node 97 l ts back)
  integer_98 : {l back : List ℕ} {ts : Forest} → Equal (number (signed (be l))) (node 98 l ts back)

-- pairs of a key and a value, none of whose keys is equal
pub data Without (k : Key) : Forest → Type 0 where
  no_pairs : Without k none
  one_more : {x y : Tree} {ts : Forest} → ¬ Equal k x → Without k ts → Without k (more x (more y ts))

-- "the last equal key wins": its value stands at q, of pairs from p on. It is in the first pair, and no key after it is equal, or later
pub data Last (k : Key) (q : ℕ) : ℕ → Forest → Type 0 where
  first : {p : ℕ} {x y : Tree} {ts : Forest} → Equal k x → Without k ts → q ≡ p + length (bytes x) → Last k q p (more x (more y ts))
  later : {p : ℕ} {x y : Tree} {ts : Forest} → Last k q (p + length (bytes x) + length (bytes y)) ts → Last k q p (more x (more y ts))

-- "its value's offset is the answer"
abbrev pub moved : ℕ → Told → Told
moved q a = record { number = a.number; end = a.end; offset = q; extra = a.extra; begun = a.begun; deepest = a.deepest; len = a.len; path = a.path }

-- "after reading Kind, then Absent", "both at the map's offset, path empty": by the term that was read at a place, with the counts of reading
-- it, which answered a
pub data Answers (k : Key) (at : ℕ) (a : Told) : Tree → Told → Type 0 where
  is_found : {q : ℕ} {n back : List ℕ} {ts : Forest} → Last k q (at + 1 + length n) ts → Answers k at a (node 116 n ts back) (moved q a)
  is_absent : {n back : List ℕ} {ts : Forest} → Without k ts → Answers k at a (node 116 n ts back) (refusal answer.Absent at 0 a.begun a.deepest [])
  no_map : {t : Tree} → ¬ (tag_of t ≡ 116) → Answers k at a t (refusal answer.Kind at (tag_of t) a.begun a.deepest [])

-- "It reads the whole term there, at nesting 1": as reading refuses; else by the term that stands there, which is one and no other by the
-- laws of layouts (read_sound, unique)
pub record Looked (b : List ℕ) (at limit : ℕ) (k : Key) (r : Told) : Type 0 where
  pub refused : ¬ ((read_at b at limit).number ≡ 0) → r ≡ read_at b at limit
  pub done : (read_at b at limit).number ≡ 0 → (t : Tree) → Laid plain t → Stands b at (bytes t) → Answers k at (read_at b at limit) t r
