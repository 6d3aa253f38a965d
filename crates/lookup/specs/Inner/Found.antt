-- What is found, as it is computed: proved to be what Lookup.antt says in words (proofs/Says.antt).
use Rattle.std.specs.Prelude.{ℕ, ◌+◌, [], Bool, false, cond, ◌||◌, eqb, pos, length, drop, Option, Some, None}
use Rattle.std.specs.Option.{option_or}
use Rattle.std.specs.Ordering.{int_eq}
use Rattle.std.specs.Str.{bytes_eq}
use Rattle.fields.specs.Be.{be, signed}
use Rattle.numbers.specs.Numbers as answer
use Rattle.reading.specs.Told.{Told}
use Rattle.reading.specs.Answer.{refusal}
use Rattle.layouts.specs.Tree.{Tree, Forest, node, none, more, bytes}
use Rattle.lookup.specs.Lookup.{Key, name, number, Without, Last, moved}

-- a key beside a tree
unfoldable pub equal : Key → Tree → Bool
equal (name s) (node tag front kids back) =
    cond (eqb tag 119) (bytes_eq (drop 1 front) s)
    (cond (eqb tag 100 || eqb tag 118) (bytes_eq (drop 2 front) s)
    false)
equal (number z) (node tag front kids back) =
    cond (eqb tag 97) (int_eq (pos (be front)) z)
    (cond (eqb tag 98) (int_eq (signed (be front)) z)
    false)

unfoldable mutual
  -- where the last equal key's value stands. Keys and values take turns, and a key stands at p
  pub found : Key → ℕ → Forest → Option ℕ
  found k p none = None
  found k p (more x ts) = found_from k (equal k x) (p + length (bytes x)) ts

  -- the same where a value stands at v, whose key is equal or isn't
  pub found_from : Key → Bool → ℕ → Forest → Option ℕ
  found_from k e v none = None
  found_from k e v (more y ts) = option_or (found k (v + length (bytes y)) ts) (cond e (Some v) None)

-- a place says where the last equal key's value stands, and none that no key is equal
abbrev pub Says : Key → ℕ → Forest → Option ℕ → Type 0
Says k p ts (Some q) = Last k q p ts
Says k p ts None = Without k ts

-- the answer, by the place and by what reading answered
abbrev pub told : ℕ → Told → Option ℕ → Told
told at a (Some q) = moved q a
told at a None = refusal answer.Absent at 0 a.begun a.deepest []

unfoldable pub looked : Key → ℕ → Tree → Told → Told
looked k at (node tag front kids back) a =
    cond (eqb tag 116) (told at a (found k (at + 1 + length front) kids))
    (refusal answer.Kind at tag a.begun a.deepest [])
