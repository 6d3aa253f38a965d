-- The own fields of a term that stands at a place, told by its tree: its front, its back, the number of its children, and of a pid, a
-- reference and a port the atom child's front. The input is not named here. `head_of_tree` says that a head is this where a tree stands.
use Rattle.std.specs.Prelude.{ℕ, ◌+◌, ◌-◌, ◌/◌, List, [], cond, not, ◌||◌, eqb, pos, length, drop}
use Rattle.std.specs.Float.{binary64}
use Rattle.std.specs.Float.Ieee.{of_bits}
use Rattle.fields.specs.Be.{be_at, signed}
use Rattle.literal.specs.Inner.Trim.{trimmed}
use Rattle.heads.specs.declared.Value.{Value}
use Rattle.heads.specs.declared.Value.TheVariants as value
use Rattle.layouts.specs.Tree.{Tree, Forest, node, none, more, leaf, tag_of, count}
use Rattle.layouts.specs.Inner.Shape.{front_of}
use Rattle.agree.specs.Head.{length_bytes, run}

-- "sign byte (nonzero is negative), n digit bytes", behind n's k bytes; the front starts at p
unfoldable pub big_of : ℕ → List ℕ → ℕ → Value
big_of k front p = value.Big (run (p + k + 1) (length (drop (k + 1) front))) (be_at 1 front k) (not (eqb (be_at 1 front k) 0))

-- "atom child": the first of the children. Every layout that names it has one
unfoldable pub atom_of : Forest → Tree
atom_of none = leaf 106 []
atom_of (more t ts) = t

-- "length of 2 / 1 bytes, name": the place and the length of the name of an atom that starts at c
unfoldable pub name_place : Tree → ℕ → ℕ
name_place t c = c + 1 + length_bytes (tag_of t)

unfoldable pub name_length : Tree → ℕ
name_length t = length (drop (length_bytes (tag_of t)) (front_of t))

-- the rows in document 01's order, of which the last is 112; p is the place behind the tag. `be_at k l i` is the number in the k bytes of l
-- from i on
unfoldable pub fields_by : ℕ → List ℕ → Forest → List ℕ → ℕ → Value
fields_by tag front kids back p =
    -- "1 byte unsigned / 4 bytes two's complement"
    cond (eqb tag 97) (value.Integer (pos (be_at 1 front 0)))
    (cond (eqb tag 98) (value.Integer (signed (be_at 4 front 0)))
    -- "31 bytes of text": "The base gives the trimmed text's place, not its number"
    (cond (eqb tag 99) (value.NumberText (run p (trimmed front)))
    -- "8 bytes, a double's bits, kept exactly"
    (cond (eqb tag 70) (value.Double (of_bits binary64 (be_at 8 front 0)) (be_at 8 front 0))
    -- "length of 2 / 1 bytes, name in UTF-8"
    (cond (eqb tag 100 || eqb tag 118) (value.Atom (run (p + 2) (length (drop 2 front))))
    (cond (eqb tag 119) (value.Atom (run (p + 1) (length (drop 1 front))))
    -- "arity of 1 / 4 bytes, children"
    (cond (eqb tag 104 || eqb tag 105) (value.Tuple (count kids))
    -- "nothing"
    (cond (eqb tag 106) value.Nil
    -- "length of 2 bytes, bytes"
    (cond (eqb tag 107) (value.String (run (p + 2) (length (drop 2 front))))
    -- "length of 4 bytes, children, then a tail child"
    (cond (eqb tag 108) (value.List (count kids - 1))
    -- "length of 4 bytes, bytes"
    (cond (eqb tag 109) (value.Binary (run (p + 4) (length (drop 4 front))))
    -- "length of 4 bytes, bits byte, bytes"
    (cond (eqb tag 77) (value.BitString (run (p + 5) (length (drop 5 front))) (be_at 1 front 4))
    -- "n of 1 / 4 bytes, sign byte, n digit bytes"
    (cond (eqb tag 110) (big_of 1 front p)
    (cond (eqb tag 111) (big_of 4 front p)
    -- "arity of 4 bytes, key and value pairs"
    (cond (eqb tag 116) (value.Map (count kids / 2))
    -- "atom child, id, serial, creation, 4 bytes each"
    (cond (eqb tag 88) (let x = atom_of kids in value.Pid (run (name_place x p) (name_length x)) (be_at 4 back 0) (be_at 4 back 4) (be_at 4 back 8))
    -- "count of 2 bytes, atom child, creation 4, count ids of 4"
    (cond (eqb tag 90)
    (let x = atom_of kids in value.Reference (be_at 2 front 0) (run (name_place x (p + 2)) (name_length x)) (be_at 4 back 0) (name_place x (p + 2) + name_length x + 4))
    -- "atom child, id 8, creation 4"
    (cond (eqb tag 120) (let x = atom_of kids in value.Port (run (name_place x p) (name_length x)) (be_at 8 back 0) (be_at 4 back 8))
    -- "atom child, atom child, integer child 0 to 255"
    (cond (eqb tag 113) value.Export
    -- "size 4 (ignored), arity 1, 16 bytes, index 4, free count 4; atom child, two integer children .., child with tag 88, then the free children"
    (value.Function (be_at 4 front 0) (be_at 1 front 4) (p + 5) (be_at 4 front 21) (count kids - 4))))))))))))))))))))

-- the fields of a tree that stands at `at`
unfoldable pub fields_of : Tree → ℕ → Value
fields_of (node tag front kids back) at = fields_by tag front kids back (at + 1)
