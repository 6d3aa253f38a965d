-- The items that a record and its tape say, cell by cell: "the same items in order, tail Nils left out and a tag 110 taken as its number" (document
-- 02, P1). Of a cell's words only tag, start, end and parent are looked at, by their names.
use Rattle.std.specs.Prelude.{ℕ, zero, suc, ◌+◌, ◌-◌, List, [], ◌∷◌, ◌++◌, Bool, cond, ◌&&◌, ◌||◌, eqb, pos, take, drop}
use Rattle.fields.specs.Be.{be, signed}
use Rattle.layouts.specs.Tree.{leaf}
use Rattle.layouts.specs.Values.{big_integer}
use Rattle.tape.specs.Spans.{tag_at, start_at, end_at, parent_at}
use Rattle.measure.specs.Item.{Item, integer, double, atom, binary, tuple, list, map, nil, wrong}

-- the item that a term is, by its tag and the bytes between that and its children; `wrong` where no item is written with this tag
unfoldable pub said : (tag : ℕ) → List ℕ → Item
said tag front =
    cond (eqb tag 97) (integer (pos (be front)))
    (cond (eqb tag 98) (integer (signed (be front)))
    (cond (eqb tag 110) (integer (big_integer (leaf 110 front)))
    (cond (eqb tag 70) (double (be front))
    (cond (eqb tag 119) (atom (drop 1 front))
    (cond (eqb tag 118) (atom (drop 2 front))
    (cond (eqb tag 109) (binary (drop 4 front))
    (cond (eqb tag 104 || eqb tag 105) (tuple (be front))
    (cond (eqb tag 108) (list (be front))
    (cond (eqb tag 116) (map (be front))
    (cond (eqb tag 106) nil
    wrong))))))))))

-- how many bytes those are, where n stand behind the tag in all: "104 / 105: arity of 1 / 4 bytes, children", "108: length of 4 bytes, children,
-- then a tail child", "116: arity of 4 bytes, key and value pairs" (document 01). The other tags of items have no children
unfoldable pub front_length : (tag n : ℕ) → ℕ
front_length tag n = cond (eqb tag 104) 1 (cond (eqb tag 105 || eqb tag 108 || eqb tag 116) 4 n)

-- "a tail Nil that is no item": cell c is a Nil, and its parent is a list that ends where it does
unfoldable pub is_tail : List ℕ → ℕ → Bool
is_tail tape c = eqb (tag_at tape c) 106 && eqb (tag_at tape (parent_at tape c)) 108 && eqb (end_at tape c) (end_at tape (parent_at tape c))

module _ (b tape : List ℕ) where
  -- the item of cell c
  unfoldable pub item_at : ℕ → Item
  item_at c = said (tag_at tape c) (take (front_length (tag_at tape c) (end_at tape c - start_at tape c - 1)) (drop (start_at tape c + 1) b))

  -- the items of the first n cells, in order
  unfoldable pub told : ℕ → List Item
  told zero = []
  told (suc c) = told c ++ cond (is_tail tape c) [] (item_at c ∷ [])
