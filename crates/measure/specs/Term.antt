-- The term that a row of items is, and the bytes that are written of it. Document 02, P1. A row is read from its end: an item takes as many of the
-- trees behind it as it has children, and is a tree itself.
use Rattle.std.specs.Prelude.{ℕ, zero, suc, ◌-◌, Bool, true, cond, ◌&&◌, List, [], ◌∷◌, ◌++◌, length, ℤ, pos, negsuc, ◌==◌, nat_le, nat_lt, Option, Some, None}
use Rattle.numbers.specs.Caps as cap
use Rattle.fields.specs.Be.{bytes_of, digits_of}
use Rattle.layouts.specs.Tree.{Tree, Forest, node, none, more, leaf, count, bytes_all, depths}
use Rattle.measure.specs.Item.{Item, integer, double, atom, binary, tuple, list, map, nil, wrong, kids_of, allowed}

-- the first n trees, and those behind them
unfoldable pub first : ℕ → Forest → Forest
first zero ts = none
first (suc n) none = none
first (suc n) (more t ts) = more t (first n ts)

unfoldable pub behind : ℕ → Forest → Forest
behind zero ts = ts
behind (suc n) none = none
behind (suc n) (more t ts) = behind n ts

-- "and a tail Nil that is no item"
unfoldable pub ended : Forest → Forest
ended none = more (leaf 106 []) none
ended (more t ts) = more t (ended ts)

-- "110 with fewest digit bytes, sign byte 0 or 1"
unfoldable pub big : (sign n : ℕ) → Tree
big sign n = leaf 110 (bytes_of 1 (length (digits_of 8 n)) ++ (sign ∷ digits_of 8 n))

-- "Signed integers take the first that holds them of 97, 98 and 110". Minus n and one more spells 2 ^ 32 less that, in two's complement
unfoldable pub integer_tree : ℤ → Tree
integer_tree (pos n) = cond (nat_lt n 256) (leaf 97 (bytes_of 1 n)) (cond (nat_lt n 2147483648) (leaf 98 (bytes_of 4 n)) (big 0 n))
integer_tree (negsuc n) = cond (nat_lt n 2147483648) (leaf 98 (bytes_of 4 (4294967295 - n))) (big 1 (suc n))

-- an item's tree, over its children. "atoms take 119 up to 255 bytes, else 118; doubles 70; tuples 104 up to 255 children, else 105; a list, empty
-- too, takes 108 and a tail Nil"
unfoldable pub tree_of : Item → Forest → Tree
tree_of (integer z) ts = integer_tree z
tree_of (double n) ts = leaf 70 (bytes_of 8 n)
tree_of (atom s) ts = cond (nat_le (length s) 255) (leaf 119 (bytes_of 1 (length s) ++ s)) (leaf 118 (bytes_of 2 (length s) ++ s))
tree_of (binary s) ts = leaf 109 (bytes_of 4 (length s) ++ s)
tree_of (tuple n) ts = cond (nat_le n 255) (node 104 (bytes_of 1 n) ts []) (node 105 (bytes_of 4 n) ts [])
tree_of (list n) ts = node 108 (bytes_of 4 n) (ended ts) []
tree_of (map n) ts = node 116 (bytes_of 4 n) ts []
tree_of nil ts = leaf 106 []
tree_of wrong ts = leaf 0 []

-- the trees of a row: one where it is a term
unfoldable pub trees_of : List Item → Forest
trees_of [] = none
trees_of (i ∷ s) = more (tree_of i (first (kids_of i) (trees_of s))) (behind (kids_of i) (trees_of s))

-- every item is allowed, and has its children behind it
unfoldable pub sound : List Item → Bool
sound [] = true
sound (i ∷ s) = allowed i && nat_le (kids_of i) (count (trees_of s)) && sound s

-- what is written: "one term with byte 131"
unfoldable pub written : List Item → List ℕ
written s = 131 ∷ bytes_all (trees_of s)

-- "17 Items (the row isn't one term, .. 16,777,216 written bytes is passed, nesting is over 64)" isn't given
unfoldable pub accepted : List Item → Bool
accepted s = sound s && count (trees_of s) == 1 && nat_le (depths (trees_of s)) cap.nesting && nat_le (length (written s)) cap.input

-- the bytes that a row needs; None where it is refused
unfoldable pub needed : List Item → Option ℕ
needed s = cond (accepted s) (Some (length (written s))) None
