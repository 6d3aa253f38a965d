-- The tape of a term: its cells, each of them words in a row, one for each of its terms in pre-order. Document 01, "The tape".
use Rattle.std.specs.Prelude.{ℕ, ◌+◌, ◌*◌, length, drop}
use mathlib.Core.List.{List, [], ◌∷◌, ◌++◌, flat_map}
use Rattle.layouts.specs.Tree.{Tree, tag_of, bytes, size}
use Rattle.layouts.specs.Nodes.{Node, nodes}

-- "five to a cell": one name for the number
abbrev pub cell_words : ℕ
cell_words = 5

-- "tag, start, end (one past), parent's cell, cells in its subtree with itself": the cell of a term where it lies. Cells stand in the order of
-- the terms, so that its parent's place in their row is its parent's cell
abbrev pub cell_of : Node → List ℕ
cell_of n = tag_of n.tree ∷ n.start ∷ (n.start + length (bytes n.tree)) ∷ n.parent ∷ size n.tree ∷ []

-- the words of a tree that starts at p, whose own cell is c and its parent's `up`
unfoldable pub words : Tree → (p up c : ℕ) → List ℕ
words t p up c = flat_map cell_of (nodes t p up c)

-- the tape of a term that starts at a place of the input. "The root's parent is 0. Leftover words and cells past the last stay unchanged"
unfoldable pub taped : (start : ℕ) → Tree → List ℕ → List ℕ
taped start t tape = words t start 0 0 ++ drop (cell_words * size t) tape
