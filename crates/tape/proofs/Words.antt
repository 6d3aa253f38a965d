-- The words of a tree by its parts, so that a proof which goes through a tree looks at no row of terms, and how many they are. Assumes nothing.
use Prim.Native.Nat.{ℕ, ◌+◌, ◌*◌}
use native.Mathlib.Omega.{arith}
use mathlib.Core.Path.{◌≡◌, refl, ap, ◌∙◌}
use mathlib.Core.List.{List, [], ◌∷◌, ◌++◌, flat_map}
use lib.ListN.{length}
use Rattle.layouts.specs.Tree.{Tree, Forest, node, none, more, bytes, size}
use Rattle.layouts.specs.Nodes.{Node, nodes, nodes_all}
use Rattle.layouts.proofs.Nodes.{nodes-length}
use Rattle.tape.specs.Cells.{cell_words, cell_of, words}
use Rattle.tape.specs.Inner.Fill.{cell, words_all}

-- the cells of two rows, one behind the other
side_by_side : (xs ys : List Node) → flat_map cell_of (xs ++ ys) ≡ flat_map cell_of xs ++ flat_map cell_of ys
unfolding flat_map
side_by_side [] ys = refl
side_by_side (x ∷ xs) ys = ap (λ (l : List ℕ). cell_of x ++ l) (side_by_side xs ys)

-- each term has its cell's words
row-length : (row : List Node) → length (flat_map cell_of row) ≡ cell_words * length row
unfolding flat_map
row-length [] = refl
row-length (x ∷ row) = omega (arith, row-length row)

-- a tree's own cell, and then its children's
pub words-node : (tag : ℕ) (front : List ℕ) (ts : Forest) (back : List ℕ) (p up c : ℕ) →
    words (node tag front ts back) p up c ≡ cell tag p (p + length (bytes (node tag front ts back))) up (size (node tag front ts back)) ++ words_all ts (p + 1 + length front) c (c + 1)
unfolding words words_all nodes flat_map
words-node tag front ts back p up c = refl

-- no tree, and one before the others
pub words_all-none : (p up c : ℕ) → words_all none p up c ≡ []
unfolding words_all nodes_all flat_map
words_all-none p up c = refl

pub words_all-more : (t : Tree) (ts : Forest) (p up c : ℕ) → words_all (more t ts) p up c ≡ words t p up c ++ words_all ts (p + length (bytes t)) up (c + size t)
unfolding words words_all nodes_all
words_all-more t ts p up c = side_by_side (nodes t p up c) (nodes_all ts (p + length (bytes t)) up (c + size t))

pub words-length : (t : Tree) (p up c : ℕ) → length (words t p up c) ≡ cell_words * size t
unfolding words
words-length t p up c = row-length (nodes t p up c) ∙ ap (λ (n : ℕ). cell_words * n) (nodes-length t p up c)
