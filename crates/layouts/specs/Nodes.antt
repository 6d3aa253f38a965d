-- The terms of a tree in one row, each where it lies. The order is pre-order: a term stands before its children, and these with all that
-- is in them stand in their own order. What is told of every term of a record, its cells on a tape first of all, is told over this row.
use Rattle.std.specs.Prelude.{ℕ, ◌+◌, List, [], ◌∷◌, ◌++◌, length}
use Rattle.layouts.specs.Tree.{Tree, Forest, Stands, node, none, more, bytes, size}
use Rattle.numbers.specs.Allowed.{Allowed}
use Rattle.layouts.specs.Layout.{Laid}

-- a term where it lies: its tree, the place of its first byte in the input, and its parent's place in the row
pub record Node : Type 0 where
  pub tree : Tree
  pub start : ℕ
  pub parent : ℕ

unfoldable mutual
  -- the terms of a tree whose bytes begin at `start`: itself, which is the row's number `first`, then its children behind tag and front
  pub nodes : Tree → (start parent first : ℕ) → List Node
  nodes (node tag front kids back) start parent first =
      record { tree = node tag front kids back; start = start; parent = parent } ∷ nodes_all kids (start + 1 + length front) first (first + 1)

  -- the terms of trees side by side that have one parent: each tree begins where the bytes, and the terms, of the one before it end
  pub nodes_all : Forest → (start parent first : ℕ) → List Node
  nodes_all none start parent first = []
  nodes_all (more t ts) start parent first = nodes t start parent first ++ nodes_all ts (start + length (bytes t)) parent (first + size t)

-- what it is for one of them to lie in the input b: its tree is a term, whose bytes stand at its start
pub record Lies (allow : Allowed) (b : List ℕ) (n : Node) : Type 0 where
  pub laid : Laid allow n.tree
  pub stands : Stands b n.start (bytes n.tree)
