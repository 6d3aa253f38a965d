-- What the words of a tape say, as they lie in the lent run: the third demand, for whoever reads a tape by index.
use Rattle.std.specs.Prelude.{ℕ, ◌+◌, ◌*◌, ◌≤◌, ◌<◌, ◌≡◌, ◌⊎◌, ◌↔◌, List, length, get_or}
use Rattle.std.proofs.Math.Option.{some}
use Rattle.std.proofs.Math.ListN.{get_elem?}
use Rattle.numbers.specs.Allowed.{Allowed}
use Rattle.layouts.specs.Tree.{Tree, Stands}
use Rattle.layouts.specs.Nodes.{Node, Lies, nodes}
use Rattle.tape.specs.Cells.{cell_words, cell_of}

module _ (tape : List ℕ) where
  -- the words of cell i
  abbrev pub tag_at : ℕ → ℕ
  tag_at i = get_or tape (cell_words * i + 0) 0

  abbrev pub start_at : ℕ → ℕ
  start_at i = get_or tape (cell_words * i + 1) 0

  abbrev pub end_at : ℕ → ℕ
  end_at i = get_or tape (cell_words * i + 2) 0

  abbrev pub parent_at : ℕ → ℕ
  parent_at i = get_or tape (cell_words * i + 3) 0

  abbrev pub size_at : ℕ → ℕ
  size_at i = get_or tape (cell_words * i + 4) 0

  -- cell j's span lies inside cell i's
  pub record Inside (i j : ℕ) : Type 0 where
    pub after : start_at i ≤ start_at j
    pub before : end_at j ≤ end_at i

  -- the laws of a tape of n cells
  pub record Nested (n : ℕ) : Type 0 where
    -- "starts strictly rising"
    pub rises : (i j : ℕ) → i < j → j < n → start_at i < start_at j
    pub some : (i : ℕ) → i < n → start_at i < end_at i
    -- "two spans lie apart or one inside the other"
    pub apart : (i j : ℕ) → i < n → j < n → ((end_at i ≤ start_at j) ⊎ (end_at j ≤ start_at i)) ⊎ (Inside i j ⊎ Inside j i)
    -- "and those inside a cell's, its own first, are just the cells from it on that its subtree number counts"
    pub subtree : (i j : ℕ) → i < n → j < n → Inside i j ↔ ((i ≤ j) × (j < i + size_at i))
    pub counted : (i : ℕ) → i < n → (1 ≤ size_at i) × (i + size_at i ≤ n)
    -- the parent is the innermost cell around it, and "the root's parent is 0"
    pub root : parent_at 0 ≡ 0
    pub parent : (j : ℕ) → 0 < j → j < n → (parent_at j < j) × Inside (parent_at j) j
    pub innermost : (i j : ℕ) → i < n → j < n → ¬ (i ≡ j) → Inside i j → Inside i (parent_at j)

  -- cell i is the cell of number i of a row of terms, a term of b that lies there
  pub record IsNode (allow : Allowed) (b : List ℕ) (row : List Node) (i : ℕ) : Type 0 where
    pub node : Node
    pub numbered : get_elem? row i ≡ some node
    pub lies : Lies allow b node
    pub cell : Stands tape (cell_words * i) (cell_of node)

  -- "one cell per term": n cells, which are those of the terms of t in pre-order, t being the term that starts at a place of the input b, 1 behind
  -- byte 131. "The root's parent is 0"
  pub record OnePerTerm (allow : Allowed) (b : List ℕ) (start : ℕ) (t : Tree) (n : ℕ) : Type 0 where
    pub as_many : length (nodes t start 0 0) ≡ n
    pub each : (i : ℕ) → i < n → IsNode allow b (nodes t start 0 0) i
