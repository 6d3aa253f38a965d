-- How the tape is written when its input is known to be good: what the functions that write it rely on, and what they leave.
use Rattle.std.specs.Prelude.{ℕ, ◌+◌, ◌*◌, ◌≤◌, ◌≡◌, length, set}
use mathlib.Core.List.{List, [], ◌∷◌, flat_map}
use Rattle.std.proofs.lemmas.List.Edits.{sets}
use Rattle.numbers.specs.Caps as cap
use Rattle.numbers.specs.Allowed.{Allowed}
use Rattle.layouts.specs.Tree.{Tree, Forest, Stands, bytes, size}
use Rattle.layouts.specs.Layout.{Laid}
use Rattle.layouts.specs.Nodes.{nodes_all}
use Rattle.tape.specs.declared.Cell.{Cell}
use Rattle.tape.specs.Cells.{cell_words, cell_of, words}

-- the words of trees side by side, the first of which starts at p and has the cell c
unfoldable pub words_all : Forest → (p up c : ℕ) → List ℕ
words_all ts p up c = flat_map cell_of (nodes_all ts p up c)

-- the words of a cell
abbrev pub cell : (tag start end parent size : ℕ) → List ℕ
cell tag start end parent size = tag ∷ start ∷ end ∷ parent ∷ size ∷ []

abbrev pub words_in : Cell → List ℕ
words_in c = cell c.tag c.start c.end c.parent c.size

-- they are small enough for the tape's words
pub record Small (c : Cell) : Type 0 where
  pub start : c.start ≤ cap.input
  pub end : c.end ≤ cap.input
  pub parent : c.parent ≤ cap.input
  pub size : c.size ≤ cap.input

-- the words that are known after a cell's children
abbrev pub closed : List ℕ → (cell end size : ℕ) → List ℕ
closed tape c end size = set (set tape (c * cell_words + 2) end) (c * cell_words + 4) size

-- a tree's words from its cell on
abbrev pub lay : List ℕ → ℕ → List ℕ → List ℕ
lay tape c ws = sets tape (c * cell_words) ws

-- a term stands at `start`, whatever is allowed in it, and there is room for its cells
pub record Good (b : List ℕ) (start room : ℕ) : Type 0 where
  pub short : length b ≤ cap.input
  pub allow : Allowed
  pub tree : Tree
  pub laid : Laid allow tree
  pub stands : Stands b start (bytes tree)
  pub fits : cell_words * size tree ≤ room

-- whatever term stands there, its words are on the tape
pub record Filled (b : List ℕ) (start : ℕ) (old new : List ℕ) : Type 0 where
  pub same : (allow : Allowed) (t : Tree) → Laid allow t → Stands b start (bytes t) → new ≡ lay old 0 (words t start 0 0)
