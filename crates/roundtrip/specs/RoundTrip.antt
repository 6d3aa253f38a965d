-- What it is that a row's bytes, read back, return the row. Document 02, P1: "What is written, read back with enough cells and limit, gives the same
-- items in order".
use Rattle.std.specs.Prelude.{ℕ, ◌+◌, ◌*◌, ◌≤◌, ◌≡◌, List, [], ◌∷◌, length}
use Rattle.numbers.specs.Caps as cap
use Rattle.numbers.specs.Numbers as number
use Rattle.layouts.specs.Tree.{depths}
use Rattle.reading.specs.Told.{Told}
use Rattle.tape.specs.Cells.{cell_words}
use Rattle.measure.specs.Item.{Item, integer, double, atom, binary, tuple, list, map, nil, wrong}
use Rattle.measure.specs.Term.{trees_of}
use Rattle.roundtrip.specs.Told.{told}

-- "a list, empty too, takes 108 and a tail Nil that is no item": how many tails an item has, and a row
unfoldable pub tails_of : Item → ℕ
tails_of (integer z) = 0
tails_of (double n) = 0
tails_of (atom s) = 0
tails_of (binary s) = 0
tails_of (tuple n) = 0
tails_of (list n) = 1
tails_of (map n) = 0
tails_of nil = 0
tails_of wrong = 0

unfoldable pub tails : List Item → ℕ
tails [] = 0
tails (i ∷ s) = tails_of i + tails s

-- "with enough cells and limit": of so many words there is a cell for each item and each tail, and the limit is one that reading takes
pub record Enough (s : List Item) (limit words : ℕ) : Type 0 where
  pub room : cell_words * (length s + tails s) ≤ words
  pub nested : depths (trees_of s) ≤ limit
  pub legal : limit ≤ cap.nesting

-- the bytes b were read with the answer r and this tape, and return the row s
pub record Returns (b : List ℕ) (s : List Item) (r : Told) (tape : List ℕ) : Type 0 where
  pub done : r.number ≡ number.Done
  pub cells : r.begun ≡ length s + tails s
  -- "gives the same items in order"
  pub items : told b tape r.begun ≡ s
