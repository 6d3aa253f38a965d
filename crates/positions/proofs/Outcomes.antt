-- A position, and an atom of tag 82, answer a name or are refused by a number of the list, whatever the input, the cache and the run are. Assumes
-- nothing.
use Prim.Native.Nat.{ℕ}
use mathlib.Core.List.{List}
use Rattle.numbers.proofs.Laws.{Shown}
use Rattle.cache.proofs.Outcomes.{got_outcome, got_fine}
use Rattle.positions.specs.Positions.{position_in, cell_in}

module _ (words store run : List ℕ) where
  pub position-shown : (k : ℕ) → Shown (got_outcome (position_in words store run k))
  position-shown k = got_fine (position_in words store run k)

  pub cell-shown : (b : List ℕ) (at : ℕ) → Shown (got_outcome (cell_in b words store run at))
  cell-shown b at = got_fine (cell_in b words store run at)
