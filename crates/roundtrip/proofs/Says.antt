-- Trees that say items, in order: where the two halves of the round trip meet. The trees of a row say it (Items.antt, Rows.antt), and where trees
-- that say items stand, their cells say the same items (Cells.antt). Assumes nothing.
use Prim.Native.Nat.{ℕ, ◌+◌}
use mathlib.Core.Path.{◌≡◌}
use mathlib.Core.Bool.{Bool, true, false, cond}
use mathlib.Core.List.{List, [], ◌∷◌, ◌++◌}
use lib.Dec.{eqb}
use lib.ListN.{length}
use Rattle.layouts.specs.Tree.{Forest, node, none, more, leaf, bytes_all}
use Rattle.measure.specs.Item.{Item}
use Rattle.roundtrip.specs.Told.{said, front_length}
use Rattle.roundtrip.specs.RoundTrip.{tails_of}

-- a term says the item i by itself: by its tag and the bytes before its children, which are as many as the tag tells
pub record Itself (i : Item) (tag : ℕ) (front : List ℕ) (kids : Forest) : Type 0 where
  pub says : said tag front ≡ i
  pub wide : front_length tag (length front + length (bytes_all kids)) ≡ length front
  pub tails : tails_of i ≡ cond (eqb tag 108) 1 0

-- trees side by side, with a tail behind them or without: each says its own item and then what its children say, these with a tail where it is a
-- list. A tail says nothing, and nothing stands behind a term's children
pub data Says : (tailed : Bool) → Forest → List Item → Type 0 where
  no_more : Says false none []
  tail : Says true (more (leaf 106 []) none) []
  one_more : {x : Bool} {i : Item} {tag : ℕ} {front : List ℕ} {ks ts : Forest} {l m : List Item} →
      Itself i tag front ks → Says (eqb tag 108) ks l → Says x ts m → Says x (more (node tag front ks []) ts) (i ∷ (l ++ m))
