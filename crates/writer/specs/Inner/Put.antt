-- How the bytes are put when it is known that they fit: what the functions of the second pass rely on, and what they leave.
use Rattle.std.specs.Prelude.{◌≡◌, ℕ, ◌+◌, ◌<◌, ◌≤◌, true, List, [], ◌++◌, length, take, drop}
use Rattle.measure.specs.Item.{Item, item_of, allowed}
use Rattle.measure.specs.Term.{accepted, written}
use Rattle.measure.specs.Inner.Own.{head_of}

-- the bytes l were put from p up to q. Those before p and those from `end` on are as they were; between q and `end` anything may stand
pub record Wrote (old new : List ℕ) (p q end : ℕ) (l : List ℕ) : Type 0 where
  pub to : q ≡ p + length l
  pub front : take q new ≡ take p old ++ l
  pub rest : drop end new ≡ drop end old
  pub kept : length new ≡ length old

-- an item's first bytes may be put from p on
pub record HeadFits (i : Item) (p end room : ℕ) : Type 0 where
  pub good : allowed i ≡ true
  pub fits : p + length (head_of i) ≤ end
  pub lent : end ≤ room

-- a row is accepted, and its bytes, which end at `end`, fit
pub record Fits (s : List Item) (end room : ℕ) : Type 0 where
  pub good : accepted s ≡ true
  pub ends : end ≡ length (written s)
  pub lent : end ≤ room

-- the same of an item without children that isn't Nil, and of any other, of which neither the texts nor the second field say anything
pub record LeafFits (i : Item) (kind p end room : ℕ) : Type 0 where
  pub below : kind < 5
  pub head : HeadFits i p end room

pub record ParentFits (kind x p room : ℕ) : Type 0 where
  pub above : 4 < kind
  pub head : HeadFits (item_of [] kind x 0) p room room

-- n bytes of the texts, from `at` on, may be put from p on
pub record TextFits (texts at n p end room : ℕ) : Type 0 where
  pub inside : at + n ≤ texts
  pub fits : p + n ≤ end
  pub lent : end ≤ room
