-- An item's own bytes: those before its children, and those behind them.
use Rattle.std.specs.Prelude.{◌≡◌, ℕ, ◌+◌, ◌*◌, ◌<◌, ◌≤◌, cond, ◌⊎◌, List, [], ◌∷◌, length, ◌==◌, nat_le, Option, Some, None, IfSome}
use Rattle.numbers.specs.Caps as cap
use Rattle.layouts.specs.Tree.{Tree, node, none}
use Rattle.measure.specs.Item.{Item, integer, double, atom, binary, tuple, list, map, nil, wrong, item_of, allowed}
use Rattle.measure.specs.Term.{tree_of}

abbrev pub head_in : Tree → List ℕ
head_in (node tag front kids back) = tag ∷ front

unfoldable pub head_of : Item → List ℕ
head_of i = head_in (tree_of i none)

-- a list's tail
unfoldable pub tail_of : Item → List ℕ
tail_of (integer z) = []
tail_of (double n) = []
tail_of (atom s) = []
tail_of (binary s) = []
tail_of (tuple n) = []
tail_of (list n) = 106 ∷ []
tail_of (map n) = []
tail_of nil = []
tail_of wrong = []

-- how many they are; None where the item isn't allowed
unfoldable pub own_of : Item → Option ℕ
own_of i = cond (allowed i) (Some (length (head_of i) + length (tail_of i))) None

-- the kinds of items that have children
abbrev pub Parent : ℕ → Type 0
Parent kind = (5 ≤ kind) × (kind ≤ 7)

abbrev pub Leaf : ℕ → Type 0
Leaf kind = (kind < 5) ⊎ (7 < kind)

-- r is so many of an item without children, and None of any other
pub record Alone (i : Item) (kind : ℕ) (r : Option ℕ) : Type 0 where
  pub is : Leaf kind → r ≡ own_of i
  pub other : Parent kind → r ≡ None
  pub small : IfSome r (λ n. n ≤ 100000005)

-- r is so many of an item with children, whatever the texts and the field that it doesn't use, and None of any other
pub record Around (kind x : ℕ) (r : Option ℕ) : Type 0 where
  pub is : Parent kind → (texts : List ℕ) (y : ℕ) → r ≡ own_of (item_of texts kind x y)
  pub other : Leaf kind → r ≡ None
  pub small : IfSome r (λ n. n ≤ 6)

-- what is still to come behind an item's first bytes: its children by twos, and one for a tail. Above the caps, where it is asked of no item, it counts
-- no child
unfoldable pub twos_of : ℕ → ℕ
twos_of x = cond (nat_le x cap.elements) (2 * x) 0

unfoldable pub owes_of : (kind x : ℕ) → ℕ
owes_of kind x = cond (kind == 5) (twos_of x) (cond (kind == 6) (twos_of x + 1) (cond (kind == 7) (2 * twos_of x) 0))
