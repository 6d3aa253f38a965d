-- The trees of a row say the row. Assumes nothing.
use Prim.Native.Nat.{ℕ, zero, suc}
use mathlib.Core.Path.{◌≡◌, refl, ap, ◌∙◌}
use mathlib.Core.Bool.{true, false}
use mathlib.Core.List.{List, [], ◌∷◌, ◌++◌, append_assoc}
use Rattle.layouts.specs.Tree.{Tree, Forest, more}
use Rattle.measure.specs.Item.{Item, kids_of}
use Rattle.measure.specs.Term.{first, behind, trees_of, sound}
use Rattle.measure.proofs.Forests.{count-first}
use Rattle.measure.proofs.Laid.{sound-is}
use Rattle.roundtrip.proofs.Says.{Says, no_more, one_more}
use Rattle.roundtrip.proofs.Items.{SaysOne, one, item_says}

-- the first n trees say the first items, and those behind them the rest
record Parted (n : ℕ) (ts : Forest) (s : List Item) : Type 0 where
  front : List Item
  rest : List Item
  kids : Says false (first n ts) front
  others : Says false (behind n ts) rest
  both : front ++ rest ≡ s

parted : (n : ℕ) {ts : Forest} {s : List Item} → Says false ts s → Parted n ts s
unfolding first behind
parted zero {s = s} w = record { front = []; rest = s; kids = no_more; others = w; both = refl }
parted (suc n) no_more = record { front = []; rest = []; kids = no_more; others = no_more; both = refl }
parted (suc n) (one_more {i = i} {l = l} f k w) =
    let p = parted n w in
    record {
      front = i ∷ (l ++ p.front);
      rest = p.rest;
      kids = one_more f k p.kids;
      others = p.others;
      both = ap (λ (r : List Item). i ∷ r) (append_assoc l p.front p.rest ∙ ap (λ (r : List Item). l ++ r) p.both);
    }

-- a tree before the others
led : {i : Item} {l m : List Item} {t : Tree} {ts : Forest} → SaysOne i l t → Says false ts m → Says false (more t ts) (i ∷ (l ++ m))
led (one f k) w = one_more f k w

pub same : (s : List Item) → sound s ≡ true → Says false (trees_of s) s
unfolding trees_of
same [] e = no_more
same (i ∷ s) e =
    let n = kids_of i in
    let h = sound-is i s e in
    let p = parted n (same s h.rest) in
    rw p.both at (led (item_says i (first n (trees_of s)) h.item (count-first n (trees_of s) h.kids) p.kids) p.others)
