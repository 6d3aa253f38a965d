-- A row by its numbers: three of them are an item, and the rest of the row stands behind them. Assumes nothing.
use Rattle.std.proofs.Common.{◌≡◌, ℕ, suc, ◌+◌, ◌%◌, ◌≤◌, Bool, true, false, cond, ◌&&◌, leb, List, [], ◌∷◌, length, get_or, drop, refl, ap, ◌∙◌, arith, drop-cons}
use lib.Seq.{drop-length}
use Rattle.layouts.specs.Tree.{count}
use Rattle.measure.specs.Item.{Item, item_of, items_of, kids_of, allowed}
use Rattle.measure.specs.Term.{trees_of, sound}

module _ (texts row : List ℕ) where
  -- the items from number i of the row on
  abbrev pub from : ℕ → List Item
  from i = items_of texts (drop i row)

  -- the item there
  abbrev pub at : ℕ → Item
  at i = item_of texts (get_or row i 0) (get_or row (i + 1) 0) (get_or row (i + 2) 0)

  pub one_more : (i : ℕ) → i + 3 ≤ length row → from i ≡ at i ∷ from (i + 3)
  unfolding items_of
  one_more i h =
      let a : drop i row ≡ get_or row i 0 ∷ drop (suc i) row = drop-cons row i 0 (omega arith) in
      let b : drop (suc i) row ≡ get_or row (suc i) 0 ∷ drop (suc (suc i)) row = drop-cons row (suc i) 0 (omega arith) in
      let d : drop (suc (suc i)) row ≡ get_or row (suc (suc i)) 0 ∷ drop (suc (suc (suc i))) row = drop-cons row (suc (suc i)) 0 (omega arith) in
      let x : i + 1 ≡ suc i = omega arith in
      let y : i + 2 ≡ suc (suc i) = omega arith in
      let z : i + 3 ≡ suc (suc (suc i)) = omega arith in
      rw (x, y, z) (ap (items_of texts) (a ∙ ap (λ (r : List ℕ). get_or row i 0 ∷ r) (b ∙ ap (λ (r : List ℕ). get_or row (suc i) 0 ∷ r) d)))

  pub no_more : {i : ℕ} → i ≡ length row → from i ≡ []
  unfolding items_of
  no_more e = rw (e, drop-length row) refl

-- numbers that are left over are an item that isn't allowed, and so no row with some is sound
pub leftover : (texts row : List ℕ) → ¬ (length row % 3 ≡ 0) → sound (items_of texts row) ≡ false
unfolding items_of sound allowed
leftover texts [] h = absurd (h refl)
leftover texts (kind ∷ []) h = refl
leftover texts (kind ∷ x ∷ []) h = refl
leftover texts (kind ∷ x ∷ y ∷ row) h = go (allowed (item_of texts kind x y) && leb (kids_of (item_of texts kind x y)) (count (trees_of (items_of texts row)))) (leftover texts row (λ e. h (omega arith)))
  where
    go : (z : Bool) → sound (items_of texts row) ≡ false → (z && sound (items_of texts row)) ≡ false
    go true e = e
    go false e = refl

-- where a sound row isn't at its end, three numbers are there
pub three : (texts row : List ℕ) → sound (items_of texts row) ≡ true → 1 ≤ count (trees_of (items_of texts row)) → 3 ≤ length row
unfolding items_of trees_of sound count allowed
three texts [] s c = absurd (omega arith)
three texts (kind ∷ []) s c = let z : false ≡ true = s in absurd (omega (arith, ap {B = ℕ} (λ (t : Bool). cond t 1 0) z))
three texts (kind ∷ x ∷ []) s c = let z : false ≡ true = s in absurd (omega (arith, ap {B = ℕ} (λ (t : Bool). cond t 1 0) z))
three texts (kind ∷ x ∷ y ∷ row) s c = omega arith
