-- A row tried at a place of a text, as the code does it: the first byte tells whether it is this row, and then the row decides. Assumes nothing.
use Rattle.std.proofs.Common.{◌≡◌, ℕ, suc, ◌+◌, ◌<◌, ◌≤◌, Bool, true, false, ◌&&◌, leb, List, [], ◌∷◌, length, get_or, drop, sym, refl, ap, ◌∙◌, ap₂, arith, length-drop, drop-cons, eq-eqb, ne_eqb, le-leb}
use mathlib.Core.Bool.{and-true, and_assoc}
use borrow.Author.Tests.{lt-leb}
use Rattle.utf8.specs.Inner.Table.{Range, ◌to◌, has, opens, fits, undecided, tried, by_rows}
use Rattle.utf8.proofs.ByRows.{fits-true}

-- the code's test of a byte
pub too_low : (low high x : ℕ) → x < low → false ≡ has (low to high) x
unfolding has
too_low low high x h = rw (lt-leb low x h)

pub from_low : (low high x : ℕ) → low ≤ x → leb x high ≡ has (low to high) x
unfolding has
from_low low high x h = rw (le-leb low x h)

-- what the rows before have decided stays
pub kept : (n : ℕ) (row : List Range) (s : List ℕ) → (n ≡ undecided → ⊥) → n ≡ tried n row s
unfolding tried
kept n row s h = rw (ne_eqb n undecided h)

module _ (s : List ℕ) (i : ℕ) where
  from : i < length s → drop i s ≡ get_or s i 0 ∷ drop (i + 1) s
  from h = let e : suc i ≡ i + 1 = omega arith in drop-cons s i 0 h ∙ ap (λ (j : ℕ). get_or s i 0 ∷ drop j s) e

  -- byte by byte
  fits_on : (range : Range) (row : List Range) → i < length s → fits (range ∷ row) (drop i s) ≡ has range (get_or s i 0) && fits row (drop (i + 1) s)
  unfolding fits
  fits_on range row h = ap (fits (range ∷ row)) (from h)

  -- a row's other bytes aren't there
  pub cut : (row : List Range) → i ≤ length s → length s < i + length row → fits row (drop i s) ≡ false
  cut row k h = go (fits row (drop i s)) refl
    where
      go : (t : Bool) → fits row (drop i s) ≡ t → fits row (drop i s) ≡ false
      go true e = absurd (let l = simp length-drop at (fits-true row (drop i s) e).0 in omega arith)
      go false e = e

  module _ (n : ℕ) (range : Range) (row : List Range) (h : i < length s) (e : n ≡ undecided) where
    opens_on : opens (range ∷ row) (drop i s) ≡ has range (get_or s i 0)
    unfolding opens
    opens_on = ap (opens (range ∷ row)) (from h)

    pub another : has range (get_or s i 0) ≡ false → undecided ≡ tried n (range ∷ row) (drop i s)
    unfolding tried
    another f = rw (eq-eqb n undecided e, opens_on, f)

    pub taken : has range (get_or s i 0) ≡ true → fits row (drop (i + 1) s) ≡ true → suc (length row) ≡ tried n (range ∷ row) (drop i s)
    unfolding tried
    taken f g = rw (eq-eqb n undecided e, opens_on, fits_on range row h, f, g)

    pub refused : has range (get_or s i 0) ≡ true → fits row (drop (i + 1) s) ≡ false → 0 ≡ tried n (range ∷ row) (drop i s)
    unfolding tried
    refused f g = rw (eq-eqb n undecided e, opens_on, fits_on range row h, f, g)

-- a row of one byte has no others
pub all : (s : List ℕ) → fits [] s ≡ true
unfolding fits
all s = refl

-- the code's tests of several bytes, by what each of them tells
pub tests_2 : {a b p q t : Bool} → a ≡ p → b ≡ q → (a && b) ≡ t → (p && q) ≡ t
tests_2 e f g = sym (ap₂ ◌&&◌ e f) ∙ g

pub tests_3 : {a b c p q r t : Bool} → a ≡ p → b ≡ q → c ≡ r → (a && b && c) ≡ t → (p && q && r) ≡ t
tests_3 e f g h = sym (ap₂ ◌&&◌ (ap₂ ◌&&◌ e f) g) ∙ h

-- the bytes behind the first, by the code's test of each
module _ (s : List ℕ) (i : ℕ) where
  next_on : (k : ℕ) (range : Range) (row : List Range) → i + suc k ≤ length s
      → fits (range ∷ row) (drop (i + k) s) ≡ has range (get_or s (i + k) 0) && fits row (drop (i + suc k) s)
  next_on k range row h =
      let e : i + k + 1 ≡ i + suc k = omega arith in
      fits_on s (i + k) range row (omega arith) ∙ ap (λ (j : ℕ). has range (get_or s (i + k) 0) && fits row (drop j s)) e

  last_on : (k : ℕ) (range : Range) → i + suc k ≤ length s → fits (range ∷ []) (drop (i + k) s) ≡ has range (get_or s (i + k) 0)
  unfolding fits
  last_on k range h = next_on k range [] h ∙ and-true _

  pub rest_2 : (q : Range) → i + 2 ≤ length s → fits (q ∷ []) (drop (i + 1) s) ≡ has q (get_or s (i + 1) 0)
  rest_2 q h = last_on 1 q h

  pub rest_3 : (q r : Range) → i + 3 ≤ length s → fits (q ∷ r ∷ []) (drop (i + 1) s) ≡ has q (get_or s (i + 1) 0) && has r (get_or s (i + 2) 0)
  rest_3 q r h = next_on 1 q (r ∷ []) (omega arith) ∙ ap (λ (b : Bool). has q (get_or s (i + 1) 0) && b) (last_on 2 r h)

  pub rest_4 : (q r t : Range) → i + 4 ≤ length s
      → fits (q ∷ r ∷ t ∷ []) (drop (i + 1) s) ≡ has q (get_or s (i + 1) 0) && has r (get_or s (i + 2) 0) && has t (get_or s (i + 3) 0)
  rest_4 q r t h =
      next_on 1 q (r ∷ t ∷ []) (omega arith)
      ∙ ap (λ (b : Bool). has q (get_or s (i + 1) 0) && b) (next_on 2 r (t ∷ []) (omega arith) ∙ ap (λ (b : Bool). has r (get_or s (i + 2) 0) && b) (last_on 3 t h))
      ∙ sym (and_assoc (has q (get_or s (i + 1) 0)) (has r (get_or s (i + 2) 0)) (has t (get_or s (i + 3) 0)))

-- the rows one behind the other
pub last_row : (n : ℕ) (s : List ℕ) → n ≡ by_rows n [] s
unfolding by_rows
last_row n s = refl

pub row_on : (m : ℕ) (row : List Range) (rows : List (List Range)) (s : List ℕ) {n : ℕ} → n ≡ tried m row s → by_rows n rows s ≡ by_rows m (row ∷ rows) s
unfolding by_rows
row_on m row rows s e = ap (λ (k : ℕ). by_rows k rows s) e
