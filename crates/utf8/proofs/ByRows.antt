-- Going by the rows of Unicode's table finds the character that stands at the front of a list of bytes (`by_table`), or that there is none
-- (`no_character`). Assumes nothing.
use Rattle.std.proofs.Common.{◌≡◌, ℕ, suc, ◌<◌, ◌≤◌, Bool, true, false, ◌&&◌, ltb, leb, ◌⊎◌, List, [], ◌∷◌, ◌++◌, length, take, drop, Some, None, sym, refl, ap, ◌∙◌, subst, inl, inr, ⊎_elim, arith, take-append-drop, ltb-true, ne_eqb, le-leb, leb-true}
use mathlib.Core.Bool.{false≢true, and-eq-true_iff}
use borrow.Author.Tests.{lt-leb}
use Rattle.utf8.specs.Unicode.{encode}
use Rattle.utf8.specs.Inner.Check.{Begins, Char, none, one}
use Rattle.utf8.specs.Inner.Table.{Range, ◌to◌, table, Fits, done, next, Listed, here, there, has, opens, fits, undecided, tried, by_rows}
use Rattle.utf8.proofs.Table.{listed, has-row}

-- The rows rise by their first byte, so that it tells the row; and none is so long that its length would say `undecided`.
data Rising : ℕ → List (List Range) → Type 0 where
  end : {m : ℕ} → Rising m []
  then : {m low high : ℕ} {row : List Range} {rows : List (List Range)} → m ≤ low → low ≤ high → length row < 4 → Rising (suc high) rows
      → Rising m (((low to high) ∷ row) ∷ rows)

unfoldable rises : ℕ → List (List Range) → Bool
rises m [] = true
rises m ([] ∷ rows) = false
rises m (((low to high) ∷ row) ∷ rows) = leb m low && (leb low high && (ltb (length row) 4 && rises (suc high) rows))

both : {p q : Bool} → (p && q) ≡ true → (p ≡ true) × (q ≡ true)
both {p} {q} e = (and-eq-true_iff p q).0 e

risen : (m : ℕ) (rows : List (List Range)) → rises m rows ≡ true → Rising m rows
unfolding rises
risen m [] e = end
risen m ([] ∷ rows) e = absurd (false≢true e)
risen m (((low to high) ∷ row) ∷ rows) e =
    let f = both e in
    let g = both f.1 in
    let h = both g.1 in
    then (leb-true m low f.0) (leb-true low high g.0) (ltb-true (length row) 4 h.0) (risen (suc high) rows h.1)

table-rises : Rising 0 table
unfolding table rises
table-rises = risen 0 table refl

-- a byte within a range, and one outside
has_in : {low high x : ℕ} → low ≤ x → x ≤ high → has (low to high) x ≡ true
unfolding has
has_in {low} {high} {x} a b = rw (le-leb low x a, le-leb x high b)

has_above : {low high x : ℕ} → low ≤ x → high < x → has (low to high) x ≡ false
unfolding has
has_above {low} {high} {x} a b = rw (le-leb low x a, lt-leb x high b)

-- what has been decided stays
decided : (n : ℕ) (rows : List (List Range)) (s : List ℕ) → (n ≡ undecided → ⊥) → by_rows n rows s ≡ n
unfolding by_rows tried
decided n [] s h = refl
decided n (row ∷ rows) s h = rw (ne_eqb n undecided h) (decided n rows s h)

-- a sequence of a row, at the front of a list
fits-length : {row : List Range} {l : List ℕ} → Fits row l → length row ≡ length l
fits-length done = refl
fits-length (next a b f) = ap suc (fits-length f)

fits-front : {row : List Range} {l : List ℕ} (t : List ℕ) → Fits row l → fits row (l ++ t) ≡ true
unfolding fits
fits-front t done = refl
fits-front t (next a b f) = rw (has_in a b) (fits-front t f)

-- the first byte of a listed sequence is no lower than the rows', so that the rows before its own pass it over
no_lower : {m x : ℕ} {rows : List (List Range)} {l : List ℕ} → Rising m rows → Listed rows (x ∷ l) → m ≤ x
no_lower {l = l} (end {m = m}) r = elim r [ ]
no_lower (then a b c d) (here (next e f g)) = omega arith
no_lower (then a b c d) (there r) = let h = no_lower d r in omega arith

not_empty : {m : ℕ} {rows : List (List Range)} → Rising m rows → Listed rows [] → ⊥
not_empty (end {m = m}) r = elim r [ ]
not_empty (then {m = m} {low = low} {high = high} {row = row} {rows = rows} a b c d) (here r) = elim r [ ]
not_empty (then a b c d) (there r) = not_empty d r

passed : {low high : ℕ} (row : List Range) {rows : List (List Range)} (l t : List ℕ) → low ≤ high → Rising (suc high) rows → Listed rows l
    → opens ((low to high) ∷ row) (l ++ t) ≡ false
unfolding opens
passed row [] t a d r = absurd (not_empty d r)
passed row (x ∷ l) t a d r = let h = no_lower d r in has_above (omega arith) (omega arith)

-- a row that hasn't the first byte is passed over, and one that has it decides
module _ (row : List Range) (rows : List (List Range)) (s : List ℕ) where
  pass : opens row s ≡ false → by_rows undecided (row ∷ rows) s ≡ by_rows undecided rows s
  unfolding by_rows tried
  pass e = rw e

  take_it : opens row s ≡ true → fits row s ≡ true → (length row ≡ undecided → ⊥) → by_rows undecided (row ∷ rows) s ≡ length row
  unfolding by_rows tried
  take_it e f h = rw (e, f) (decided (length row) rows s h)

  stop : opens row s ≡ true → fits row s ≡ false → by_rows undecided (row ∷ rows) s ≡ 0
  unfolding by_rows tried
  stop e f = rw (e, f) (decided 0 rows s (λ z. omega arith))

found : {m : ℕ} {rows : List (List Range)} (l t : List ℕ) → Rising m rows → Listed rows l → by_rows undecided rows (l ++ t) ≡ length l
unfolding opens fits
found l t (end {m = m}) r = elim r [ ]
found [] t (then {m = m} {low = low} {high = high} {row = row} {rows = rows} a b c d) (here r) = elim r [ ]
found (x ∷ l) t (then {low = low} {high = high} {row = row} {rows = rows} a b c d) (here (next e f g)) =
    take_it ((low to high) ∷ row) rows (x ∷ (l ++ t)) (has_in e f) (fits-front t (next e f g)) (λ k. omega arith) ∙ ap suc (fits-length g)
found l t (then {low = low} {high = high} {row = row} {rows = rows} a b c d) (there r) =
    pass ((low to high) ∷ row) rows (l ++ t) (passed row l t b d r) ∙ found l t d r

-- what going by the rows of a table answers: `undecided`, 0, or the length of a sequence of theirs that stands at the front
data Told (rows : List (List Range)) (s : List ℕ) (n : ℕ) : Type 0 where
  no : (n ≡ undecided) ⊎ (n ≡ 0) → Told rows s n
  yes : 0 < n → n ≤ length s → Listed rows (take n s) → Told rows s n

has-true : (low high x : ℕ) → has (low to high) x ≡ true → (low ≤ x) × (x ≤ high)
unfolding has
has-true low high x e = let f = both e in (leb-true low x f.0, leb-true x high f.1)

pub fits-true : (row : List Range) (s : List ℕ) → fits row s ≡ true → (length row ≤ length s) × Fits row (take (length row) s)
unfolding fits
fits-true [] s e = (omega arith, done)
fits-true (range ∷ row) [] e = absurd (false≢true e)
fits-true ((low to high) ∷ row) (x ∷ s) e =
    let f = both e in
    let g = has-true low high x f.0 in
    let h = fits-true row s f.1 in
    (omega (arith, h.0), next g.0 g.1 h.1)

told : {m : ℕ} {rows : List (List Range)} (s : List ℕ) → Rising m rows → Told rows s (by_rows undecided rows s)
unfolding by_rows
told s end = no (inl refl)
told s (then {low = low} {high = high} {row = tail} {rows = rows} a b c d) = go (told s d) (opens row s) refl (fits row s) refl
  where
    row : List Range
    row = (low to high) ∷ tail

    further : {n : ℕ} → Told rows s n → Told (row ∷ rows) s n
    further (no z) = no z
    further (yes p q f) = yes p q (there f)

    by : {n : ℕ} → by_rows undecided (row ∷ rows) s ≡ n → Told (row ∷ rows) s n → Told (row ∷ rows) s (by_rows undecided (row ∷ rows) s)
    by e k = subst (λ (n : ℕ). Told (row ∷ rows) s n) (sym e) k

    go : Told rows s (by_rows undecided rows s) → (t : Bool) → opens row s ≡ t → (u : Bool) → fits row s ≡ u → Told (row ∷ rows) s (by_rows undecided (row ∷ rows) s)
    go later false e u f = by (pass row rows s e) (further later)
    go later true e true f =
        let g = fits-true row s f in
        by (take_it row rows s e f (λ k. omega arith)) (yes (omega arith) g.0 (here g.1))
    go later true e false f = by (stop row rows s e f) (no (inr refl))

longer : (l : List ℕ) → Listed table l → 0 < length l
longer [] r = absurd (not_empty table-rises r)
longer (x ∷ l) r = omega arith

shorter : {m : ℕ} {rows : List (List Range)} {l : List ℕ} → Rising m rows → Listed rows l → length l < undecided
shorter {l = l} (end {m = m}) r = elim r [ ]
shorter (then a b c d) (here (next e f g)) = omega (arith, fits-length g)
shorter (then a b c d) (there r) = shorter d r

-- so going by the table finds the character that stands at the front, or that there is none
module _ (s : List ℕ) where
  stands : Begins s → (0 < by_rows undecided table s) × (by_rows undecided table s < undecided)
  stands b =
      let r = has-row b.char b.good in
      let e = ap (by_rows undecided table) b.is ∙ found (encode b.char) b.rest table-rises r in
      (omega (arith, longer _ r, e), omega (arith, shorter table-rises r, e))

  pub no_character : (by_rows undecided table s ≡ 0) ⊎ (by_rows undecided table s ≡ undecided) → Char s None
  no_character e = none (λ b. ⊎_elim (λ z. omega (arith, (stands b).0)) (λ z. omega (arith, (stands b).1)) e)

  pub by_table : ¬ (by_rows undecided table s ≡ undecided) → ¬ (by_rows undecided table s ≡ 0) → Char s (Some (by_rows undecided table s))
  by_table h k = go (by_rows undecided table s) h k (told s table-rises)
    where
      go : (n : ℕ) → ¬ (n ≡ undecided) → ¬ (n ≡ 0) → Told table s n → Char s (Some n)
      go n h k (no (inl z)) = absurd (h z)
      go n h k (no (inr z)) = absurd (k z)
      go n h k (yes p w r) =
          let f = listed (take n s) r in
          one p w f.char f.good (sym (take-append-drop n s) ∙ ap (λ (l : List ℕ). l ++ drop n s) f.is)
