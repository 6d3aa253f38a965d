-- What stores leave on a tape: a cell that is written, and closed when its children's words stand behind it, and the words of terms side by side.
-- Assumes nothing.
use Prim.Native.Nat.{ℕ, zero, suc, ◌+◌, ◌*◌, ◌≤◌, ◌<◌}
use native.Mathlib.Nat.{add-zero}
use native.Mathlib.Omega.{arith}
use mathlib.Core.Path.{◌≡◌, refl, ap, sym, ◌∙◌}
use mathlib.Core.List.{List, [], ◌∷◌, ◌++◌}
use lib.ListN.{length, get_or, set, length-set}
use lib.Seq.{sets, set_comm, set-set, get_or-set_same, get_or-set_other}
use Rattle.tape.specs.Cells.{cell_words}
use Rattle.tape.specs.Inner.Fill.{cell, closed, lay}

pub sets_append : (l : List ℕ) (i : ℕ) (xs ys : List ℕ) → sets l i (xs ++ ys) ≡ sets (sets l i xs) (i + length xs) ys
sets_append l i [] ys = let e : i + 0 ≡ i = omega arith in ap (λ (k : ℕ). sets l k ys) (sym e)
sets_append l i (x ∷ xs) ys =
    let e : suc i + length xs ≡ i + suc (length xs) = omega arith in
    sets_append (set l i x) (suc i) xs ys ∙ ap (λ (k : ℕ). sets (sets (set l i x) (suc i) xs) k ys) e

set_sets : (l : List ℕ) (i : ℕ) (ws : List ℕ) (j v : ℕ) → j < i → set (sets l i ws) j v ≡ sets (set l j v) i ws
set_sets l i [] j v h = refl
set_sets l i (w ∷ ws) j v h =
    set_sets (set l i w) (suc i) ws j v (omega arith) ∙ ap (λ (k : List ℕ). sets k (suc i) ws) (set_comm l i j w v (λ e. omega arith))

-- words before those that are written stay
pub before-laid : (tape : List ℕ) (i : ℕ) (ws : List ℕ) (j : ℕ) → j < i → get_or (sets tape i ws) j 0 ≡ get_or tape j 0
before-laid tape i [] j h = refl
before-laid tape i (w ∷ ws) j h = before-laid (set tape i w) (suc i) ws j (omega arith) ∙ get_or-set_other tape i j w 0 (λ e. omega arith)

-- as many words as were written, or more, written over them
pub written_over : (tape : List ℕ) (i : ℕ) (xs ys : List ℕ) → length xs ≤ length ys → sets (sets tape i xs) i ys ≡ sets tape i ys
written_over tape i [] ys h = refl
written_over tape i (x ∷ xs) [] h = absurd (omega arith)
written_over tape i (x ∷ xs) (y ∷ ys) h =
    ap (λ (z : List ℕ). sets z (suc i) ys) (set_sets (set tape i x) (suc i) xs i y (omega arith) ∙ ap (λ (z : List ℕ). sets z (suc i) xs) (set-set tape i x y))
    ∙ written_over (set tape i y) (suc i) xs ys (omega arith)

-- what an open cell held is gone when it is closed
pub closed_again : (tape : List ℕ) (c a k : ℕ) (ws : List ℕ) (e n : ℕ) →
    closed (lay (closed tape c a k) (c + 1) ws) c e n ≡ closed (lay tape (c + 1) ws) c e n
closed_again tape c a k ws e n =
    let i : ℕ = c * cell_words in
    let j : ℕ = (c + 1) * cell_words in
    let under : (z : List ℕ) → closed (sets z j ws) c e n ≡ sets (closed z c e n) j ws =
    λ z. ap (λ (y : List ℕ). set y (i + 4) n) (set_sets z j ws (i + 2) e (omega arith)) ∙ set_sets (set z (i + 2) e) j ws (i + 4) n (omega arith) in
    let over : closed (closed tape c a k) c e n ≡ closed tape c e n =
    ap (λ (y : List ℕ). set y (i + 4) n) (set_comm (set tape (i + 2) a) (i + 4) (i + 2) k e (λ h. omega arith) ∙ ap (λ (y : List ℕ). set y (i + 4) k) (set-set tape (i + 2) a e))
    ∙ set-set (set tape (i + 2) e) (i + 4) k n in
    under (closed tape c a k) ∙ ap (λ (y : List ℕ). sets y j ws) over ∙ sym (under tape)

-- a word that is stored over one of those that were written, and one of them read back
set_over : (l : List ℕ) (i : ℕ) (ws : List ℕ) (k v : ℕ) → k < length ws → set (sets l i ws) (i + k) v ≡ sets l i (set ws k v)
set_over l i [] k v h = absurd (omega arith)
set_over l i (w ∷ ws) zero v h = rw add-zero (set_sets (set l i w) (suc i) ws i v (omega arith) ∙ ap (λ (z : List ℕ). sets z (suc i) ws) (set-set l i w v))
set_over l i (w ∷ ws) (suc k) v h = let e : i + suc k ≡ suc i + k = omega arith in rw e (set_over (set l i w) (suc i) ws k v (omega arith))

laid_read : (l : List ℕ) (i : ℕ) (ws : List ℕ) (k : ℕ) → k < length ws → i + length ws ≤ length l → get_or (sets l i ws) (i + k) 0 ≡ get_or ws k 0
laid_read l i [] k h f = absurd (omega arith)
laid_read l i (w ∷ ws) zero h f = rw add-zero (before-laid (set l i w) (suc i) ws i (omega arith) ∙ get_or-set_same l i w 0 (omega arith))
laid_read l i (w ∷ ws) (suc k) h f =
    let e : i + suc k ≡ suc i + k = omega arith in
    rw e (laid_read (set l i w) (suc i) ws k (omega arith) (omega (arith, length-set l i w)))

module _ (tape : List ℕ) (c tag p up : ℕ) where
  -- a cell that is written, has its children's words written behind it, and is closed
  pub cell-closed : (a k e n : ℕ) (ws : List ℕ) → closed (lay (lay tape c (cell tag p a up k)) (c + 1) ws) c e n ≡ lay tape c (cell tag p e up n ++ ws)
  cell-closed a k e n ws =
      let i : ℕ = c * cell_words in
      let j : (c + 1) * cell_words ≡ i + 5 = omega arith in
      ap (λ (z : ℕ). closed (sets (lay tape c (cell tag p a up k)) z ws) c e n) j
      ∙ ap (λ (z : List ℕ). closed z c e n) (sym (sets_append tape i (cell tag p a up k) ws))
      ∙ ap (λ (z : List ℕ). set z (i + 4) n) (set_over tape i (cell tag p a up k ++ ws) 2 e (omega arith))
      ∙ set_over tape i (cell tag p e up k ++ ws) 4 n (omega arith)

  -- what it holds while its children are written, read back
  module _ (a k : ℕ) (h : c * cell_words + 5 ≤ length tape) where
    pub end_read : get_or (lay tape c (cell tag p a up k)) (c * cell_words + 2) 0 ≡ a
    end_read = laid_read tape (c * cell_words) (cell tag p a up k) 2 (omega arith) h

    pub parent_read : get_or (lay tape c (cell tag p a up k)) (c * cell_words + 3) 0 ≡ up
    parent_read = laid_read tape (c * cell_words) (cell tag p a up k) 3 (omega arith) h

    pub size_read : get_or (lay tape c (cell tag p a up k)) (c * cell_words + 4) 0 ≡ k
    size_read = laid_read tape (c * cell_words) (cell tag p a up k) 4 (omega arith) h
