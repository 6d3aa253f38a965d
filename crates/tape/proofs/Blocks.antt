-- The laws of a term's cells, as their words lie on a tape.
--
-- The cells from c up to d are a block where their spans lie from p up to e and the cell `up` is around them. Each counts itself and none
-- past d. Of two, the first starts before the second; where it counts the second, it ends no sooner and isn't behind the second's parent;
-- where it doesn't, it ends before the second starts. No cells are a block, two blocks side by side are one, and so are a term's own cell
-- and the block of its children: by induction, a term's cells are one. Assumes nothing.
use Prim.Native.Nat.{ℕ, ◌+◌, ◌*◌, ◌≤◌, ◌<◌}
use native.Mathlib.Omega.{arith}
use mathlib.Core.Path.{◌≡◌, refl, ap, sym, subst, ◌∙◌}
use mathlib.Core.Bool.{Bool, true, false}
use mathlib.Core.List.{List}
use lib.Dec.{ltb}
use lib.ListN.{length, get_or, drop, length-append}
use lib.Seq.{get_or-take, get_or-drop}
use borrow.Author.Tests.{ltb-true, ltb-false}
use Rattle.layouts.specs.Tree.{Tree, Forest, Stands, node, none, more, bytes, bytes_all, size, sizes, tag_of}
use Rattle.layouts.specs.Nodes.{Node}
use Rattle.layouts.proofs.Stands.{left, right}
use Rattle.tape.specs.Cells.{cell_words, cell_of, words}
use Rattle.tape.specs.Inner.Fill.{cell, words_all}
use Rattle.tape.specs.Spans.{tag_at, start_at, end_at, parent_at, size_at}
use Rattle.tape.proofs.Words.{words-node, words_all-more, words-length}

-- a number lies before m, or from m on
pub by_place : {A : Type 0} (i m : ℕ) → (i < m → A) → (m ≤ i → A) → A
by_place {A} i m f g = go (ltb i m) refl
  where
    go : (x : Bool) → ltb i m ≡ x → A
    go true e = f (ltb-true i m e)
    go false e = g (ltb-false i m e)

-- what holds at c and behind it holds from c on
pub from : (P : ℕ → Type 0) (c : ℕ) → P c → ((i : ℕ) → c < i → P i) → (i : ℕ) → c ≤ i → P i
from P c z s i h = by_place i (c + 1) (λ k. let e : c ≡ i = omega arith in subst P e z) (λ k. s i (omega arith))

-- a term's bytes are its tag, what stands in front of its children, theirs, and what stands behind them
spread : (tag : ℕ) (front : List ℕ) (ts : Forest) (back : List ℕ) → length (bytes (node tag front ts back)) ≡ 1 + length front + length (bytes_all ts) + length back
unfolding bytes
spread tag front ts back = simp length-append (omega arith)

module _ (tape : List ℕ) where
  -- the five words of the cell c, the cell of a term that starts at p, its parent the cell `up`
  pub record Own (t : Tree) (p up c : ℕ) : Type 0 where
    pub tag : tag_at tape c ≡ tag_of t
    pub start : start_at tape c ≡ p
    pub end : end_at tape c ≡ p + length (bytes t)
    pub parent : parent_at tape c ≡ up
    pub counted : size_at tape c ≡ size t

  -- where a cell stands, these are its words
  pub cell-words : (n : Node) (c : ℕ) → Stands tape (cell_words * c) (cell_of n) → Own n.tree n.start n.parent c
  cell-words n c s =
      record { tag = word 0 (omega arith); start = word 1 (omega arith); end = word 2 (omega arith); parent = word 3 (omega arith); counted = word 4 (omega arith) }
    where
      word : (k : ℕ) → k < cell_words → get_or tape (cell_words * c + k) 0 ≡ get_or (cell_of n) k 0
      word k h =
          sym (get_or-drop (cell_words * c) tape k 0)
          ∙ sym (get_or-take cell_words (drop (cell_words * c) tape) k 0 h)
          ∙ ap (λ (r : List ℕ). get_or r k 0) s.same

  -- where the words of a term stand, its own cell comes first
  pub own : (t : Tree) (p up c : ℕ) → Stands tape (cell_words * c) (words t p up c) → Own t p up c
  own (node tag front ts back) p up c s =
      let n : Node = record { tree = node tag front ts back; start = p; parent = up } in
      cell-words n c (left tape (cell_words * c) (cell_of n) _ (rw words-node at s))

  -- and then its children's
  pub kids : (tag : ℕ) (front : List ℕ) (ts : Forest) (back : List ℕ) (p up c : ℕ) → Stands tape (cell_words * c) (words (node tag front ts back) p up c) →
      Stands tape (cell_words * (c + 1)) (words_all ts (p + 1 + length front) c (c + 1))
  kids tag front ts back p up c s =
      let t : Tree = node tag front ts back in
      let e : cell_words * c + cell_words ≡ cell_words * (c + 1) = omega arith in
      rw e at (right tape (cell_words * c) (cell tag p (p + length (bytes t)) up (size t)) _ (rw words-node at s))

  -- of terms side by side, the first one's and then the others'
  module _ (t : Tree) (ts : Forest) (p up c : ℕ) (s : Stands tape (cell_words * c) (words_all (more t ts) p up c)) where
    pub first : Stands tape (cell_words * c) (words t p up c)
    first = left tape (cell_words * c) (words t p up c) _ (rw words_all-more at s)

    pub others : Stands tape (cell_words * (c + size t)) (words_all ts (p + length (bytes t)) up (c + size t))
    others =
        let e : cell_words * c + length (words t p up c) ≡ cell_words * (c + size t) = omega (arith, words-length t p up c) in
        rw e at (right tape (cell_words * c) (words t p up c) _ (rw words_all-more at s))

  -- a cell of a block that ends before cell d, with its span from p up to e
  pub record Cell (d p e i : ℕ) : Type 0 where
    pub after : p ≤ start_at tape i
    pub some : start_at tape i < end_at tape i
    pub before : end_at tape i ≤ e
    pub itself : 1 ≤ size_at tape i
    pub fits : i + size_at tape i ≤ d

  -- its parent is `up` or a cell behind that, and counts it
  pub record Parent (up i : ℕ) : Type 0 where
    pub within : up ≤ parent_at tape i
    pub less : parent_at tape i < i
    pub counts : i < parent_at tape i + size_at tape (parent_at tape i)

  -- a cell and one behind it
  pub record Pair (i j : ℕ) : Type 0 where
    pub rises : start_at tape i < start_at tape j
    pub inner : j < i + size_at tape i → end_at tape j ≤ end_at tape i
    pub innermost : j < i + size_at tape i → i ≤ parent_at tape j
    pub outer : i + size_at tape i ≤ j → end_at tape i ≤ start_at tape j

  pub record Block (up c d p e : ℕ) : Type 0 where
    pub cells : (i : ℕ) → c ≤ i → i < d → Cell d p e i
    -- only the root, which is its own parent, isn't behind `up`
    pub parents : (i : ℕ) → c ≤ i → i < d → up < i → Parent up i
    pub pairs : (i j : ℕ) → c ≤ i → i < j → j < d → Pair i j

  -- two blocks side by side
  joined : (up c m d p q e : ℕ) → c ≤ m → m ≤ d → p ≤ q → q ≤ e → Block up c m p q → Block up m d q e → Block up c d p e
  joined up c m d p q e h k l n x y =
      record {
        cells = λ i a z. by_place i m (λ b. omega (arith, x.cells i a b)) (λ b. omega (arith, y.cells i b z));
        parents = λ i a z. by_place i m (λ b. x.parents i a b) (λ b. y.parents i b z);
        pairs =
            λ i j a o z.
            by_place j m (λ b. x.pairs i j a o b)
            (λ b. by_place i m (λ f. omega (arith, x.cells i a f, y.cells j b z)) (λ f. y.pairs i j f o z));
      }

  -- a term's own cell, with the block of its children
  headed : (t : Tree) (up c d p q e f : ℕ) → Own t p up c → up ≤ c → d ≤ up + size_at tape up → d ≡ c + size t → f ≡ p + length (bytes t) →
      p < q → q ≤ e → e ≤ f → Block c (c + 1) d q e → Block up c d p f
  headed t up c d p q e f o h k r v m n l x =
      record {
        cells = from (λ (i : ℕ). i < d → Cell d p f i) c (λ z. omega arith) (λ i a z. omega (arith, x.cells i (omega arith) z));
        parents =
            from (λ (i : ℕ). i < d → up < i → Parent up i) c (λ z a. omega (arith, ap (size_at tape) o.parent))
            (λ i a z b. omega (arith, x.parents i (omega arith) z a));
        pairs =
            λ i j a g z.
            from (λ (i : ℕ). i < j → Pair i j) c (λ b. omega (arith, x.cells j (omega arith) z, x.parents j (omega arith) z b))
            (λ i a b. x.pairs i j (omega arith) b z) i a g;
      }

  -- a term's cells, and those of terms side by side, where the cell `up` counts them
  mutual
    unfolding bytes size

    pub block : (t : Tree) (p up c d e : ℕ) → up ≤ c → d ≤ up + size_at tape up → d ≡ c + size t → e ≡ p + length (bytes t) →
        Stands tape (cell_words * c) (words t p up c) → Block up c d p e
    block (node tag front ts back) p up c d e h k m n s =
        let o = own (node tag front ts back) p up c s in
        let q : ℕ = p + 1 + length front in
        let l = spread tag front ts back in
        headed (node tag front ts back) up c d p q (q + length (bytes_all ts)) e o h k m n (omega arith) (omega arith) (omega arith)
        (blocks ts q c (c + 1) d (q + length (bytes_all ts)) (omega arith) (omega arith) (omega arith) refl (kids tag front ts back p up c s))

    blocks : (ts : Forest) (p up c d e : ℕ) → up ≤ c → d ≤ up + size_at tape up → d ≡ c + sizes ts → e ≡ p + length (bytes_all ts) →
        Stands tape (cell_words * c) (words_all ts p up c) → Block up c d p e
    blocks none p up c d e h k m n s = omega arith
    blocks (more t ts) p up c d e h k m n s =
        let l = length-append (bytes t) (bytes_all ts) in
        joined up c (c + size t) d p (p + length (bytes t)) e (omega arith) (omega arith) (omega arith) (omega arith)
        (block t p up c (c + size t) (p + length (bytes t)) h (omega arith) refl refl (first t ts p up c s))
        (blocks ts (p + length (bytes t)) up (c + size t) d e (omega arith) k (omega arith) (omega arith) (others t ts p up c s))
