-- Of a tape that has a term's words at its front: the term's own span, the laws of its cells, and that they are the cells of the term's
-- terms in pre-order, each a whole term of the input. The cells are a block (Blocks.antt), and its laws give those of the tape. Assumes nothing.
use Prim.Native.Nat.{ℕ, zero, suc, ◌+◌, ◌*◌, ◌≤◌, ◌<◌}
use native.Mathlib.Omega.{arith}
use mathlib.Core.Path.{◌≡◌, refl, sym, ◌∙◌}
use mathlib.Core.Logic.{◌⊎◌, inl, inr, ⊎_elim}
use mathlib.Core.Option.{some}
use mathlib.Core.List.{List, [], ◌∷◌, flat_map}
use lib.ListN.{length, get_elem?}
use Rattle.numbers.specs.Allowed.{Allowed}
use Rattle.layouts.specs.Tree.{Tree, Stands, bytes, size}
use Rattle.layouts.specs.Layout.{Laid}
use Rattle.layouts.specs.Nodes.{Node, nodes}
use Rattle.layouts.proofs.Stands.{left, right}
use Rattle.layouts.proofs.Nodes.{nodes-length, is_in, lies}
use Rattle.tape.specs.Cells.{cell_words, cell_of, words}
use Rattle.tape.specs.Spans.{start_at, end_at, parent_at, size_at, Inside, Nested, OnePerTerm}
use Rattle.tape.proofs.Blocks.{Block, block, own, by_place, from}

-- the first cell is the whole term's
pub whole : (t : Tree) (start : ℕ) (tape : List ℕ) → Stands tape 0 (words t start 0 0) → (start_at tape 0 ≡ start) × (end_at tape 0 ≡ start + length (bytes t))
whole t start tape s = let o = own tape t start 0 0 s in (o.start, o.end)

-- cells from 0 on that are a block, with the first as the one around them
module _ (tape : List ℕ) (n p e : ℕ) (x : Block tape 0 0 n p e) where
  -- what a cell counts lies inside it
  holds : (i j : ℕ) → j < n → i ≤ j → j < i + size_at tape i → Inside tape i j
  holds i j k h m =
      from (λ (j : ℕ). j < n → j < i + size_at tape i → Inside tape i j) i (λ b a. omega arith)
      (λ j h b a. let w = x.pairs i j (omega arith) h b in record { after = omega (arith, w.rises); before = w.inner a }) j h k m

  -- and the other way round
  counts : (i j : ℕ) → i < n → j < n → Inside tape i j → (i ≤ j) × (j < i + size_at tape i)
  counts i j h k w =
      by_place j i (λ m. omega (arith, (x.pairs j i (omega arith) m h).rises))
      (λ m.
      by_place j (i + size_at tape i) (λ a. (m, a))
      (λ a.
      let v = x.cells i (omega arith) h in
      let u = x.cells j (omega arith) k in
      omega (arith, (x.pairs i j (omega arith) (omega arith) k).outer a)))

  -- a cell ends before one behind it, or holds it
  either : (i j : ℕ) → j < n → i ≤ j → (end_at tape i ≤ start_at tape j) ⊎ Inside tape i j
  either i j k h =
      by_place j (i + size_at tape i) (λ a. inr (holds i j k h a))
      (λ a. let v = x.cells i (omega arith) (omega arith) in inl ((x.pairs i j (omega arith) (omega arith) k).outer a))

  laws : parent_at tape 0 ≡ 0 → Nested tape n
  laws r =
      record {
        rises = λ i j h k. (x.pairs i j (omega arith) h k).rises;
        some = λ i h. (x.cells i (omega arith) h).some;
        apart =
            λ i j h k.
            by_place j i (λ m. ⊎_elim (λ a. inl (inr a)) (λ a. inr (inr a)) (either j i h (omega arith)))
            (λ m. ⊎_elim (λ a. inl (inl a)) (λ a. inr (inl a)) (either i j k m));
        subtree = λ i j h k. (counts i j h k, λ w. holds i j k w.0 w.1);
        counted = λ i h. let w = x.cells i (omega arith) h in (w.itself, w.fits);
        root = r;
        parent = λ j h k. let w = x.parents j (omega arith) k h in (w.less, holds (parent_at tape j) j k (omega arith) w.counts);
        innermost =
            λ i j h k m w.
            let (a, c) = counts i j h k w in
            let u = x.parents j (omega arith) k (omega arith) in
            holds i (parent_at tape j) (omega arith) ((x.pairs i j (omega arith) (omega arith) k).innermost c) (omega arith);
      }

pub nested : (t : Tree) (start : ℕ) (tape : List ℕ) → Stands tape 0 (words t start 0 0) → Nested tape (size t)
nested t start tape s =
    let o = own tape t start 0 0 s in
    let e : ℕ = start + length (bytes t) in
    laws tape (size t) start e (block tape t start 0 0 (size t) e (omega arith) (omega arith) (omega arith) refl s) o.parent

-- where the cells of a row stand from c on, each has its number in the row, counted from c
at-number : (tape : List ℕ) (row : List Node) (c : ℕ) → Stands tape (cell_words * c) (flat_map cell_of row) → (i k : ℕ) → i < length row → k ≡ c + i →
    (n : Node) × (get_elem? row i ≡ some n) × Stands tape (cell_words * k) (cell_of n)
unfolding flat_map
at-number tape [] c s i k h e = absurd (omega arith)
at-number tape (n ∷ row) c s zero k h e =
    let f : k ≡ c = omega arith in
    (n, refl, rw f (left tape (cell_words * c) (cell_of n) (flat_map cell_of row) s))
at-number tape (n ∷ row) c s (suc i) k h e =
    let f : cell_words * c + cell_words ≡ cell_words * (c + 1) = omega arith in
    at-number tape row (c + 1) (rw f at (right tape (cell_words * c) (cell_of n) (flat_map cell_of row) s)) i k (omega arith) (omega arith)

-- of a term that stands at a place, with its words at the tape's front
module _ {allow : Allowed} (t : Tree) (start : ℕ) (b tape : List ℕ) (l : Laid allow t) (x : Stands b start (bytes t)) (s : Stands tape 0 (words t start 0 0)) where
  -- each cell is that of the term with its number in pre-order
  pub one_per_term : {n : ℕ} → n ≡ size t → OnePerTerm tape allow b start t n
  unfolding words
  one_per_term e =
      let row = nodes t start 0 0 in
      let len = nodes-length t start 0 0 in
      record {
        as_many = len ∙ sym e;
        each = λ i h.
            let (m, k, c) = at-number tape row 0 s i i (omega arith) (omega arith) in
            record { node = m; numbered = k; lies = lies b t start 0 0 l x (is_in row i k); cell = c };
      }
