-- The row of a tree's terms: it is as long as the tree has terms, and of a term that stands at a place each of them is a term that stands
-- at its own. Assumes nothing.
use Prim.Native.Nat.{ℕ, zero, suc, ◌+◌}
use native.Mathlib.Omega.{arith}
use mathlib.Core.Path.{◌≡◌, refl, ap}
use mathlib.Core.Logic.{⊎_elim}
use mathlib.Core.Option.{some}
use mathlib.Core.List.Memᴰ
use mathlib.Core.List.{List, [], ◌∷◌, ◌++◌, Memᴰ}
use lib.ListN.{length, get_elem?, length-append}
use Rattle.numbers.specs.Allowed.{Allowed}
use Rattle.layouts.specs.Tree.{Tree, Forest, node, none, more, bytes, bytes_all, size, sizes, Stands}
use Rattle.layouts.specs.Layout.{Laid, AllLaid, one_more}
use Rattle.layouts.specs.Nodes.{Node, Lies, nodes, nodes_all}
use Rattle.layouts.proofs.Stands.{left, right, behind}
use Rattle.layouts.proofs.Shapes.{kids_laid}

-- as many as `size` counts
mutual
  unfolding nodes size

  pub nodes-length : (t : Tree) (start parent first : ℕ) → length (nodes t start parent first) ≡ size t
  nodes-length (node tag front ts back) start parent first = ap suc (nodes_all-length ts (start + 1 + length front) first (first + 1))

  pub nodes_all-length : (ts : Forest) (start parent first : ℕ) → length (nodes_all ts start parent first) ≡ sizes ts
  nodes_all-length none start parent first = refl
  nodes_all-length (more t ts) start parent first =
      simp length-append (omega (arith, nodes-length t start parent first, nodes_all-length ts (start + length (bytes t)) parent (first + size t)))

-- the element at a place of a row is in it
pub is_in : {n : Node} (row : List Node) (i : ℕ) → get_elem? row i ≡ some n → Memᴰ n row
is_in [] i e = absurd cc
is_in {n} (m ∷ row) zero e = let f : n ≡ m = cc in Memᴰ.head f
is_in (m ∷ row) (suc i) e = Memᴰ.tail (is_in row i e)

-- each term of a tree lies where the row says
module _ {allow : Allowed} (b : List ℕ) {n : Node} where
  mutual
    unfolding nodes bytes

    pub lies : (t : Tree) (start parent first : ℕ) → Laid allow t → Stands b start (bytes t) → Memᴰ n (nodes t start parent first) → Lies allow b n
    lies (node tag front ts back) start parent first l s (Memᴰ.head e) = rw e (record { laid = l; stands = s })
    lies (node tag front ts back) start parent first l s (Memᴰ.tail m) =
        let r = right b (start + 1) front (bytes_all ts ++ back) (behind b start tag (front ++ (bytes_all ts ++ back)) s) in
        lie ts (start + 1 + length front) first (first + 1) (kids_laid l) (left b (start + 1 + length front) (bytes_all ts) back r) m

    lie : (ts : Forest) (start parent first : ℕ) → AllLaid allow ts → Stands b start (bytes_all ts) → Memᴰ n (nodes_all ts start parent first) → Lies allow b n
    lie none start parent first _ s m = elim m [ ]
    lie (more t ts) start parent first (one_more l ls) s m =
        ⊎_elim (λ k. lies t start parent first l (left b start (bytes t) (bytes_all ts) s) k)
        (λ k. lie ts (start + length (bytes t)) parent (first + size t) ls (right b start (bytes t) (bytes_all ts) s) k) (Memᴰ.append_cases (nodes t start parent first) m)
