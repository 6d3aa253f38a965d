-- Every list has one tail, whose tag says whether the list is proper. Assumes nothing.
use Prim.Native.Nat.{ℕ}
use native.Mathlib.Omega.{arith}
use mathlib.Core.Path.{◌≡◌, refl, ap, ◌∙◌}
use mathlib.Core.Logic.{◌↔◌}
use mathlib.Core.List.{List, []}
use Rattle.numbers.specs.Allowed.{Allowed}
use Rattle.layouts.specs.Tree.{Tree, Forest, node, none, more, tag_of, count}
use Rattle.layouts.specs.Layout as layout
use Rattle.layouts.specs.Layout.{Laid, Tail, only, after, Proper, proper}

-- trees side by side have a last one
last_of : (x : Tree) (ts : Forest) → (t : Tree) × Tail (more x ts) t
last_of x none = (x, only)
last_of x (more y ts) = let (t, l) = last_of y ts in (t, after l)

-- a laid list has a child at least, its tail
pub has_tail : {allow : Allowed} {n : List ℕ} (ts : Forest) → Laid allow (node 108 n ts []) → (t : Tree) × Tail ts t
unfolding count
has_tail {allow = allow} {n = n} none (layout.row x4) = elim x4 [ ]
has_tail none (layout.list w c e a) = absurd (omega arith)
has_tail (more x ts) l = last_of x ts

pub one_tail : {ts : Forest} {t u : Tree} → Tail ts t → Tail ts u → t ≡ u
one_tail only only = refl
one_tail {u = u} (only {t = t}) (after l) = elim l [ ]
one_tail (after {t = t} k) only = elim k [ ]
one_tail (after k) (after l) = one_tail k l

-- of a list with the tail t
pub proper-is : {n : List ℕ} {ts : Forest} {t : Tree} → Tail ts t → Proper (node 108 n ts []) ↔ (tag_of t ≡ 106)
proper-is {n} {ts} {t} l = (go, λ e. proper l e)
  where
    go : Proper (node 108 n ts []) → tag_of t ≡ 106
    go (proper k e) = ap tag_of (one_tail l k) ∙ e
