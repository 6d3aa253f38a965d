-- What a `?` hands on, and the names of atoms, whose length has two bytes under two tags. Assumes nothing.
use Prim.Native.Nat.{ℕ, ◌+◌, ◌<◌}
use mathlib.Core.Path.{◌≡◌, ap}
use mathlib.Core.List.{List}
use mathlib.Core.Logic.{◌⊎◌, inl, inr}
use borrow.Author.Tests.{lt-ltb}
use lib.ListN.{length, get_or}
use Rattle.std.specs.Prelude.{Result, Ok, Err}
use Rattle.std.specs.Result.{IsErr, IsErrAnd}
use Rattle.rows.specs.Layout as layout
use Rattle.heads.specs.Inner.Head.{behind, fixed, if_there, node}
use Rattle.heads.specs.declared.Value.TheVariants as value

pub handed : {T E : Type 0} (r : Result T E) {e : E} → IsErr r × IsErrAnd r (λ x. x ≡ e) → r ≡ Err e
handed (Err x) h = ap Err h.1
handed (Ok x) h = absurd h.1

pub fixed-name : (b : List ℕ) (tag p : ℕ) → (tag ≡ 100) ⊎ (tag ≡ 118) → fixed b tag p ≡ value.Atom (behind 2 b p)
unfolding fixed
fixed-name b tag p (inl e) = rw e
fixed-name b tag p (inr e) = rw e

-- an atom child that is there, by its tag
module _ (b : List ℕ) (c : ℕ) (h : c < length b) where
  pub node-name : (get_or b c 0 ≡ 100) ⊎ (get_or b c 0 ≡ 118) → node b c ≡ if_there (layout.row_at b (get_or b c 0) (c + 1)) c (behind 2 b (c + 1))
  unfolding node
  node-name (inl e) = rw (lt-ltb c (length b) h, e)
  node-name (inr e) = rw (lt-ltb c (length b) h, e)

  pub node-short : get_or b c 0 ≡ 119 → node b c ≡ if_there (layout.row_at b (get_or b c 0) (c + 1)) c (behind 1 b (c + 1))
  unfolding node
  node-short e = rw (lt-ltb c (length b) h, e)
