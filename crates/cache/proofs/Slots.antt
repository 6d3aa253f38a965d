-- Asking for a slot: one law for each way that the answer can go, and a name that is answered lies within the store. Assumes nothing.
use Prim.Native.Nat.{ℕ, ◌+◌, ◌*◌, ◌≤◌, ◌<◌}
use native.Mathlib.Omega.{arith}
use mathlib.Core.Path.{◌≡◌, refl, subst}
use mathlib.Core.Bool.{Bool, true, false, cond}
use mathlib.Core.List.{List}
use borrow.Author.Tests.{eqb-true, eq-eqb, ne_eqb}
use lib.Dec.{eqb}
use lib.ListN.{length, get_or}
use Rattle.std.specs.Prelude.{Result, Ok, Err}
use Rattle.numbers.specs.declared.Refusal.{Refusal}
use Rattle.numbers.specs.declared.Refusal.TheVariants as refusal
use Rattle.cache.specs.Names.{slot_bytes, store_bytes, filled, got_at}
use Rattle.cache.specs.declared.Name.{Name}
use Rattle.cache.proofs.Below.{Below}

module _ (w s : List ℕ) (i : ℕ) where
  pub got_store : (length s ≡ store_bytes → ⊥) → Err refusal.Store ≡ got_at w s i
  unfolding got_at
  got_store h = rw (ne_eqb (length s) store_bytes h)

  module _ (h : length s ≡ store_bytes) where
    pub got_absent : filled w i ≡ false → Err refusal.Absent ≡ got_at w s i
    unfolding got_at
    got_absent g = rw (eq-eqb (length s) store_bytes h, g)

    pub got_name : filled w i ≡ true → Ok (record { at = i * slot_bytes + 1; len = get_or s (i * slot_bytes) 0 }) ≡ got_at w s i
    unfolding got_at
    got_name g = rw (eq-eqb (length s) store_bytes h, g)

-- a name that is answered lies within the store
abbrev Inside : List ℕ → Result Name Refusal → Type 0
Inside s (Ok n) = n.at + n.len ≤ length s
Inside s (Err r) = Unit {0}

pub got_inside : (w s : List ℕ) (i : ℕ) {n : Name} → i < 256 → Below 256 s → got_at w s i ≡ Ok n → n.at + n.len ≤ length s
unfolding got_at
got_inside w s i h below e = subst (Inside s) e (go (eqb (length s) store_bytes) refl (filled w i))
  where
    go : (t : Bool) → eqb (length s) store_bytes ≡ t → (u : Bool) →
        Inside s (cond t (cond u (Ok (record { at = i * slot_bytes + 1; len = get_or s (i * slot_bytes) 0 })) (Err refusal.Absent)) (Err refusal.Store))
    go true e true = omega (arith, eqb-true (length s) store_bytes e, below (i * slot_bytes))
    go true e false = tt
    go false e u = tt
