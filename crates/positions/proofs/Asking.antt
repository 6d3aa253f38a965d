-- Asking for a position: one law for each way that the definitions of specs/Positions.antt can go. Assumes nothing.
use Prim.Native.Nat.{ℕ, ◌+◌, ◌≤◌, ◌<◌}
use mathlib.Core.Path.{◌≡◌, refl, sym, ap}
use mathlib.Core.Bool.{Bool, true, false, cond}
use mathlib.Core.List.{List, []}
use borrow.Author.Tests.{eq-eqb, ne_eqb, eqb-false, lt-ltb, le-ltb}
use lib.Dec.{eqb}
use lib.ListN.{length, get_or}
use Rattle.std.specs.Prelude.{Option, Some, None, ok_or, Result, Ok, Err}
use Rattle.numbers.specs.Caps as cap
use Rattle.numbers.specs.declared.Refusal.{Refusal}
use Rattle.numbers.specs.declared.Refusal.TheVariants as refusal
use Rattle.numbers.proofs.Laws.{by_test}
use Rattle.fields.specs.Field.{field_at, number_then, byte_then}
use Rattle.cache.specs.Names.{store_bytes, got_at, part_of}
use Rattle.cache.specs.declared.Name.{Name}
use Rattle.positions.specs.Positions.{position_in, position_of, asked, cell_in}

twice : {A : Type 0} (t : Bool) (x y : A) → cond t x y ≡ cond t (cond t x y) y
twice true x y = refl
twice false x y = refl

-- a position, and the part of the store that is its name. That a store is none is the cache's answer too
module _ (w s run : List ℕ) (k : ℕ) where
  pub in_store : (length s ≡ store_bytes → ⊥) → Err refusal.Store ≡ position_in w s run k
  unfolding position_in
  in_store h = rw (ne_eqb (length s) store_bytes h)

  pub in_none : length s ≡ store_bytes → get_or run 0 0 ≤ k → Err refusal.Absent ≡ position_in w s run k
  unfolding position_in
  in_none h l = rw (eq-eqb (length s) store_bytes h, le-ltb k (get_or run 0 0) l)

  pub in_slot : k < get_or run 0 0 → got_at w s (get_or run (k + 1) 0) ≡ position_in w s run k
  unfolding position_in got_at
  in_slot l = rw (lt-ltb k (get_or run 0 0) l) (twice (eqb (length s) store_bytes) _ _)

  pub part_none : get_or run 0 0 ≤ k → [] ≡ part_of s (position_in w s run k)
  unfolding position_in
  part_none l = rw (le-ltb k (get_or run 0 0) l) (by_test (λ (g : Result Name Refusal). [] ≡ part_of s g) (eqb (length s) store_bytes) _ _ refl refl)

-- an atom of tag 82 in the input
module _ (b : List ℕ) (at : ℕ) where
  pub too_long : cap.input < length b → Err refusal.Long ≡ position_of b at
  unfolding position_of
  too_long l = rw (lt-ltb cap.input (length b) l)

  module _ (l : length b ≤ cap.input) where
    pub no-atom : field_at 1 b at ≡ None → Err refusal.Eof ≡ position_of b at
    unfolding position_of byte_then number_then
    no-atom e = rw (le-ltb cap.input (length b) l, e)

    module _ {tag : ℕ} (is-tag : field_at 1 b at ≡ Some tag) where
      pub other_tag : (tag ≡ 82 → ⊥) → Err refusal.Tag ≡ position_of b at
      unfolding position_of byte_then number_then
      other_tag h = rw (le-ltb cap.input (length b) l, is-tag, ne_eqb tag 82 h)

      module _ (atom : tag ≡ 82) where
        pub position-or_none : ok_or (field_at 1 b (at + 1)) refusal.Eof ≡ position_of b at
        unfolding position_of byte_then number_then
        position-or_none = rw (le-ltb cap.input (length b) l, is-tag, eq-eqb tag 82 atom) (go (field_at 1 b (at + 1)) refl)
          where
            go : (k : Option ℕ) → field_at 1 b (at + 1) ≡ k → ok_or (field_at 1 b (at + 1)) refusal.Eof ≡ number_then (Err refusal.Eof) 1 b (λ k _. Ok k) (at + 1)
            go (Some k) e = rw e
            go None e = rw e

-- its name
module _ (b w s run : List ℕ) (at : ℕ) where
  pub cell-store : (length s ≡ store_bytes → ⊥) → Err refusal.Store ≡ cell_in b w s run at
  unfolding cell_in
  cell-store h = rw (ne_eqb (length s) store_bytes h)

  pub cell-asked : length s ≡ store_bytes → {p : Result ℕ Refusal} → p ≡ position_of b at → asked w s run p ≡ cell_in b w s run at
  unfolding cell_in
  cell-asked h e = rw (e, eq-eqb (length s) store_bytes h)

  -- a store that is none has no part either
  pub cell-part : {p : Result ℕ Refusal} → p ≡ position_of b at → part_of s (asked w s run p) ≡ part_of s (cell_in b w s run at)
  unfolding cell_in
  cell-part {p} e = rw (sym e) (go (eqb (length s) store_bytes) refl p)
    where
      go : (t : Bool) → eqb (length s) store_bytes ≡ t → (p : Result ℕ Refusal) → part_of s (asked w s run p) ≡ part_of s (cond t (asked w s run p) (Err refusal.Store))
      go true h p = refl
      go false h (Ok k) = ap (part_of s) (sym (in_store w s run k (eqb-false (length s) store_bytes h)))
      go false h (Err r) = refl
