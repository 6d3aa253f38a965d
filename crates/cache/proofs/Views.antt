-- The slots as a map: a name put into a slot is what that slot holds, and every other slot holds what it held; what asking for a slot answers is
-- what the slot holds; an empty cache holds nothing. Assumes nothing.
use Prim.Native.Nat.{ℕ, ◌+◌, ◌*◌, ◌≤◌, ◌<◌}
use mathlib.Core.Path.{◌≡◌, refl, sym, ap, ◌∙◌}
use mathlib.Core.Bool.{Bool, true, false, cond, ◌||◌}
use mathlib.Core.List.{List}
use borrow.Author.Tests.{eqb-true, eqb-false, eq-eqb}
use lib.Dec.{eqb}
use lib.ListN.{length, get_or, replicate}
use Rattle.std.specs.Prelude.{Some, None, is_some, Result, Ok, Err}
use Rattle.numbers.specs.declared.Refusal.{Refusal}
use Rattle.numbers.specs.declared.Refusal.TheVariants as refusal
use Rattle.names.specs.Form.{Held}
use Rattle.names.specs.Inner.Map.{updated}
use Rattle.cache.specs.Names.{slot_bytes, store_bytes, filled, marked, stored, name_in, view, got_at, part_of}
use Rattle.cache.specs.declared.Name.{Name}
use Rattle.cache.proofs.Below.{Below}
use Rattle.cache.proofs.Marks.{marked-filled, empty_filled}
use Rattle.cache.proofs.Stores.{stored-length, stored_same, stored_other}

pub put_view : (w s : List ℕ) (i : ℕ) (n : List ℕ) → length w ≡ 4 → length s ≡ store_bytes → Below 256 s → i < 256 → length n ≤ 255
    → (j : ℕ) → view (marked w i) (stored s i n) j ≡ updated (view w s) i n j
unfolding view updated
put_view w s i n hw hs below hi hn j = go (eqb i j) refl
  where
    go : (t : Bool) → eqb i j ≡ t → cond (filled (marked w i) j) (Some (name_in (stored s i n) j)) None ≡ cond t (Some n) (cond (filled w j) (Some (name_in s j)) None)
    go true e =
        ap (λ (t : Bool). cond t (Some (name_in (stored s i n) j)) None) (marked-filled w i j hw hi ∙ ap (λ (t : Bool). t || filled w j) e)
        ∙ ap Some (ap (name_in (stored s i n)) (sym (eqb-true i j e)) ∙ stored_same s i n hs hi hn)
    go false e =
        ap (λ (t : Bool). cond t (Some (name_in (stored s i n) j)) None) (marked-filled w i j hw hi ∙ ap (λ (t : Bool). t || filled w j) e)
        ∙ ap (λ (l : List ℕ). cond (filled w j) (Some l) None) (stored_other s i n j below hn (eqb-false i j e))

-- asked for, it is the part of the store that is answered
pub put-part : (w s : List ℕ) (i : ℕ) (n : List ℕ) → length w ≡ 4 → length s ≡ store_bytes → i < 256 → length n ≤ 255
    → part_of (stored s i n) (got_at (marked w i) (stored s i n) i) ≡ n
unfolding got_at name_in
put-part w s i n hw hs hi hn =
    rw (eq-eqb (length (stored s i n)) store_bytes (stored-length s i n ∙ hs), marked-filled w i i hw hi, eq-eqb i i refl) (stored_same s i n hs hi hn)

-- it holds one just where it is filled, whatever lies in the store
pub view-name : (w s : List ℕ) (i : ℕ) → is_some (view w s i) ≡ filled w i
unfolding view
view-name w s i = go (filled w i)
  where
    go : (t : Bool) → is_some (cond t (Some (name_in s i)) None) ≡ t
    go true = refl
    go false = refl

pub empty_view : (s : List ℕ) (j : ℕ) → view (replicate 4 0) s j ≡ None
unfolding view
empty_view s j = rw (empty_filled j)

-- what is answered for what a slot holds: of a name its part of the store, and Absent where there is none
pub data Shows (s : List ℕ) : Held → Result Name Refusal → Type 0 where
  absent : Shows s None (Err refusal.Absent)
  named : {l : List ℕ} {n : Name} → part_of s (Ok n) ≡ l → Shows s (Some l) (Ok n)

pub get_view : (w s : List ℕ) (i : ℕ) → length s ≡ store_bytes → Shows s (view w s i) (got_at w s i)
unfolding view got_at name_in
get_view w s i h = rw (eq-eqb (length s) store_bytes h) (go (filled w i))
  where
    go : (t : Bool) → Shows s (cond t (Some (name_in s i)) None) (cond t (Ok (record { at = i * slot_bytes + 1; len = get_or s (i * slot_bytes) 0 })) (Err refusal.Absent))
    go true = named refl
    go false = absent
