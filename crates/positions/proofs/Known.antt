-- What a position answers once a header's slots are noted: what the slot of that reference holds, and Absent past the list. So a name is answered
-- just at the positions that are known, which are those that a term behind the header may have. Assumes nothing.
use Prim.Native.Nat.{ℕ, suc, ◌+◌, ◌≤◌, ◌<◌}
use native.Mathlib.Numerals.{add-one}
use native.Mathlib.Omega.{arith}
use mathlib.Core.Path.{◌≡◌, refl, sym, ap, ◌∙◌}
use mathlib.Core.Bool.{Bool, true, false, cond}
use mathlib.Core.List.{List, ◌∷◌}
use borrow.Author.Tests.{ltb-true, ltb-false}
use lib.Dec.{ltb}
use lib.ListN.{length, get_or, get_or-append}
use lib.Seq.{sets-eq}
use Rattle.std.specs.Prelude.{is_some, Result, Err, is_ok}
use Rattle.numbers.specs.declared.Refusal.{Refusal}
use Rattle.numbers.specs.declared.Refusal.TheVariants as refusal
use Rattle.names.specs.Form.{Held}
use Rattle.names.specs.Positions.{known_at}
use Rattle.cache.specs.Names.{store_bytes, got_at, view}
use Rattle.cache.specs.declared.Name.{Name}
use Rattle.cache.proofs.Views.{Shows, absent, named, get_view}
use Rattle.positions.specs.Positions.{noted, position_in}
use Rattle.positions.proofs.Asking.{in_none, in_slot}

shows-name : {s : List ℕ} {h : Held} {g : Result Name Refusal} → Shows s h g → is_ok g ≡ is_some h
shows-name absent = refl
shows-name (named e) = refl

module _ (slots run : List ℕ) (room : length slots < length run) where
  noted_byte : (k : ℕ) → k < suc (length slots) → get_or (noted slots run) k 0 ≡ get_or (length slots ∷ slots) k 0
  unfolding noted
  noted_byte k h = rw (sets-eq (length slots ∷ slots) run 0 (omega arith)) (get_or-append (length slots ∷ slots) _ 0 k h)

  module _ (w s : List ℕ) (h : length s ≡ store_bytes) (k : ℕ) where
    pub past-list : length slots ≤ k → position_in w s (noted slots run) k ≡ Err refusal.Absent
    past-list l = sym (in_none w s (noted slots run) k h (rw (noted_byte 0 (omega arith)) l))

    -- "looked up": the slot of reference k
    pub in_list : k < length slots → position_in w s (noted slots run) k ≡ got_at w s (get_or slots k 0)
    in_list l =
        let slot : get_or (noted slots run) (k + 1) 0 ≡ get_or slots k 0 = rw (add-one k) (noted_byte (suc k) (omega arith)) in
        sym (in_slot w s (noted slots run) k (rw (noted_byte 0 (omega arith)) l)) ∙ ap (got_at w s) slot

    pub shows-slot : k < length slots → Shows s (view w s (get_or slots k 0)) (position_in w s (noted slots run) k)
    shows-slot l = rw (in_list l) (get_view w s (get_or slots k 0) h)

    pub name-known : is_ok (position_in w s (noted slots run) k) ≡ known_at (view w s) slots k
    unfolding known_at
    name-known = go (ltb k (length slots)) refl
      where
        go : (t : Bool) → ltb k (length slots) ≡ t → is_ok (position_in w s (noted slots run) k) ≡ cond t (is_some (view w s (get_or slots k 0))) false
        go true e = shows-name (shows-slot (ltb-true k (length slots) e))
        go false e = ap is_ok (past-list (ltb-false k (length slots) e))
