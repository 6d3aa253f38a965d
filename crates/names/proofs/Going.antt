-- Reading references one by one over a cache of any form: what the whole header leaves is what the rest of it leaves of the cache as it is by
-- now (`Going`), and a law for each way that the next reference can go. A reader's loop keeps that. Assumes nothing.
use Prim.Native.Nat.{ℕ, suc, ◌+◌, ◌-◌, ◌≤◌, ◌<◌}
use native.Mathlib.Omega.{arith}
use native.Mathlib.Nat.{sub-zero}
use mathlib.Core.Path.{◌≡◌, refl}
use mathlib.Core.List.{List}
use mathlib.Core.Bool.{Bool}
use lib.ListN.{take, drop}
use Rattle.std.specs.Prelude.{Result, Ok, Err}
use Rattle.numbers.specs.declared.Refusal.{Refusal}
use Rattle.references.specs.declared.Opening.{Opening}
use Rattle.references.specs.declared.Reference.{Reference}
use Rattle.references.specs.declared.Reference.TheVariants as ref
use Rattle.references.specs.Header.{is_new, start_of, reference_at, behind, references, referred, opened, header_of}
use Rattle.names.specs.Form.{Form, Left, left, after, put_all, over}

-- of n references those from number i on are left, from p on
pub record Going (F : Form) (whole : Left F.State) (b : List ℕ) (wide n i p : ℕ) (s : F.State) : Type 0 where
  pub goes : whole ≡ over F b (references b wide i (n - i) p) s

pub starts : {F : Form} {b : List ℕ} {wide n p : ℕ} {s : F.State} → Going F (over F b (references b wide 0 n p) s) b wide n 0 p s
starts = record { goes = rw sub-zero refl }

-- a header that begins well, and one that doesn't
module _ (F : Form) (b : List ℕ) (s : F.State) where
  pub begins : {o : Opening} → start_of b ≡ Ok o → over F b (header_of b) s ≡ over F b (referred b o) s
  unfolding header_of opened
  begins e = rw e

  pub begins_wrong : {r : Refusal} → start_of b ≡ Err r → over F b (header_of b) s ≡ left (Err r) s
  unfolding header_of opened put_all
  begins_wrong e = rw e

module _ {F : Form} {whole : Left F.State} {b : List ℕ} {wide n i p : ℕ} {s : F.State} where
  -- behind the last reference
  pub stops : n ≤ i → Going F whole b wide n i p s → whole ≡ left (Ok p) s
  unfolding references put_all
  stops h l =
      let e : n - i ≡ 0 = omega arith in
      rw e at l.goes

  -- by the next reference
  module _ (h : i < n) (l : Going F whole b wide n i p s) {new : Bool} (u : new ≡ is_new b i) {r : Result Reference Refusal} (q : r ≡ reference_at b new wide p) where
    one : whole ≡ over F b (behind p (references b wide (i + 1) (n - (i + 1))) r) s
    unfolding references
    one =
        let e : n - i ≡ suc (n - (i + 1)) = omega arith in
        let m = rw e at l.goes in
        rw (q, u) m

    pub passes : {slot : ℕ} → r ≡ Ok (ref.Old slot) → Going F whole b wide n (i + 1) (p + 1) s
    unfolding behind put_all
    passes e = record { goes = rw e at one }

    pub refuses : {x : Refusal} → r ≡ Err x → whole ≡ left (Err x) s
    unfolding behind put_all
    refuses e = rw e at one

    -- a name that the cache takes, and one that it refuses
    module _ {slot at k : ℕ} (e : r ≡ Ok (ref.New slot at k)) where
      pub completes : {t : F.State} → F.put s slot (take k (drop at b)) ≡ Ok t → Going F whole b wide n (i + 1) (at + k) t
      unfolding behind put_all after
      completes g =
          let m = rw e at one in
          record { goes = rw g at m }

      pub stopped : {x : Refusal} → F.put s slot (take k (drop at b)) ≡ Err x → whole ≡ left (Err x) s
      unfolding behind put_all after
      stopped g =
          let m = rw e at one in
          rw g at m
