-- Laws of how a header begins and of a reference, one for each way that specs/Header.antt can go. Assumes nothing.
use Prim.Native.Nat.{ℕ, ◌+◌, ◌/◌, ◌%◌, ◌≤◌, ◌<◌}
use native.Mathlib.Omega.{arith}
use mathlib.Core.Path.{◌≡◌, refl, sym, ap, subst, ◌∙◌}
use mathlib.Core.List.{List}
use mathlib.Core.Bool.{Bool, true, false}
use borrow.Author.Tests.{eq-eqb, ne_eqb, lt-ltb, le-ltb, leb-false}
use lib.Dec.{leb}
use lib.ListN.{length, get_or}
use Rattle.std.specs.Prelude.{Option, Some, None, ok_or, Result, Ok, Err, IsErr}
use Rattle.std.specs.Result.{IsErrAnd}
use Rattle.numbers.specs.Caps as cap
use Rattle.numbers.specs.declared.Refusal.{Refusal}
use Rattle.numbers.specs.declared.Refusal.TheVariants as refusal
use Rattle.numbers.proofs.Laws.{handed}
use Rattle.fields.specs.Be.{be_at}
use Rattle.fields.specs.Field.{holds, field_at, number_then, byte_then}
use Rattle.fields.proofs.Laws.{is_whole, be-one, by_then, then_is, then_eof}
use Rattle.rows.specs.Row as row
use Rattle.rows.proofs.Laws.{name-to}
use Rattle.references.specs.declared.Reference.{Reference}
use Rattle.references.specs.declared.Reference.TheVariants as ref
use Rattle.references.specs.Header.{flags_at, half_of, long_bit, flagged, start_of, named, new_at, reference_at}

-- what a `?` hands on where a number is missing
module _ {A : Type 0} (r : Result A Refusal) (y : Refusal) (left : IsErr r × IsErrAnd r (λ x. x ≡ y)) where
  pub misses : {B : Type 0} {o : Option B} → o ≡ None → Err y ≡ ok_or o refusal.Eof → r ≡ Err refusal.Eof
  misses {B} e f =
      let g : ◌≡◌ {A = Result B Refusal} (Err y) (Err refusal.Eof) = rw e at f in
      let h : y ≡ refusal.Eof = cc in
      handed r left ∙ ap Err h

-- the byte that a field is, and the place of one that is missing
pub first_byte : (b : List ℕ) (p : ℕ) {x : ℕ} → field_at 1 b p ≡ Some x → (p < length b) × (get_or b p 0 ≡ x)
first_byte b p e =
    let (inside, n) = is_whole 1 b p e in
    let here : p < length b = omega arith in
    (here, sym (n ∙ be-one b p here))

pub past-end : (b : List ℕ) (p : ℕ) → field_at 1 b p ≡ None → length b ≤ p
unfolding field_at holds
past-end b p e = go (leb (p + 1) (length b)) refl
  where
    go : (t : Bool) → leb (p + 1) (length b) ≡ t → length b ≤ p
    go true h = let f : ◌≡◌ {A = Option ℕ} (Some (be_at 1 b p)) None = rw h at e in absurd (let z : ◌≡◌ {A = ℕ} 0 1 = cc in omega arith)
    go false h = omega (arith, leb-false (p + 1) (length b) h)

-- a name of n bytes, by its row
module _ (b : List ℕ) (slot n p : ℕ) where
  pub named-to : {e : ℕ} → row.name b n p ≡ Ok e → Ok (ref.New slot p n) ≡ named b slot n p
  unfolding named
  named-to h = rw h

  pub named-no : {r : Refusal} → row.name b n p ≡ Err r → Err r ≡ named b slot n p
  unfolding named
  named-no h = rw h

-- a name behind its length
module _ (b : List ℕ) (wide slot p : ℕ) where
  pub no_length : field_at wide b p ≡ None → Err refusal.Eof ≡ new_at b wide slot p
  unfolding new_at
  no_length e = sym (then_eof wide b p _ _ e)

  pub lengthy : {n : ℕ} → field_at wide b p ≡ Some n → named b slot n (p + wide) ≡ new_at b wide slot p
  unfolding new_at
  lengthy e = sym (then_is wide b p _ _ e)

-- the reference at a place
module _ (b : List ℕ) (new : Bool) (wide p : ℕ) where
  pub no-reference : field_at 1 b p ≡ None → Err refusal.Eof ≡ reference_at b new wide p
  unfolding reference_at
  no-reference h = sym (then_eof 1 b p _ _ h)

  module _ {slot : ℕ} (h : field_at 1 b p ≡ Some slot) where
    pub old_is : new ≡ false → Ok (ref.Old slot) ≡ reference_at b new wide p
    unfolding reference_at
    old_is e = sym (then_is 1 b p _ _ h ∙ rw e)

    pub new_is : new ≡ true → new_at b wide slot (p + 1) ≡ reference_at b new wide p
    unfolding reference_at
    new_is e = sym (then_is 1 b p _ _ h ∙ rw e)

-- a new name lies in the input, behind its slot, which is the byte that stands first, and its length of `wide` bytes
pub record FoundName (b : List ℕ) (new : Bool) (wide p slot at n : ℕ) : Type 0 where
  pub flag : new ≡ true
  pub first : field_at 1 b p ≡ Some slot
  pub size : field_at wide b (p + 1) ≡ Some n
  pub place : at ≡ p + 1 + wide
  pub inside : at + n ≤ length b

not_found : {P : Type 0} {r : Refusal} {slot at n : ℕ} → Err r ≡ Ok (ref.New slot at n) → P
not_found e = absurd (let z : ◌≡◌ {A = ℕ} 0 1 = cc in omega arith)

-- the name alone, of m bytes at p, in the slot s
abbrev Named : List ℕ → (s m p slot at n : ℕ) → Type 0
Named b s m p slot at n = (s ≡ slot) × (m ≡ n) × (at ≡ p) × (at + n ≤ length b)

named-found : (b : List ℕ) (s m p : ℕ) {slot at n : ℕ} → named b s m p ≡ Ok (ref.New slot at n) → Named b s m p slot at n
unfolding named
named-found b s m p {slot} {at} {n} e = go (row.name b m p) refl
  where
    go : (r : Result ℕ Refusal) → row.name b m p ≡ r → Named b s m p slot at n
    go (Ok q) h =
        let f : ◌≡◌ {A = Result Reference Refusal} (Ok (ref.New s p m)) (Ok (ref.New slot at n)) = rw h at e in
        let i : at ≡ p = cc in
        let j : m ≡ n = cc in
        ((cc), j, i, omega (arith, (name-to b m p h).1))
    go (Err r) h = not_found {r = r} (rw h at e)

pub found : (b : List ℕ) (new : Bool) (wide p : ℕ) {slot at n : ℕ} → reference_at b new wide p ≡ Ok (ref.New slot at n) → FoundName b new wide p slot at n
unfolding reference_at new_at number_then
found b new wide p {slot} {at} {n} e = go (field_at 1 b p) refl new refl (field_at wide b (p + 1)) refl
  where
    go : (f : Option ℕ) → field_at 1 b p ≡ f → (t : Bool) → new ≡ t → (g : Option ℕ) → field_at wide b (p + 1) ≡ g → FoundName b new wide p slot at n
    go (Some m) h true k (Some l) g =
        let (s, i, j, inside) = named-found b m l (p + 1 + wide) (rw (h, k, g) at e) in
        record { flag = k; first = h ∙ rw s; size = g ∙ rw i; place = j; inside = inside }
    go (Some m) h true k None g = not_found {r = refusal.Eof} (rw (h, k, g) at e)
    go (Some m) h false k y g =
        let f : ◌≡◌ {A = Result Reference Refusal} (Ok (ref.Old m)) (Ok (ref.New slot at n)) = rw (h, k) at e in
        absurd (let z : ◌≡◌ {A = ℕ} 0 1 = cc in omega arith)
    go None h t k y g = not_found {r = refusal.Eof} (rw h at e)

-- an old one's slot is the byte that stands there
abbrev Old : List ℕ → Bool → ℕ → Result Reference Refusal → Type 0
Old b new p (Ok (ref.Old slot)) = (new ≡ false) × (field_at 1 b p ≡ Some slot)
Old b new p (Ok (ref.New slot at n)) = Unit {0}
Old b new p (Err r) = Unit {0}

named_old : (b : List ℕ) (new : Bool) (q s m p : ℕ) → Old b new q (named b s m p)
unfolding named
named_old b new q s m p = go (row.name b m p) refl
  where
    go : (r : Result ℕ Refusal) → row.name b m p ≡ r → Old b new q (named b s m p)
    go (Ok e) h = rw h tt
    go (Err r) h = rw h tt

new_old : (b : List ℕ) (new : Bool) (q wide s p : ℕ) → Old b new q (new_at b wide s p)
unfolding new_at
new_old b new q wide s p = by_then wide b p _ _ (Old b new q) tt (λ n. named_old b new q s n (p + wide))

reference_old : (b : List ℕ) (new : Bool) (wide p : ℕ) → Old b new p (reference_at b new wide p)
unfolding reference_at number_then
reference_old b new wide p = go (field_at 1 b p) refl new
  where
    go : (f : Option ℕ) → field_at 1 b p ≡ f → (t : Bool) → Old b t p (reference_at b t wide p)
    go (Some m) h true = rw h (new_old b true p wide m (p + 1))
    go (Some m) h false = rw h (refl, h)
    go None h t = rw h tt

pub found_old : (b : List ℕ) (new : Bool) (wide p : ℕ) {slot : ℕ} → reference_at b new wide p ≡ Ok (ref.Old slot) →
    (new ≡ false) × (field_at 1 b p ≡ Some slot)
found_old b new wide p e = subst (Old b new p) e (reference_old b new wide p)

pub old_there : (b : List ℕ) (new : Bool) (wide p : ℕ) {slot : ℕ} → reference_at b new wide p ≡ Ok (ref.Old slot) → p < length b
old_there b new wide p e = omega (arith, (is_whole 1 b p (found_old b new wide p e).1).0)

-- half byte i within its byte
module _ (flag i : ℕ) where
  pub low_half : i % 2 ≡ 0 → flag % 16 ≡ half_of flag i
  unfolding half_of
  low_half e = rw (eq-eqb (i % 2) 0 e)

  pub high_half : (i % 2 ≡ 0 → ⊥) → flag / 16 ≡ half_of flag i
  unfolding half_of
  high_half e = rw (ne_eqb (i % 2) 0 e)

-- the flags
module _ (b : List ℕ) (n : ℕ) where
  pub no-references : n ≡ 0 → Ok (record { count = n; long = false; first = flags_at }) ≡ flagged b n
  unfolding flagged
  no-references e = rw e

  module _ (e : n ≡ 0 → ⊥) where
    pub no-flags : holds (n / 2 + 1) b flags_at ≡ false → Err refusal.Eof ≡ flagged b n
    unfolding flagged
    no-flags h = rw (ne_eqb n 0 e, h)

    pub flags : holds (n / 2 + 1) b flags_at ≡ true → Ok (record { count = n; long = long_bit b n; first = flags_at + (n / 2 + 1) }) ≡ flagged b n
    unfolding flagged
    flags h = rw (ne_eqb n 0 e, h)

-- the header's first bytes, one by one
module _ (b : List ℕ) where
  pub too_long : cap.input < length b → Err refusal.Long ≡ start_of b
  unfolding start_of
  too_long l = rw (lt-ltb cap.input (length b) l)

  module _ (l : length b ≤ cap.input) where
    pub no-version : field_at 1 b 0 ≡ None → Err refusal.Eof ≡ start_of b
    unfolding start_of byte_then number_then
    no-version e = rw (le-ltb cap.input (length b) l, e)

    module _ {v : ℕ} (is-v : field_at 1 b 0 ≡ Some v) where
      pub other-version : (v ≡ 131 → ⊥) → Err refusal.Tag ≡ start_of b
      unfolding start_of byte_then number_then
      other-version h = rw (le-ltb cap.input (length b) l, is-v, ne_eqb v 131 h)

      module _ (right : v ≡ 131) where
        pub no_kind : field_at 1 b 1 ≡ None → Err refusal.Eof ≡ start_of b
        unfolding start_of byte_then number_then
        no_kind e = rw (le-ltb cap.input (length b) l, is-v, eq-eqb v 131 right, e)

        module _ {k : ℕ} (is-k : field_at 1 b 1 ≡ Some k) where
          pub other_kind : (k ≡ 68 → ⊥) → Err (refusal.Kind k) ≡ start_of b
          unfolding start_of byte_then number_then
          other_kind h = rw (le-ltb cap.input (length b) l, is-v, eq-eqb v 131 right, is-k, ne_eqb k 68 h)

          module _ (header : k ≡ 68) where
            pub no-count : field_at 1 b 2 ≡ None → Err refusal.Eof ≡ start_of b
            unfolding start_of byte_then number_then
            no-count e = rw (le-ltb cap.input (length b) l, is-v, eq-eqb v 131 right, is-k, eq-eqb k 68 header, e)

            pub counted : {n : ℕ} → field_at 1 b 2 ≡ Some n → flagged b n ≡ start_of b
            unfolding start_of byte_then number_then
            counted e = rw (le-ltb cap.input (length b) l, is-v, eq-eqb v 131 right, is-k, eq-eqb k 68 header, e)
