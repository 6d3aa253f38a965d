-- Laws of the definitions of specs/, for the proofs here and in the crates above. Assumes nothing.
use Prim.Native.Nat.{ℕ, suc, ◌+◌, ◌-◌, ◌*◌, ◌^◌, ◌<◌, ◌≤◌}
use native.Mathlib.Nat.{mul_assoc, add-mul}
use native.Mathlib.Omega.{arith}
use mathlib.Core.Path.{◌≡◌, refl, ap, sym, ◌∙◌}
use mathlib.Core.Logic.{◌↔◌}
use mathlib.Core.List.{List, [], ◌∷◌, ◌++◌}
use lib.ListN.{length, take, get_or, get_or-eq_default, length-append}
use lib.Pow.{pow-add}
use lib.Dec.{leb, eqb}
use lib.IntN.{ℤ, pos, negsuc}
use mir.Syntax.{w32}
use mir.Val.{to_z}
use borrow.Author.Tests.{leb-true, leb-false, le-leb, lt-leb, lt-ltb, le-ltb, eq-eqb, ne_eqb}
use mathlib.Core.Bool.{Bool, true, false, cond}
use lib.Seq.{drop-cons}
use Rattle.fields.specs.Be.{be, be_at, signed}
use Rattle.fields.specs.Field.{holds, field_at, integer_at, number_then, byte_then, number_at}
use Rattle.std.specs.Prelude.{Option, Some, None}
use Rattle.std.specs.Option.{unwrap_or}

-- a run behind another is worth its own number, and shifts the first by its bytes
pub be-append : (s t : List ℕ) → be (s ++ t) ≡ be s * 256 ^ length t + be t
unfolding be
be-append [] t = omega arith
be-append (x ∷ s) t =
    rw (be-append s t, length-append s t, pow-add 256 (length s) (length t), add-mul, mul_assoc) (omega arith)

pub be-one : (b : List ℕ) (at : ℕ) → at < length b → be_at 1 b at ≡ get_or b at 0
unfolding be be_at
be-one b at h = rw (drop-cons b at 0) (omega arith)

-- a part that is written by its ends
pub part : (l : List ℕ) (p n e : ℕ) → e ≡ p + n → take (e - p) l ≡ take n l
part l p n e h = let k : e - p ≡ n = omega arith in ap (λ (m : ℕ). take m l) k

-- what it says that the bytes are there, and what a field is then and else
module _ (k : ℕ) (b : List ℕ) (at : ℕ) where
  pub there : holds k b at ≡ true → at + k ≤ length b
  unfolding holds
  there h = leb-true _ _ h

  pub is-there : at + k ≤ length b → holds k b at ≡ true
  unfolding holds
  is-there h = le-leb _ _ h

  pub is_gone : length b < at + k → holds k b at ≡ false
  unfolding holds
  is_gone h = lt-leb _ _ h

  pub field_is : holds k b at ≡ true → {n : ℕ} → n ≡ be_at k b at → Some n ≡ field_at k b at
  unfolding field_at
  field_is h e = rw (h, e)

  pub field_eof : holds k b at ≡ false → None ≡ field_at k b at
  unfolding field_at
  field_eof h = rw h

  -- what a field that is there says
  pub is_whole : {n : ℕ} → field_at k b at ≡ Some n → (at + k ≤ length b) × (n ≡ be_at k b at)
  unfolding field_at
  is_whole {n} e = go (holds k b at) refl
    where
      go : (t : Bool) → holds k b at ≡ t → (at + k ≤ length b) × (n ≡ be_at k b at)
      go true h = let f : Some (be_at k b at) ≡ Some n = rw h at e in (there h, (cc))
      go false h = let f : None ≡ Some n = rw h at e in absurd cc

  -- a number that is known to be there
  pub at_there : at + k ≤ length b → number_at k b at ≡ be_at k b at
  at_there h = rw (is-there h)

  pub number_of : {n : ℕ} → field_at k b at ≡ Some n → number_at k b at ≡ n
  number_of e = let (h, q) = is_whole e in at_there h ∙ sym q

  pub known : unwrap_or (field_at k b at) 0 ≡ number_at k b at
  unfolding field_at
  known = go (holds k b at)
    where
      go : (t : Bool) → unwrap_or (cond t (Some (be_at k b at)) None) 0 ≡ cond t (be_at k b at) 0
      go true = refl
      go false = refl

  -- what comes behind a number that is there, and what is said where it isn't
  module _ {A : Type 0} (missing : A) (f : ℕ → ℕ → A) where
    pub then_is : {n : ℕ} → field_at k b at ≡ Some n → number_then missing k b f at ≡ f n (at + k)
    unfolding number_then
    then_is e = rw e

    pub then_eof : field_at k b at ≡ None → number_then missing k b f at ≡ missing
    unfolding number_then
    then_eof e = rw e

    -- what both of these have, it has
    pub by_then : (P : A → Type 0) → P missing → ((n : ℕ) → P (f n (at + k))) → P (number_then missing k b f at)
    by_then P h m = go (field_at k b at) refl
      where
        go : (x : Option ℕ) → field_at k b at ≡ x → P (number_then missing k b f at)
        go (Some n) e = rw (then_is e) (m n)
        go None e = rw (then_eof e) h

-- the byte at a place, 0 where there is none; and a number that isn't 0 is there
pub byte_at : (b : List ℕ) (at : ℕ) → number_at 1 b at ≡ get_or b at 0
unfolding holds
byte_at b at = go (leb (at + 1) (length b)) refl
  where
    go : (t : Bool) → leb (at + 1) (length b) ≡ t → cond t (be_at 1 b at) 0 ≡ get_or b at 0
    go true h = be-one b at (omega (arith, leb-true _ _ h))
    go false h = sym (get_or-eq_default b 0 (omega (arith, leb-false _ _ h)))

pub some_there : (k : ℕ) (b : List ℕ) (at : ℕ) → 0 < number_at k b at → at + k ≤ length b
some_there k b at = go (holds k b at) refl
  where
    go : (t : Bool) → holds k b at ≡ t → 0 < cond t (be_at k b at) 0 → at + k ≤ length b
    go true h l = there k b at h
    go false h l = absurd (omega arith)

-- a byte, by its place
module _ {A : Type 0} (missing : A) (b : List ℕ) (f : ℕ → ℕ → A) (at : ℕ) where
  pub byte_is : at < length b → number_then missing 1 b f at ≡ f (get_or b at 0) (at + 1)
  byte_is h = then_is 1 b at missing f (sym (field_is 1 b at (is-there 1 b at (omega arith)) (sym (be-one b at h))))

  pub byte_eof : length b ≤ at → number_then missing 1 b f at ≡ missing
  byte_eof h = then_eof 1 b at missing f (sym (field_eof 1 b at (is_gone 1 b at (omega arith))))

-- a byte that has to be v
module _ {A : Type 0} (missing : A) (other : ℕ → A) (v : ℕ) (b : List ℕ) (f : ℕ → A) (at : ℕ) where
  pub expect_eof : length b ≤ at → byte_then missing other v b f at ≡ missing
  unfolding byte_then
  expect_eof h = byte_eof _ b _ at h

  pub expect_is : at < length b → get_or b at 0 ≡ v → byte_then missing other v b f at ≡ f (at + 1)
  unfolding byte_then
  expect_is h e = byte_is _ b _ at h ∙ rw (eq-eqb (get_or b at 0) v e)

  pub expect_other : at < length b → (get_or b at 0 ≡ v → ⊥) → byte_then missing other v b f at ≡ other (get_or b at 0)
  unfolding byte_then
  expect_other h e = byte_is _ b _ at h ∙ rw (ne_eqb (get_or b at 0) v e)

  -- what all three have, it has
  pub by_byte : (P : A → Type 0) → P missing → ((x : ℕ) → P (other x)) → P (f (at + 1)) → P (byte_then missing other v b f at)
  unfolding byte_then
  by_byte P h o k = by_then 1 b at _ _ P h (λ x. go x (eqb x v))
    where
      go : (x : ℕ) (t : Bool) → P (cond t (f (at + 1)) (other x))
      go x true = k
      go x false = o x

module _ (b : List ℕ) (at : ℕ) where
  pub integer-is : holds 4 b at ≡ true → {z : ℤ} → z ≡ signed (be_at 4 b at) → Some z ≡ integer_at b at
  unfolding integer_at
  integer-is h e = rw (h, e)

  pub integer_known : unwrap_or (integer_at b at) (pos 0) ≡ signed (number_at 4 b at)
  unfolding integer_at signed
  integer_known = go (holds 4 b at)
    where
      go : (t : Bool) → unwrap_or (cond t (Some (signed (be_at 4 b at))) None) (pos 0) ≡ signed (cond t (be_at 4 b at) 0)
      go true = refl
      go false = refl

  pub integer_eof : holds 4 b at ≡ false → None ≡ integer_at b at
  unfolding integer_at
  integer_eof h = rw h

-- two's complement of 4 bytes: 0 or more just where the number as it stands is at most 2 ^ 31 - 1, and else negative
module _ (n : ℕ) (fits : n < 4294967296) where
  pub signed_negative : 2147483647 < n → signed n ≡ negsuc (4294967295 - n)
  unfolding signed
  signed_negative h =
      let e : 4294967296 - suc n ≡ 4294967295 - n = omega arith in
      rw (le-ltb n 2147483648 (omega arith), lt-ltb n 4294967296 fits, e)

  pub signed_natural : (n ≤ 2147483647) ↔ (signed n ≡ pos n)
  unfolding signed
  signed_natural = (λ h. rw (lt-ltb n 2147483648 (omega arith)), λ e. go e (leb n 2147483647) refl)
    where
      go : signed n ≡ pos n → (x : Bool) → leb n 2147483647 ≡ x → n ≤ 2147483647
      go e true h = leb-true _ _ h
      go e false h =
          let f : negsuc (4294967295 - n) ≡ pos n = sym (signed_negative (leb-false _ _ h)) ∙ e in
          absurd cc

  -- the same as a cast has it
  pub signed-cast : to_z w32 n ≡ signed n
  signed-cast = go (leb n 2147483647) refl
    where
      go : (x : Bool) → leb n 2147483647 ≡ x → to_z w32 n ≡ signed n
      go true h = rw (lt-ltb n 2147483648 (omega (arith, leb-true _ _ h))) (sym (signed_natural.0 (leb-true _ _ h)))
      go false h = rw (le-ltb n 2147483648 (omega (arith, leb-false _ _ h)), signed_negative (leb-false _ _ h)) (ap negsuc (omega arith))
