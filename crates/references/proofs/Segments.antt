-- Segment numbers say nothing: two inputs that are the same but in these, and in what stands beside the long bit, are the same header. So where the
-- count is odd, the bit worth 1 of the last flag byte may be set as the long bit is. Assumes nothing.
use Prim.Native.Nat.{ℕ, zero, suc, ◌+◌, ◌-◌, ◌*◌, ◌/◌, ◌%◌, ◌≤◌, ◌<◌}
use native.Mathlib.Omega.{arith}
use mathlib.Core.Path.{◌≡◌, refl, ap, sym, ◌∙◌}
use mathlib.Core.List.{List}
use mathlib.Core.Bool.{Bool, true, false, cond}
use borrow.Author.Tests.{eqb-true, eqb-false, ltb-true, ltb-false, leb-true}
use lib.Dec.{eqb, ltb, leb}
use lib.ListN.{length, get_or, drop, set, length-set}
use lib.Seq.{drop-drop, drop-set-lt, get_or-set_same, get_or-set_other, set_out}
use Rattle.numbers.specs.Caps as cap
use Rattle.std.specs.Prelude.{Option, Some, None, Result, Ok, Err}
use Rattle.numbers.specs.declared.Refusal.{Refusal}
use Rattle.numbers.specs.declared.Refusal.TheVariants as refusal
use Rattle.numbers.proofs.Laws.{by_test}
use Rattle.fields.specs.Be.{be_at}
use Rattle.fields.specs.Field.{holds, field_at, number_then, byte_then}
use Rattle.fields.proofs.Laws.{is_whole, be-one, by_byte}
use Rattle.rows.specs.Row as row
use Rattle.references.specs.declared.Opening.{Opening}
use Rattle.references.specs.declared.Reference.{Reference}
use Rattle.references.specs.declared.Reference.TheVariants as ref
use Rattle.references.specs.Header.{Said, passed, flags_at, new_in, is_new, long_bit, flagged, start_of, named, new_at, reference_at, behind, references, opened, header_of}
use Rattle.references.proofs.Reading.{found, low_half}
use Rattle.references.proofs.Halves.{last, long_odd}

-- the count of references, where it is there, and the place behind the flags
abbrev pub count : List ℕ → ℕ
count b = get_or b 2 0

abbrev pub flags_end : List ℕ → ℕ
flags_end b = flags_at + (count b / 2 + 1)

-- two inputs that are the same before and behind the flags, and whose flags have the same references for new and the same long bit
pub record Alike (b c : List ℕ) : Type 0 where
  pub size : length b ≡ length c
  pub first : (k : ℕ) → k < flags_at → get_or b k 0 ≡ get_or c k 0
  pub new : (i : ℕ) → i < count b → is_new b i ≡ is_new c i
  pub long : long_bit b (count b) ≡ long_bit c (count b)
  pub rest : drop (flags_end b) b ≡ drop (flags_end b) c

module _ (b c : List ℕ) (alike : Alike b c) where
  -- a number that is the same in both, and what is said of it
  then_same : {A : Type 0} (missing : A) (k : ℕ) (f g : ℕ → ℕ → A) (p : ℕ) → field_at k b p ≡ field_at k c p →
      ((n : ℕ) → field_at k b p ≡ Some n → f n (p + k) ≡ g n (p + k)) → number_then missing k b f p ≡ number_then missing k c g p
  unfolding number_then
  then_same missing k f g p e h = go (field_at k b p) refl
    where
      go : (x : Option ℕ) → field_at k b p ≡ x → number_then missing k b f p ≡ number_then missing k c g p
      go (Some n) i = rw (sym e, i) (h n i)
      go None i = rw (sym e, i) refl

  -- behind the flags all is the same
  from : (p : ℕ) → flags_end b ≤ p → drop p b ≡ drop p c
  from p h =
      let to : p ≡ flags_end b + (p - flags_end b) = omega arith in
      rw to (sym (drop-drop (p - flags_end b) (flags_end b) b) ∙ ap (drop (p - flags_end b)) alike.rest ∙ drop-drop (p - flags_end b) (flags_end b) c)

  field_same : (k p : ℕ) → flags_end b ≤ p → field_at k b p ≡ field_at k c p
  unfolding field_at holds be_at
  field_same k p h = rw (alike.size, from p h) refl

  named-same : (slot n p : ℕ) → flags_end b ≤ p → named b slot n p ≡ named c slot n p
  unfolding named row.name row.bytes holds
  named-same slot n p h = rw (alike.size, from p h) refl

  reference-same : (new : Bool) (wide p : ℕ) → flags_end b ≤ p → reference_at b new wide p ≡ reference_at c new wide p
  unfolding reference_at new_at
  reference-same new wide p h =
      then_same _ 1 _ _ p (field_same 1 p h)
      (λ slot _. ap (λ (r : Result Reference Refusal). cond new r (Ok (ref.Old slot)))
      (then_same _ wide _ _ (p + 1) (field_same wide (p + 1) (omega arith)) (λ n _. named-same slot n (p + 1 + wide) (omega arith))))

  -- what stands behind a reference, where it begins behind the flags
  behind-same : (new : Bool) (wide p : ℕ) → flags_end b ≤ p → (f g : ℕ → Said) → ((q : ℕ) → flags_end b ≤ q → f q ≡ g q) →
      behind p f (reference_at b new wide p) ≡ behind p g (reference_at c new wide p)
  unfolding behind
  behind-same new wide p h f g k = rw (sym (reference-same new wide p h)) (go (reference_at b new wide p) refl)
    where
      go : (r : Result Reference Refusal) → reference_at b new wide p ≡ r → behind p f r ≡ behind p g r
      go (Ok (ref.Old slot)) e = ap (passed (ref.Old slot)) (k (p + 1) (omega arith))
      go (Ok (ref.New slot at n)) e = ap (passed (ref.New slot at n)) (k (at + n) (omega (arith, (found b new wide p e).place)))
      go (Err r) e = refl

  references-same : (wide i k p : ℕ) → i + k ≤ count b → flags_end b ≤ p → references b wide i k p ≡ references c wide i k p
  unfolding references
  references-same wide i zero p few h = refl
  references-same wide i (suc k) p few h =
      rw (sym (alike.new i (omega arith))) (behind-same (is_new b i) wide p h _ _ (λ q. references-same wide (i + 1) k q (omega arith)))

  -- and so are the bytes before them
  byte_same : (k : ℕ) → k < flags_at → field_at 1 b k ≡ field_at 1 c k
  unfolding field_at holds
  byte_same k h = go (leb (k + 1) (length b)) refl
    where
      go : (t : Bool) → leb (k + 1) (length b) ≡ t → field_at 1 b k ≡ field_at 1 c k
      go true e =
          let inside : k < length b = omega (arith, leb-true (k + 1) (length b) e) in
          rw (sym alike.size, e, be-one b k inside, be-one c k (omega (arith, alike.size)), alike.first k h) refl
      go false e = rw (sym alike.size, e) refl

  expect_same : {A : Type 0} (missing : A) (other : ℕ → A) (v : ℕ) (f g : ℕ → A) (p : ℕ) → p < flags_at → f (p + 1) ≡ g (p + 1) →
      byte_then missing other v b f p ≡ byte_then missing other v c g p
  unfolding byte_then
  expect_same {A} missing other v f g p h e = then_same _ 1 _ _ p (byte_same p h) (λ x _. ap (λ (y : A). cond (eqb x v) y (other x)) e)

  is-count : {n : ℕ} → field_at 1 b 2 ≡ Some n → n ≡ count b
  is-count e = let (inside, n) = is_whole 1 b 2 e in n ∙ be-one b 2 (omega arith)

  -- so both begin alike, and what is opened is the same
  flagged-same : flagged b (count b) ≡ flagged c (count b)
  unfolding flagged holds
  flagged-same = rw (alike.size, alike.long) refl

  start-same : start_of b ≡ start_of c
  unfolding start_of
  start-same =
      rw alike.size
      (ap (λ (o : Result Opening Refusal). cond (ltb cap.input (length c)) (Err refusal.Long) o)
      (expect_same _ _ 131 _ _ 0 (omega arith)
      (expect_same _ _ 68 _ _ 1 (omega arith)
      (then_same _ 1 _ _ 2 (byte_same 2 (omega arith)) (λ n e. rw (is-count e) flagged-same)))))

  abbrev Opened : Result Opening Refusal → Type 0
  Opened o = opened b o ≡ opened c o

  flagged-opened : Opened (flagged b (count b))
  unfolding flagged opened references
  flagged-opened =
      by_test Opened (eqb (count b) 0) _ _ refl
      (by_test Opened (holds (count b / 2 + 1) b flags_at) _ _ (references-same _ 0 (count b) (flags_end b) (omega arith) (omega arith)) refl)

  count-opened : Opened (number_then (Err refusal.Eof) 1 b (λ n _. flagged b n) 2)
  unfolding number_then opened
  count-opened = go (field_at 1 b 2) refl
    where
      go : (f : Option ℕ) → field_at 1 b 2 ≡ f → Opened (number_then (Err refusal.Eof) 1 b (λ n _. flagged b n) 2)
      go (Some n) e = rw (e, is-count e) flagged-opened
      go None e = rw e refl

  start-opened : Opened (start_of b)
  unfolding start_of opened
  start-opened =
      by_test Opened (ltb cap.input (length b)) _ _ refl
      (by_byte _ _ 131 b _ 0 Opened refl (λ x. refl) (by_byte _ _ 68 b _ 1 Opened refl (λ x. refl) count-opened))

  pub same-header : header_of b ≡ header_of c
  unfolding header_of
  same-header = start-opened ∙ ap (opened c) start-same

-- a byte whose bit worth 1 is set as its bit worth 16 is
abbrev pub agreed : ℕ → ℕ
agreed x = x / 2 * 2 + x / 16 % 2

module _ (x : ℕ) where
  agreed_high : agreed x / 16 ≡ x / 16
  agreed_high = omega arith

  agreed_low : agreed x % 2 ≡ x / 16 % 2
  agreed_low = omega arith

  agreed_new : (i : ℕ) → i % 2 ≡ 0 → new_in x i ≡ new_in (agreed x) i
  unfolding new_in
  agreed_new i e =
      let bit : agreed x % 16 / 8 ≡ x % 16 / 8 = omega arith in
      rw (sym (low_half x i e), sym (low_half (agreed x) i e), bit) refl

-- Where the count is odd, the bit worth 1 of the last flag byte belongs to a segment number: set as the bit worth 16 is, it leaves the header as it
-- was, and the two bits agree.
module _ (b : List ℕ) where
  abbrev at : ℕ
  at = flags_at + count b / 2

  abbrev pub meant : List ℕ
  meant = set b at (agreed (last b (count b)))

  module _ (odd : count b % 2 ≡ 1) where
    module _ (inside : at < length b) where
      moved : last meant (count b) ≡ agreed (last b (count b))
      moved = get_or-set_same b at _ 0 inside

      pub both_agree : last meant (count b) / 16 % 2 ≡ last meant (count b) % 2
      both_agree = rw (moved, agreed_high (last b (count b)), agreed_low (last b (count b))) refl

      new_same : (i : ℕ) → i < count b → is_new b i ≡ is_new meant i
      unfolding is_new
      new_same i h = go (eqb (i / 2) (count b / 2)) refl
        where
          go : (t : Bool) → eqb (i / 2) (count b / 2) ≡ t → new_in (get_or b (flags_at + i / 2) 0) i ≡ new_in (get_or meant (flags_at + i / 2) 0) i
          go true e = let same = eqb-true (i / 2) (count b / 2) e in rw (same, moved) (agreed_new (last b (count b)) i (omega arith))
          go false e =
              let other = eqb-false (i / 2) (count b / 2) e in
              ap (λ (x : ℕ). new_in x i) (sym (get_or-set_other b at (flags_at + i / 2) _ 0 (λ f. other (omega arith))))

      alike : Alike b meant
      alike = record {
        size = sym (length-set b at _);
        first = λ k h. sym (get_or-set_other b at k _ 0 (λ e. omega arith));
        new = new_same;
        long = rw (long_odd b (count b) odd, long_odd meant (count b) odd, moved, agreed_high (last b (count b))) refl;
        rest = sym (drop-set-lt (flags_end b) b at _ (omega arith));
      }

    pub meant_same : header_of b ≡ header_of meant
    meant_same = go (ltb at (length b)) refl
      where
        go : (t : Bool) → ltb at (length b) ≡ t → header_of b ≡ header_of meant
        go true e = same-header b meant (alike (ltb-true at (length b) e))
        go false e = ap header_of (sym (set_out b at _ (ltb-false at (length b) e)))
