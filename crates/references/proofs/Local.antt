-- A header that is read to its end says the same whatever stands behind it. All that it is judged by, its first bytes, its flags and its references
-- with their names, lies before the rest: so a list that agrees up to there, and is not too long, begins the same, has the same references and the
-- same rest. Assumes nothing.
use Prim.Native.Nat.{ℕ, zero, suc, ◌+◌, ◌/◌, ◌≤◌, ◌<◌}
use native.Mathlib.Omega.{arith}
use native.Mathlib.Nat.{le_trans, le_refl}
use mathlib.Core.Path.{◌≡◌, refl, ap, sym, subst, ◌∙◌}
use mathlib.Core.List.{List, ◌∷◌}
use mathlib.Core.Bool.{Bool, true, false, cond}
use borrow.Author.Tests.{le-ltb, ltb-true, ltb-false}
use lib.Dec.{eqb, ltb}
use lib.ListN.{length, get_or}
use Rattle.std.specs.Prelude.{Option, Some, None, Result, Ok, Err}
use Rattle.numbers.specs.Caps as cap
use Rattle.numbers.specs.declared.Refusal.{Refusal}
use Rattle.numbers.specs.declared.Refusal.TheVariants as refusal
use Rattle.numbers.proofs.Laws.{by_test}
use Rattle.fields.specs.Field.{holds, field_at, number_then, byte_then}
use Rattle.fields.proofs.Laws.{there, is-there, is_whole, then_is, then_eof, by_then, by_byte}
use Rattle.rows.specs.Row as row
use Rattle.rows.proofs.Laws.{name-to}
use Rattle.rows.proofs.Ends.{Agree, agree_less, agree_length, agree_byte, agree_field, near_name}
use Rattle.references.specs.declared.Opening.{Opening}
use Rattle.references.specs.declared.Reference.{Reference}
use Rattle.references.specs.declared.Reference.TheVariants as ref
use Rattle.references.specs.Header.{Said, passed, past, flags_at, half_byte, new_in, is_new, segment, one_segment, long_bit, flagged, start_of, named, new_at, reference_at, behind, references, referred, opened, header_of, slots_of}
use Rattle.references.proofs.Reading.{named-to, named-no, too_long}
use Rattle.references.proofs.OneSegment.{same-segments}
use Rattle.references.proofs.Every.{All, none, more, all_slots}

-- where a reference at p ends, and where what stands before the first one does; and a reference whose name lies before e
abbrev end_at : ℕ → Result Reference Refusal → Result ℕ Refusal
end_at p (Ok r) = Ok (past p r)
end_at p (Err r) = Err r

abbrev first_at : Result Opening Refusal → Result ℕ Refusal
first_at (Ok o) = Ok o.first
first_at (Err r) = Err r

abbrev pub Before : ℕ → Reference → Type 0
Before e (ref.Old slot) = Unit {0}
Before e (ref.New slot at n) = at + n ≤ e

before_past : (p : ℕ) (r : Reference) {e : ℕ} → past p r ≤ e → Before e r
before_past p (ref.Old slot) h = tt
before_past p (ref.New slot at n) h = h

module _ (b c : List ℕ) where
  -- what is read from p on, x over b and y over c: where it ends, it ends not before p, within b, and the same over a list that agrees up to there
  abbrev Upto : {A : Type 0} → ℕ → (x y : A) → Result ℕ Refusal → Type 0
  Upto p x y (Ok e) = (p ≤ e) × (e ≤ length b) × (Agree b c e → y ≡ x)
  Upto p x y (Err r) = Unit {0}

  upto_later : {A : Type 0} (p q : ℕ) (x y z : A) (r : Result ℕ Refusal) → p ≤ q → (Agree b c q → z ≡ y) → Upto q x y r → Upto p x z r
  upto_later p q x y z (Ok e) h k (i, l, m) = (le_trans h i, l, λ a. k (agree_less a i) ∙ m a)
  upto_later p q x y z (Err r) h k u = tt

  module _ {A : Type 0} (end : A → Result ℕ Refusal) where
    upto_cond : (p : ℕ) (t : Bool) (x y v w : A) → Upto p x y (end x) → Upto p v w (end v) → Upto p (cond t x v) (cond t y w) (end (cond t x v))
    upto_cond p true x y v w h k = h
    upto_cond p false x y v w h k = k

    upto_then : (missing : A) (k p : ℕ) (f g : ℕ → ℕ → A) → ((y : A) → Upto p missing y (end missing)) →
        ((n : ℕ) → p + k ≤ length b → Upto (p + k) (f n (p + k)) (g n (p + k)) (end (f n (p + k)))) →
        Upto p (number_then missing k b f p) (number_then missing k c g p) (end (number_then missing k b f p))
    upto_then missing k p f g z h = go (field_at k b p) refl
      where
        go : (x : Option ℕ) → field_at k b p ≡ x → Upto p (number_then missing k b f p) (number_then missing k c g p) (end (number_then missing k b f p))
        go (Some n) e =
            rw (then_is k b p missing f e) (upto_later p (p + k) _ (g n (p + k)) _ (end (f n (p + k))) (omega arith)
            (λ a. then_is k c p missing g (agree_field k p a e)) (h n (is_whole k b p e).0))
        go None e = rw (then_eof k b p missing f e) (z _)

    upto_byte : (missing : A) (other : ℕ → A) (v p : ℕ) (f g : ℕ → A) → ((y : A) → Upto p missing y (end missing)) → ((x : ℕ) → Upto (p + 1) (other x) (other x) (end (other x))) →
        (p + 1 ≤ length b → Upto (p + 1) (f (p + 1)) (g (p + 1)) (end (f (p + 1)))) →
        Upto p (byte_then missing other v b f p) (byte_then missing other v c g p) (end (byte_then missing other v b f p))
    unfolding byte_then
    upto_byte missing other v p f g z o h = upto_then missing 1 p _ _ z (λ x l. upto_cond (p + 1) (eqb x v) (f (p + 1)) (g (p + 1)) (other x) (other x) (h l) (o x))

  -- a reference
  upto_named : (p slot n q : ℕ) → Upto q (named b slot n q) (named c slot n q) (end_at p (named b slot n q))
  upto_named p slot n q = go (row.name b n q) refl
    where
      go : (r : Result ℕ Refusal) → row.name b n q ≡ r → Upto q (named b slot n q) (named c slot n q) (end_at p (named b slot n q))
      go (Ok e) h =
          let (i, l) = name-to b n q h in
          let (_, _, m) = rw h at (near_name b c n q) in
          rw (← named-to b slot n q h) (omega arith, omega arith, λ a. sym (named-to c slot n q (m (rw i a))))
      go (Err r) h = rw (← named-no b slot n q h) tt

  upto_reference : (new : Bool) (wide p : ℕ) → Upto p (reference_at b new wide p) (reference_at c new wide p) (end_at p (reference_at b new wide p))
  unfolding reference_at new_at
  upto_reference new wide p =
      upto_then (end_at p) _ 1 p _ _ (λ y. tt) (λ slot l. upto_cond (end_at p) (p + 1) new _ _ _ _
      (upto_then (end_at p) _ wide (p + 1) _ _ (λ y. tt) (λ n _. upto_named p slot n (p + 1 + wide)))
      (le_refl (p + 1), l, λ a. refl))

  -- references from p on that are read to their end: h over b and q over c; and their names lie before the rest
  abbrev Named : Result ℕ Refusal → List Reference → Type 0
  Named (Ok e) rs = All (Before e) rs
  Named (Err r) rs = Unit {0}

  abbrev Through : ℕ → (h q : Said) → Type 0
  Through p h q = Upto p h q h.rest × Named h.rest h.references

  through_passed : (p : ℕ) (r : Reference) (h q z : Said) → p ≤ past p r → (Agree b c (past p r) → z ≡ passed r q) → Through (past p r) h q → Through p (passed r h) z
  through_passed p r h q z i k t = go h.rest t
    where
      go : (rest : Result ℕ Refusal) → Upto (past p r) h q rest × Named rest h.references → Upto p (passed r h) z rest × Named rest (r ∷ h.references)
      go (Ok e) ((j, l, m), named) = ((le_trans i j, l, λ a. k (agree_less a j) ∙ ap (passed r) (m a)), more (before_past p r j) named)
      go (Err x) u = (tt, tt)

  through_behind : (p : ℕ) (f g : ℕ → Said) (r s : Result Reference Refusal) → Upto p r s (end_at p r) →
      ((e : ℕ) → p ≤ e → e ≤ length b → Through e (f e) (g e)) → Through p (behind p f r) (behind p g s)
  unfolding behind
  through_behind p f g (Ok r) s (i, l, m) h = through_passed p r (f (past p r)) (g (past p r)) (behind p g s) i (λ a. ap (behind p g) (m a)) (h (past p r) i l)
  through_behind p f g (Err r) s u h = (tt, tt)

  -- a flag byte that lies before e
  flag_same : (i : ℕ) {e : ℕ} → flags_at + i / 2 < e → Agree b c e → get_or c (flags_at + i / 2) 0 ≡ get_or b (flags_at + i / 2) 0
  flag_same i h a = sym (agree_byte a h)

  through_references : (wide i k p : ℕ) → flags_at + (i + k + 1) / 2 ≤ p → p ≤ length b → Through p (references b wide i k p) (references c wide i k p)
  unfolding references is_new
  through_references wide i zero p h l = ((le_refl p, l, λ a. refl), none)
  through_references wide i (suc k) p h l =
      through_behind p (references b wide (i + 1) k) (references c wide (i + 1) k) (reference_at b (is_new b i) wide p) (reference_at c (is_new c i) wide p)
      (upto_later p p _ (reference_at c (is_new b i) wide p) _ (end_at p (reference_at b (is_new b i) wide p)) (le_refl p)
      (λ a. ap (λ (flag : ℕ). reference_at c (new_in flag i) wide p) (flag_same i (omega arith) a)) (upto_reference (is_new b i) wide p))
      (λ e j m. through_references wide (i + 1) k e (omega arith) m)

  -- what stands before them
  upto_flagged : (n : ℕ) → flags_at ≤ length b → Upto flags_at (flagged b n) (flagged c n) (first_at (flagged b n))
  unfolding flagged long_bit half_byte
  upto_flagged n l = upto_cond first_at flags_at (eqb n 0) _ _ _ _ (le_refl flags_at, l, λ a. refl) (go (holds (n / 2 + 1) b flags_at) refl)
    where
      some : List ℕ → Bool → Result Opening Refusal
      some d t = cond t (Ok (record { count = n; long = long_bit d n; first = flags_at + (n / 2 + 1) })) (Err refusal.Eof)

      go : (t : Bool) → holds (n / 2 + 1) b flags_at ≡ t → Upto flags_at (some b t) (some c (holds (n / 2 + 1) c flags_at)) (first_at (some b t))
      go true h =
          let l = there (n / 2 + 1) b flags_at h in
          (omega arith, l, λ a. rw (is-there (n / 2 + 1) c flags_at (agree_length a l), flag_same n (omega arith) a))
      go false h = tt

  upto_start : length c ≤ cap.input → Upto 0 (start_of b) (start_of c) (first_at (start_of b))
  unfolding start_of
  upto_start l =
      rw (le-ltb cap.input (length c) l) (by_test (λ (o : Result Opening Refusal). Upto 0 o (begun c) (first_at o)) (ltb cap.input (length b)) _ _ tt
      (upto_byte first_at _ _ 131 0 (kind b) (kind c) (λ y. tt) (λ x. tt) (λ _.
      upto_byte first_at _ _ 68 1 (count b) (count c) (λ y. tt) (λ x. tt) (λ _.
      upto_then first_at _ 1 2 (λ n _. flagged b n) (λ n _. flagged c n) (λ y. tt) upto_flagged))))
    where
      count : List ℕ → ℕ → Result Opening Refusal
      count d = number_then (Err refusal.Eof) 1 d (λ n _. flagged d n)

      kind : List ℕ → ℕ → Result Opening Refusal
      kind d = byte_then (Err refusal.Eof) (λ k. Err (refusal.Kind k)) 68 d (count d)

      begun : List ℕ → Result Opening Refusal
      begun d = byte_then (Err refusal.Eof) (λ _. Err refusal.Tag) 131 d (kind d) 0

-- a header that is read to its end: it begins well, and none of its references is refused
pub record Whole (b : List ℕ) (rest : ℕ) : Type 0 where
  pub opening : Opening
  pub begins : start_of b ≡ Ok opening
  pub ends : (header_of b).rest ≡ Ok rest

-- so it is where it has a rest
pub whole : (b : List ℕ) {e : ℕ} → (header_of b).rest ≡ Ok e → Whole b e
unfolding header_of opened
whole b {e} d = go (start_of b) refl
  where
    go : (o : Result Opening Refusal) → start_of b ≡ o → Whole b e
    go (Ok o) i = record { opening = o; begins = i; ends = d }
    go (Err r) i = let f : ◌≡◌ {A = Result ℕ Refusal} (Err r) (Ok e) = rw i at d in absurd (let z : ◌≡◌ {A = ℕ} 0 1 = cc in omega arith)

module _ {b : List ℕ} {rest : ℕ} (w : Whole b rest) where
  -- there is a slot for each reference
  pub slots-count : length (slots_of (header_of b).references) ≡ w.opening.count
  unfolding header_of opened
  slots-count =
      let o = w.opening in
      let e : (referred b o).rest ≡ Ok rest = rw w.begins at w.ends in
      rw w.begins ((all_slots b (cond o.long 2 1) 0 o.count o.first).each e)

  -- the flags lie before the first reference
  abbrev Flags : Result Opening Refusal → Type 0
  Flags (Ok o) = flags_at + (o.count + 1) / 2 ≤ o.first
  Flags (Err r) = Unit {0}

  flags-before : flags_at + (w.opening.count + 1) / 2 ≤ w.opening.first
  unfolding start_of flagged
  flags-before =
      subst Flags w.begins
      (by_test Flags (ltb cap.input (length b)) _ _ tt
      (by_byte _ _ 131 b _ 0 Flags tt (λ x. tt)
      (by_byte _ _ 68 b _ 1 Flags tt (λ x. tt)
      (by_then 1 b 2 _ _ Flags tt (λ n. by_test Flags (eqb n 0) _ _ (omega arith) (by_test Flags (holds (n / 2 + 1) b flags_at) _ _ (omega arith) tt))))))

  pub not-long : length b ≤ cap.input
  not-long = go (ltb cap.input (length b)) refl
    where
      go : (t : Bool) → ltb cap.input (length b) ≡ t → length b ≤ cap.input
      go true e = let f : ◌≡◌ {A = Result Opening Refusal} (Err refusal.Long) (Ok w.opening) = too_long b (ltb-true cap.input (length b) e) ∙ w.begins in absurd (let z : ◌≡◌ {A = ℕ} 0 1 = cc in omega arith)
      go false e = ltb-false cap.input (length b) e

  module _ (c : List ℕ) (l : length c ≤ cap.input) where
    starts : Upto b c 0 (Ok w.opening) (start_of c) (Ok w.opening.first)
    starts = rw w.begins at (upto_start b c l)

    goes : Upto b c w.opening.first (header_of b) (referred c w.opening) (Ok rest) × All (Before rest) (header_of b).references
    unfolding header_of opened references
    goes =
        let e : (referred b w.opening).rest ≡ Ok rest = rw w.begins at w.ends in
        let t = through_references b c (cond w.opening.long 2 1) 0 w.opening.count w.opening.first (omega (arith, flags-before)) starts.1 in
        rw w.begins (rw e at t)

  -- its rest lies behind the count and within the input, and every name before it
  pub inside : (flags_at ≤ rest) × (rest ≤ length b)
  inside = let ((i, l, _), _) = goes b not-long in (omega (arith, flags-before), l)

  pub names-before : All (Before rest) (header_of b).references
  names-before = (goes b not-long).1

  -- and whatever agrees with it up to there says the same
  module _ {c : List ℕ} (a : Agree b c rest) (l : length c ≤ cap.input) where
    opens : start_of c ≡ Ok w.opening
    opens = (starts c l).2 (agree_less a (goes c l).0.0)

    pub local_start : start_of c ≡ start_of b
    local_start = opens ∙ sym w.begins

    pub local_header : header_of c ≡ header_of b
    unfolding header_of opened
    local_header = rw opens ((goes c l).0.2 a)

    pub local_segment : one_segment c w.opening.count ≡ one_segment b w.opening.count
    unfolding segment half_byte
    local_segment = same-segments c b w.opening.count (λ i h. rw (flag_same b c i (omega (arith, flags-before, (goes c l).0.0)) a))
