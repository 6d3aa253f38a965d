-- Noting references one by one: the slots that are left of all of them are those of the references from here on (`Noting`), they are left to be
-- written to the run (`Writes`), and bit k of the words tells whether position k is known, for the positions passed (`Marks`). A loop over a header
-- that was accepted keeps the three. Assumes nothing.
use Prim.Native.Nat.{ℕ, zero, suc, ◌+◌, ◌-◌, ◌*◌, ◌/◌, ◌%◌, ◌^◌, ◌≤◌, ◌<◌}
use native.Mathlib.Omega.{arith}
use native.Mathlib.Nat.{sub-zero, zero-mul}
use native.Mathlib.Numerals.{add-one}
use mathlib.Core.Path.{◌≡◌, refl, sym, ap, ◌∙◌}
use mathlib.Core.Bool.{Bool, true, false, cond, ◌&&◌, ◌||◌, and-true, and-false, or-false, false≢true}
use mathlib.Core.List.{List, [], ◌∷◌}
use borrow.Author.Tests.{eqb-true, eqb-false, lt-ltb, le-ltb, ltb-true, ltb-false}
use lib.Bits.{bit_or, or_zero_r}
use lib.Dec.{eqb, ltb}
use mir.Val.{bool_byte}
use lib.ListN.{length, get_or, set, drop, replicate}
use lib.Seq.{sets, drop-cons}
use Rattle.std.specs.Prelude.{Result, Ok, Err, IsOk, IfOk}
use Rattle.numbers.specs.Bits.{bit}
use Rattle.numbers.specs.declared.Refusal.{Refusal}
use Rattle.references.specs.declared.Reference.{Reference}
use Rattle.references.specs.declared.Reference.TheVariants as ref
use Rattle.references.specs.Header.{is_new, reference_at, past, behind, references, slots_of}
use Rattle.references.proofs.Reading.{found, found_old, first_byte}
use Rattle.names.specs.Positions.{known_at}
use Rattle.cache.specs.Names.{filled, marked, view}
use Rattle.cache.proofs.Marks.{marked-filled, marked-length, empty_filled}
use Rattle.cache.proofs.Views.{view-name}
use Rattle.cache.proofs.Writes.{sets_more, sets_all, shifted}
use Rattle.positions.specs.Positions.{noted}

-- of n references those from number i on are left, from p on; `whole` are the slots of all
pub record Noting (b whole : List ℕ) (wide n i p : ℕ) : Type 0 where
  pub rest : drop i whole ≡ slots_of (references b wide i (n - i) p).references

pub starts : (b : List ℕ) (wide n p : ℕ) → Noting b (slots_of (references b wide 0 n p).references) wide n 0 p
starts b wide n p = record { rest = rw sub-zero refl }

-- the next reference is good, its slot is the byte that stands there, and the rest goes on behind it
pub record Next (b whole : List ℕ) (new : Bool) (wide n i p : ℕ) : Type 0 where
  pub good : IsOk (reference_at b new wide p)
  pub here : p < length b
  pub slot : get_or b p 0 ≡ get_or whole i 0
  pub next : IfOk (reference_at b new wide p) (λ r. Noting b whole wide n (i + 1) (past p r))

module _ {b whole : List ℕ} {wide n i p : ℕ} (all : length whole ≡ n) (h : i < n) (l : Noting b whole wide n i p) where
  one : {r : Result Reference Refusal} → reference_at b (is_new b i) wide p ≡ r → get_or whole i 0 ∷ drop (i + 1) whole ≡ slots_of (behind p (references b wide (i + 1) (n - (i + 1))) r).references
  unfolding references
  one q =
      let e : n - i ≡ suc (n - (i + 1)) = omega arith in
      let d : drop i whole ≡ get_or whole i 0 ∷ drop (i + 1) whole = rw (add-one i) (drop-cons whole i 0 (omega arith)) in
      rw (e, d, q) at l.rest

  at : Next b whole (is_new b i) wide n i p
  unfolding behind
  at = go (reference_at b (is_new b i) wide p) refl
    where
      go : (r : Result Reference Refusal) → reference_at b (is_new b i) wide p ≡ r → Next b whole (is_new b i) wide n i p
      go (Ok (ref.Old slot)) q =
          let f : get_or whole i 0 ∷ drop (i + 1) whole ≡ slot ∷ slots_of (references b wide (i + 1) (n - (i + 1)) (p + 1)).references = one q in
          let s = first_byte b p (found_old b (is_new b i) wide p q).1 in
          record { good = rw q refl; here = s.0; slot = s.1 ∙ (cc); next = rw q (record { rest = cc }) }
      go (Ok (ref.New slot from k)) q =
          let f : get_or whole i 0 ∷ drop (i + 1) whole ≡ slot ∷ slots_of (references b wide (i + 1) (n - (i + 1)) (from + k)).references = one q in
          let s = first_byte b p (found b (is_new b i) wide p q).first in
          record { good = rw q refl; here = s.0; slot = s.1 ∙ (cc); next = rw q (record { rest = cc }) }
      go (Err r) q =
          let f : get_or whole i 0 ∷ drop (i + 1) whole ≡ [] = one q in
          absurd (let z : ◌≡◌ {A = ℕ} 0 1 = cc in omega arith)

  pub nexts : {new : Bool} → new ≡ is_new b i → Next b whole new wide n i p
  nexts u = rw u at

-- the place behind a good reference is where the next one begins
pub follows : {b whole : List ℕ} {wide n i q : ℕ} (p : ℕ) (r : Result Reference Refusal) → IsOk r → IfOk r (λ x. q ≡ past p x) →
    IfOk r (λ x. Noting b whole wide n i (past p x)) → Noting b whole wide n i q
follows p (Ok x) h e l = rw e l
follows p (Err x) h e l = absurd (false≢true h)

-- the run, of which byte 0 is written: all slots behind that, over the run as it was, come to those left over the run as it is by now
pub record Writes (whole first run : List ℕ) (i : ℕ) : Type 0 where
  pub left : sets first 1 whole ≡ sets run (1 + i) (drop i whole)

pub unwritten : {whole first : List ℕ} → Writes whole first first 0
unwritten = record { left = refl }

module _ {whole first run : List ℕ} {n i : ℕ} (all : length whole ≡ n) (l : Writes whole first run i) where
  pub writes : i < n → {slot : ℕ} → slot ≡ get_or whole i 0 → Writes whole first (set run (1 + i) slot) (i + 1)
  writes h e = record { left = rw e (l.left ∙ sets_more run whole 1 i (omega arith)) }

  pub written : (run₀ : List ℕ) → first ≡ set run₀ 0 n → n ≤ i → run ≡ noted whole run₀
  unfolding noted
  written run₀ e h = sym (rw (all, ← e) (l.left ∙ sets_all run whole (1 + i) i (omega arith)))

-- the words for the first i positions
pub record Marks (words whole known : List ℕ) (i : ℕ) : Type 0 where
  pub four : length known ≡ 4
  pub bits : (k : ℕ) → bit known k ≡ cond (ltb k i) (filled words (get_or whole k 0)) false

pub unmarked : (words whole : List ℕ) → Marks words whole (replicate 4 0) 0
unfolding filled
unmarked words whole = record { four = refl; bits = λ k. rw (le-ltb k 0 (omega arith)) (empty_filled k) }

module _ {words whole known : List ℕ} {i : ℕ} (m : Marks words whole known i) where
  abbrev slot_filled : ℕ → Bool
  slot_filled k = filled words (get_or whole k 0)

  -- one position more
  set-bit : i < 256 → (on : Bool) (k : ℕ) → bit (cond on (marked known i) known) k ≡ (on && eqb i k) || bit known k
  unfolding filled
  set-bit h true k = marked-filled known i k m.four h
  set-bit h false k = refl

  next_bit : (on : Bool) → on ≡ slot_filled i → (k : ℕ) → (on && eqb i k) || cond (ltb k i) (slot_filled k) false ≡ cond (ltb k (i + 1)) (slot_filled k) false
  next_bit on e k = go (eqb i k) refl (ltb k i) refl
    where
      go : (t : Bool) → eqb i k ≡ t → (u : Bool) → ltb k i ≡ u → (on && t) || cond u (slot_filled k) false ≡ cond (ltb k (i + 1)) (slot_filled k) false
      go true f true g = absurd (omega (arith, eqb-true i k f, ltb-true k i g))
      go true f false g =
          let same = eqb-true i k f in
          rw (lt-ltb k (i + 1) (omega arith), and-true on, or-false on) (e ∙ ap slot_filled same)
      go false f true g = rw (lt-ltb k (i + 1) (omega (arith, ltb-true k i g)), and-false on)
      go false f false g = rw (le-ltb k (i + 1) (omega (arith, ltb-false k i g, eqb-false i k f)), and-false on)

  next-length : (on : Bool) → length (cond on (marked known i) known) ≡ 4
  next-length true = marked-length known i ∙ m.four
  next-length false = m.four

  pub marks : i < 256 → {on : Bool} {slot : ℕ} {known' : List ℕ} → on ≡ filled words slot → slot ≡ get_or whole i 0 → known' ≡ cond on (marked known i) known →
      Marks words whole known' (i + 1)
  marks h {on} e f g =
      rw g (record {
        four = next-length on;
        bits = λ k. set-bit h on k ∙ ap (λ (t : Bool). (on && eqb i k) || t) (m.bits k) ∙ next_bit on (e ∙ ap (filled words) f) k;
      })

  pub marked_all : length whole ≡ i → (length known ≡ 4) × ((s : List ℕ) (k : ℕ) → bit known k ≡ known_at (view words s) whole k)
  unfolding known_at
  marked_all e = (m.four, λ s k. rw (e, view-name words s (get_or whole k 0)) (m.bits k))

-- a word's bit that is set by a shift, where `on`
set_there : (l : List ℕ) (i : ℕ) → set l i (get_or l i 0) ≡ l
set_there [] i = refl
set_there (x ∷ l) zero = refl
set_there (x ∷ l) (suc i) = ap (λ (r : List ℕ). x ∷ r) (set_there l i)

pub shifted_in : (w : List ℕ) (i : ℕ) (on : Bool) {n : ℕ} → n ≡ bool_byte on →
    set w (i / 64) (bit_or (get_or w (i / 64) 0) (n * 2 ^ (i % 64) % 2 ^ 64)) ≡ cond on (marked w i) w
unfolding marked
shifted_in w i true e = rw (e, shifted (i % 64) (omega arith))
shifted_in w i false e = rw (e, zero-mul (2 ^ (i % 64)), or_zero_r (get_or w (i / 64) 0)) (set_there w (i / 64))

-- the three together, over the words of a cache, with the run as it was and, after those, what there is by now
pub record Kept (b whole words first : List ℕ) (wide n : ℕ) (run known : List ℕ) (i p : ℕ) : Type 0 where
  pub refs : Noting b whole wide n i p
  pub bytes : Writes whole first run i
  pub tells : Marks words whole known i
