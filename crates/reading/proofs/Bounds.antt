-- Over the definition alone: whatever is answered lies within the input, has begun at most a term for each byte, and is nested, and has a
-- path, no longer than the limit. Assumes nothing.
use mathlib.Core.Path.{◌≡◌, refl, sym, ◌∙◌}
use mathlib.Core.List.{List}
use mathlib.Core.Bool.{Bool, true, false}
use Prim.Native.Nat.{ℕ, zero, suc, ◌+◌, ◌-◌, ◌≤◌, ◌<◌, max}
use native.Mathlib.Omega.{arith}
use lib.Dec.{ltb}
use lib.ListN.{length}
use borrow.Author.Tests.{ltb-true, ltb-false, lt-ltb, le-ltb}
use Rattle.numbers.specs.Caps as cap
use Rattle.numbers.specs.Allowed.{Allowed}
use Rattle.numbers.specs.Numbers as number
use Rattle.numbers.specs.Refusal.{number_of}
use Rattle.numbers.specs.declared.Refusal.{Refusal}
use Rattle.numbers.specs.declared.Refusal.TheVariants as why
use Rattle.numbers.proofs.Laws.{listed_some}
use Rattle.reading.specs.Told.{Told}
use Rattle.reading.specs.declared.Segment.{Segment}
use Rattle.reading.specs.Reading.{State, Result, done, no, reach, begin, refused}
use Rattle.reading.specs.Terms.{term}
use Rattle.reading.specs.Answer.{early, answer, read_by}
use Rattle.reading.proofs.Answers.{by-start}
use Rattle.reading.proofs.Keeps.{Keeps, Held, keeps, keeps_begun}

-- a place that reading from s on comes to
pub record Within (b : List ℕ) (limit : ℕ) (s t : State) : Type 0 where
  pub after : s.at ≤ t.at
  pub inside : t.at ≤ length b
  pub reached : t.last ≤ max s.last (length b)
  pub counted : t.begun + s.at ≤ s.begun + t.at
  pub nested : t.deepest ≤ max s.deepest limit

-- and where a refusal leaves it, with so many levels left
pub record Refused (b : List ℕ) (limit : ℕ) (s : State) (left n : ℕ) (p : List Segment) (t : State) : Type 0 where
  pub some : 0 < n
  pub short : length p ≤ left
  pub reached : t.last ≤ max s.last (length b)
  pub counted : t.begun + s.at ≤ s.begun + length b
  pub nested : t.deepest ≤ max s.deepest limit

module _ (allow : Allowed) (b : List ℕ) (limit : ℕ) where
  -- no term is begun at the input's end, and one that is read starts before it
  pub at-end : (left : ℕ) (s : State) → length b ≤ s.at → term allow b limit left s ≡ refused number.Eof (reach s)
  unfolding term
  at-end zero s h = rw (le-ltb s.at (length b) h)
  at-end (suc l) s h = rw (le-ltb s.at (length b) h)

  pub started : (left : ℕ) (s t : State) → term allow b limit left s ≡ done t → s.at < length b
  started left s t e = go (ltb s.at (length b)) refl
    where
      go : (x : Bool) → ltb s.at (length b) ≡ x → s.at < length b
      go true h = ltb-true s.at (length b) h
      go false h = let f : refused number.Eof (reach s) ≡ done t = sym (at-end left s (ltb-false s.at (length b) h)) ∙ e in absurd cc

  bounds : (s : State) → Keeps b limit (Within b limit s) (Refused b limit s)
  bounds s = record {
    inside = λ t h. h.inside;
    moves = λ t p h k l. record { after = omega arith; inside = l; reached = h.reached; counted = omega arith; nested = h.nested };
    begins = λ t n m h k. record { after = omega arith; inside = omega arith; reached = omega arith; counted = omega arith; nested = omega arith };
    stops = λ l n t m h. record { some = listed_some n m; short = omega arith; reached = h.reached; counted = omega arith; nested = h.nested };
    reaches = λ l n t m h. record { some = listed_some n m; short = omega arith; reached = omega arith; counted = omega arith; nested = h.nested };
    wide = λ l n p t h. record { some = h.some; short = omega arith; reached = h.reached; counted = h.counted; nested = h.nested };
    enters = λ l n g p t h. record { some = h.some; short = omega arith; reached = h.reached; counted = h.counted; nested = h.nested };
  }

  here : (s : State) → s.at ≤ length b → Within b limit s s
  here s h = record { after = omega arith; inside = h; reached = omega arith; counted = omega arith; nested = omega arith }

  pub within : (left : ℕ) (s : State) → s.at ≤ length b → Held (Within b limit s) (Refused b limit s) left (term allow b limit left s)
  within left s h = keeps allow (bounds s) left s (here s h)

  -- a term that is begun, from behind its tag on
  pub behind : (left : ℕ) (s : State) → s.at ≤ length b → let t = begin (limit - left) s in Held (Within b limit t) (Refused b limit t) (suc left) (term allow b limit (suc left) s)
  behind left s h =
      let t = begin (limit - left) s in
      keeps_begun allow (bounds t) left s (λ k. here t (omega arith)) (record { some = omega arith; short = omega arith; reached = omega arith; counted = omega arith; nested = omega arith })

  -- a term that is read ends behind its start, within the input
  pub ends : (left : ℕ) (s t : State) → term allow b limit left s ≡ done t → (s.at < t.at) × (t.at ≤ length b)
  unfolding term
  ends zero s t e =
      let f : refused number.Deep (reach s) ≡ done t = rw (lt-ltb s.at (length b) (started zero s t e)) at e in
      absurd cc
  ends (suc left) s t e =
      let w = rw e at (behind left s (omega (arith, started (suc left) s t e))) in
      (omega arith, w.inside)

  -- one that is refused has at most a segment for each level left
  pub few : (left : ℕ) (s t : State) {n x : ℕ} {p : List Segment} → s.at ≤ length b → term allow b limit left s ≡ no n x t p → length p ≤ left
  few left s t h e = (rw e at (within left s h)).short

-- the answer of reading at a place of the input
pub record Bounded (b : List ℕ) (at limit : ℕ) (a : Told) : Type 0 where
  pub counted : a.begun ≤ length b - at
  pub offset : a.offset ≤ length b
  pub end : a.end ≤ length b
  pub after : a.number ≡ 0 → at < a.end
  pub nested : a.deepest ≤ limit
  pub short : a.len ≤ limit
  pub fits : a.len ≤ cap.nesting

module _ (allow : Allowed) (b : List ℕ) (at : ℕ) where
  abbrev start : State
  start = record { at = at; last = 0; begun = 0; deepest = 0 }

  pub bounded : (limit : ℕ) → at ≤ length b → Bounded b at limit (read_by allow b at limit)
  unfolding read_by answer
  bounded limit h = by-start limit (length b) (Bounded b at limit) _ (unread why.Limit (omega arith)) (unread why.Long (omega arith)) (λ k m l. read limit refl k m)
    where
      unread : (r : Refusal) → 0 < number_of r → Bounded b at limit (early r)
      unread r k = record { counted = omega arith; offset = omega arith; end = omega arith; after = λ e. omega arith; nested = omega arith; short = omega arith; fits = omega arith }

      told : (left : ℕ) (o : Result) → left < limit → limit ≤ cap.nesting → let t = begin (limit - left) start in Held (Within b limit t) (Refused b limit t) (suc left) o → Bounded b at limit (answer o)
      told left (done t) m l k = record { counted = omega arith; offset = omega arith; end = k.inside; after = λ e. omega arith; nested = omega arith; short = omega arith; fits = omega arith }
      told left (no n x t p) m l k = record { counted = omega arith; offset = omega arith; end = omega arith; after = λ e. omega arith; nested = omega arith; short = omega arith; fits = omega arith }

      read : (l : ℕ) → l ≡ limit → ¬ (limit ≡ 0) → limit ≤ cap.nesting → Bounded b at limit (answer (term allow b limit l start))
      read zero e k m = absurd (k (sym e))
      read (suc l) e k m = told l (term allow b limit (suc l) start) (omega arith) m (behind allow b limit l start h)

  -- past the input's end nothing is begun, and no path entered
  pub past : (limit : ℕ) → length b ≤ at → ((read_by allow b at limit).begun ≡ 0) × ((read_by allow b at limit).len ≡ 0)
  unfolding read_by answer
  past limit h = by-start limit (length b) (λ a. (a.begun ≡ 0) × (a.len ≡ 0)) _ (refl, refl) (refl, refl) (λ k m l. rw (at-end allow b limit limit start h) (refl, refl))

  -- "at most 64 segments", at any place
  pub few-segments : (limit : ℕ) → (read_by allow b at limit).len ≤ cap.nesting
  few-segments limit = go (ltb at (length b)) refl
    where
      go : (x : Bool) → ltb at (length b) ≡ x → (read_by allow b at limit).len ≤ cap.nesting
      go true e = (bounded limit (omega (arith, ltb-true at (length b) e))).fits
      go false e = omega (arith, (past limit (ltb-false at (length b) e)).1)
