-- Over the definition alone: the deepest nesting begun only rises, so that it may be raised to a term's level before the term is read.
-- Assumes nothing.
use mathlib.Core.Path.{◌≡◌, refl}
use mathlib.Core.List.{List}
use Prim.Native.Nat.{ℕ, zero, suc, ◌+◌, ◌-◌, ◌≤◌, ◌<◌, max}
use native.Mathlib.Omega.{arith}
use native.Mathlib.Nat.{le_trans, le-max_left, le-max_right, max-eq_left}
use lib.ListN.{length}
use borrow.Author.Tests.{lt-ltb}
use Rattle.numbers.specs.Allowed.{Allowed}
use Rattle.reading.specs.Reading.{State, done}
use Rattle.reading.specs.Terms.{term}
use Rattle.reading.proofs.Keeps.{Keeps, keeps_begun}

-- a place within the input, at least so deep
abbrev Deep : List ℕ → ℕ → State → Type 0
Deep b d s = (d ≤ s.deepest) × (s.at ≤ length b)

deep : (b : List ℕ) (limit d : ℕ) → Keeps b limit (Deep b d) (λ l n p s. Unit {0})
deep b limit d = record {
  inside = λ s h. h.1;
  moves = λ s p h k l. (h.0, l);
  begins = λ s n m h k. (le_trans h.0 (le-max_left s.deepest n), omega arith);
  stops = λ l n s m h. tt;
  reaches = λ l n s m h. tt;
  wide = λ l n p s h. tt;
  enters = λ l n g p s h. tt;
}

-- a term that is begun is as deep as it stands
pub floor : (allow : Allowed) (b : List ℕ) (limit rem : ℕ) (s t : State) → ¬ (rem ≡ 0) → term allow b limit rem s ≡ done t → limit + 1 - rem ≤ t.deepest
floor allow b limit zero s t k e = absurd (k refl)
floor allow b limit (suc r) s t k e =
    let h : limit + 1 - suc r ≡ limit - r = omega arith in
    let begun = keeps_begun allow (deep b limit (limit - r)) r s (λ l. (le-max_right s.deepest (limit - r), omega arith)) tt in
    rw h (rw e at begun).0

pub raise : (allow : Allowed) (b : List ℕ) (limit rem : ℕ) (s : State) → ¬ (rem ≡ 0) → s.at < length b →
    term allow b limit rem s ≡ term allow b limit rem (record { at = s.at; last = s.last; begun = s.begun; deepest = max s.deepest (limit + 1 - rem) })
unfolding term
raise allow b limit zero s k h = absurd (k refl)
raise allow b limit (suc r) s k h =
    let q : limit + 1 - suc r ≡ limit - r = omega arith in
    let m : max (max s.deepest (limit - r)) (limit - r) ≡ max s.deepest (limit - r) = max-eq_left (le-max_right s.deepest (limit - r)) in
    rw (q, m, lt-ltb s.at (length b) h)
