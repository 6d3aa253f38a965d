-- The answer by cases: before reading, and what reading says. Assumes nothing.
use Prim.Native.Nat.{ℕ, ◌≤◌, ◌<◌}
use native.Mathlib.Omega.{arith}
use mathlib.Core.Path.{◌≡◌, refl, sym}
use mathlib.Core.List.{List, []}
use mathlib.Core.Bool.{Bool, true, false, cond, ◌||◌}
use lib.Dec.{ltb, eqb}
use lib.ListN.{length}
use borrow.Author.Tests.{lt-ltb, le-ltb, ne_eqb, ltb-false, eqb-false}
use Rattle.numbers.specs.Numbers as number
use Rattle.numbers.specs.Caps as cap
use Rattle.numbers.specs.Allowed.{Allowed}
use Rattle.reading.specs.Told.{Told}
use Rattle.reading.specs.declared.Kind.{Kind}
use Rattle.reading.specs.declared.Kind.TheVariants as kind
use Rattle.std.specs.Prelude.{Ok, Err}
use Rattle.numbers.specs.declared.Refusal.{Refusal}
use Rattle.numbers.specs.declared.Refusal.TheVariants as why
use Rattle.reading.specs.Reading.{Result}
use Rattle.reading.specs.Terms.{term}
use Rattle.reading.specs.Answer.{kind_number, refusal, early, answer, starts, started, read_by}
use Rattle.reading.proofs.Families.{term_eof}

-- whether reading may begin
module _ (limit len : ℕ) where
  pub starts_none : limit ≡ 0 → starts limit len ≡ Err why.Limit
  unfolding starts
  starts_none e = rw e

  pub starts-over : ¬ (limit ≡ 0) → cap.nesting < limit → starts limit len ≡ Err why.Limit
  unfolding starts
  starts-over h k = rw (ne_eqb limit 0 h, lt-ltb cap.nesting limit k)

  pub starts-long : ¬ (limit ≡ 0) → limit ≤ cap.nesting → cap.input < len → starts limit len ≡ Err why.Long
  unfolding starts
  starts-long h k j = rw (ne_eqb limit 0 h, le-ltb cap.nesting limit k, lt-ltb cap.input len j)

  pub starts-on : ¬ (limit ≡ 0) → limit ≤ cap.nesting → len ≤ cap.input → starts limit len ≡ Ok tt
  unfolding starts
  starts-on h k j = rw (ne_eqb limit 0 h, le-ltb cap.nesting limit k, le-ltb cap.input len j)

  -- what the two refusals before reading and the answer behind them have, every answer has
  pub by-start : (P : Told → Type 0) (a : Told) → P (early why.Limit) → P (early why.Long) → (¬ (limit ≡ 0) → limit ≤ cap.nesting → len ≤ cap.input → P a) → P (started (starts limit len) a)
  unfolding starts
  by-start P a l m h = go (eqb limit 0) (ltb cap.nesting limit) (ltb cap.input len) refl refl refl
    where
      go : (x y z : Bool) → eqb limit 0 ≡ x → ltb cap.nesting limit ≡ y → ltb cap.input len ≡ z → P (started (cond (x || y) (Err why.Limit) (cond z (Err why.Long) (Ok tt))) a)
      go true y z e f g = l
      go false true z e f g = l
      go false false true e f g = m
      go false false false e f g = h (eqb-false limit 0 e) (ltb-false cap.nesting limit f) (ltb-false cap.input len g)

  -- what it says that it may
  pub starts-reads : starts limit len ≡ Ok tt → (1 ≤ limit) × ((limit ≤ cap.nesting) × (len ≤ cap.input))
  unfolding starts
  starts-reads h = go (eqb limit 0) (ltb cap.nesting limit) (ltb cap.input len) refl refl refl
    where
      never : {r : Refusal} → Err r ≡ Ok (tt {0}) → (1 ≤ limit) × ((limit ≤ cap.nesting) × (len ≤ cap.input))
      never e = cc

      go : (x y z : Bool) → eqb limit 0 ≡ x → ltb cap.nesting limit ≡ y → ltb cap.input len ≡ z → (1 ≤ limit) × ((limit ≤ cap.nesting) × (len ≤ cap.input))
      go true y z e f g = never (rw e at h)
      go false true z e f g = never (rw (e, f) at h)
      go false false true e f g = never (rw (e, f, g) at h)
      go false false false e f g = let k = eqb-false limit 0 e in (omega (arith, k), (ltb-false cap.nesting limit f, ltb-false cap.input len g))

-- what reading a term at a place answers
module _ (allow : Allowed) (b : List ℕ) (at limit : ℕ) where
  pub read-on : (o : Result) → ¬ (limit ≡ 0) → limit ≤ cap.nesting → length b ≤ cap.input →
      o ≡ term allow b limit limit (record { at = at; last = 0; begun = 0; deepest = 0 }) → read_by allow b at limit ≡ answer o
  unfolding read_by
  read-on o h k j e = rw (starts-on limit (length b) h k j, e)

  -- past the end there is no term
  pub read_past : ¬ (limit ≡ 0) → limit ≤ cap.nesting → length b ≤ cap.input → length b < at → read_by allow b at limit ≡ refusal number.Eof at 0 0 0 []
  unfolding answer
  read_past h k j l = read-on _ h k j (sym (term_eof allow b limit limit _ _ (omega arith) refl))

  pub read_no : (r : Refusal) → starts limit (length b) ≡ Err r → read_by allow b at limit ≡ early r
  unfolding read_by
  read_no r e = rw e

  -- an input that was read is no longer than one may be
  pub read_short : (read_by allow b at limit).number ≡ number.Done → length b ≤ cap.input
  unfolding read_by
  read_short = by-start limit (length b) (λ a. a.number ≡ number.Done → length b ≤ cap.input) _ (λ e. absurd (omega arith)) (λ e. absurd (omega arith)) (λ h k l e. l)

-- a kind's number
pub kind_small : (k : Kind) → kind_number k < 6
kind_small kind.Tuple = omega arith
kind_small kind.List = omega arith
kind_small kind.Tail = omega arith
kind_small kind.Key = omega arith
kind_small kind.Value = omega arith
kind_small kind.Free = omega arith
