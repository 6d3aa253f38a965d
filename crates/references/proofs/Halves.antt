-- The flags: a half byte is its bit worth 8 and its segment number; which bit of the last flag byte is the long one; and where a header begins
-- well, there is a half byte for each of its references. Assumes nothing.
use Prim.Native.Nat.{ℕ, zero, suc, ◌+◌, ◌/◌, ◌%◌, ◌≤◌, ◌<◌}
use native.Mathlib.Omega.{arith}
use mathlib.Core.Path.{◌≡◌, refl, sym, subst, ◌∙◌}
use mathlib.Core.List.{List}
use mathlib.Core.Bool.{Bool, true, false, cond}
use borrow.Author.Tests.{eqb-true, eqb-false}
use lib.Dec.{eqb, ltb}
use lib.ListN.{length, get_or}
use Rattle.numbers.specs.Caps as cap
use Rattle.std.specs.Prelude.{Option, Some, None, Result, Ok, Err}
use Rattle.numbers.specs.declared.Refusal.{Refusal}
use Rattle.numbers.specs.declared.Refusal.TheVariants as refusal
use Rattle.fields.specs.Field.{holds, field_at, number_then}
use Rattle.fields.proofs.Inverse.{is_below}
use Rattle.fields.proofs.Laws.{there, is_whole, by_byte}
use Rattle.numbers.proofs.Laws.{by_test}
use Rattle.references.specs.declared.Opening.{Opening}
use Rattle.references.proofs.Reading.{low_half, high_half}
use Rattle.references.specs.Inner.Known.{Flagged}
use Rattle.references.specs.Header.{flags_at, half_of, half_byte, new_in, is_new, segment, long_bit, flagged, start_of}

half_below : (flag i : ℕ) → flag < 256 → half_of flag i < 16
unfolding half_of
half_below flag i h = by_test (λ (x : ℕ). x < 16) (eqb (i % 2) 0) _ _ (omega arith) (omega arith)

pub half_is : (b : List ℕ) (i : ℕ) → get_or b (flags_at + i / 2) 0 < 256 → half_byte b i ≡ cond (is_new b i) 8 0 + segment b i
unfolding half_byte is_new new_in segment
half_is b i h = go (eqb (half_of (get_or b (flags_at + i / 2) 0) i / 8 % 2) 1) refl
  where
    half : ℕ
    half = half_of (get_or b (flags_at + i / 2) 0) i

    go : (t : Bool) → eqb (half / 8 % 2) 1 ≡ t → half ≡ cond t 8 0 + half % 8
    go true e = omega (arith, half_below _ i h, eqb-true (half / 8 % 2) 1 e)
    go false e = omega (arith, half_below _ i h, eqb-false (half / 8 % 2) 1 e)

-- the long bit is the last flag byte's bit worth 1 where the count is even, and its bit worth 16 where it is odd
module _ (b : List ℕ) (n : ℕ) where
  abbrev pub last : ℕ
  last = get_or b (flags_at + n / 2) 0

  pub long_even : n % 2 ≡ 0 → long_bit b n ≡ eqb (last % 2) 1
  unfolding long_bit half_byte
  long_even e =
      let bit : last % 16 % 2 ≡ last % 2 = omega arith in
      rw (sym (low_half last n e), bit)

  pub long_odd : n % 2 ≡ 1 → long_bit b n ≡ eqb (last / 16 % 2) 1
  unfolding long_bit half_byte
  long_odd e = rw (sym (high_half last n (λ f. omega arith)))

  -- "for even counts, and for odd ones where both bits agree" it is the bit worth 1, at which the Rust looks
  pub long_agreed : (n % 2 ≡ 1 → last / 16 % 2 ≡ last % 2) → long_bit b n ≡ eqb (last % 2) 1
  long_agreed agree = go (n % 2) refl (omega arith)
    where
      go : (r : ℕ) → n % 2 ≡ r → r < 2 → long_bit b n ≡ eqb (last % 2) 1
      go zero e _ = long_even e
      go (suc zero) e _ = long_odd e ∙ rw (agree e)
      go (suc (suc r)) e h = absurd (omega arith)

-- there are at most 255 references, and flags for all of them
abbrev Begins : List ℕ → Result Opening Refusal → Type 0
Begins b (Ok o) = Flagged b o
Begins b (Err r) = Unit {0}

module _ (b : List ℕ) (low : (k : ℕ) → get_or b k 0 < 256) where
  flagged-there : (n : ℕ) → n < 256 → 3 ≤ length b → Begins b (flagged b n)
  unfolding flagged
  flagged-there n few h =
      by_test (Begins b) (eqb n 0) _ _ (record { few = omega arith; flags = omega arith }) (go (holds (n / 2 + 1) b flags_at) refl)
    where
      go : (t : Bool) → holds (n / 2 + 1) b flags_at ≡ t →
          Begins b (cond t (Ok (record { count = n; long = long_bit b n; first = flags_at + (n / 2 + 1) })) (Err refusal.Eof))
      go true e = record { few = few; flags = omega (arith, there (n / 2 + 1) b flags_at e) }
      go false e = tt

  count-there : Begins b (number_then (Err refusal.Eof) 1 b (λ n _. flagged b n) 2)
  unfolding number_then
  count-there = go (field_at 1 b 2) refl
    where
      go : (f : Option ℕ) → field_at 1 b 2 ≡ f → Begins b (number_then (Err refusal.Eof) 1 b (λ n _. flagged b n) 2)
      go (Some n) e = rw e (flagged-there n (is_below 1 b 2 low e) (is_whole 1 b 2 e).0)
      go None e = rw e tt

  start-flagged : Begins b (start_of b)
  unfolding start_of
  start-flagged = by_test (Begins b) (ltb cap.input (length b)) _ _ tt (by_byte _ _ 131 b _ 0 (Begins b) tt (λ x. tt) (by_byte _ _ 68 b _ 1 (Begins b) tt (λ x. tt) count-there))

  pub start-there : {o : Opening} → start_of b ≡ Ok o → Flagged b o
  start-there e = subst (Begins b) e start-flagged
