-- Whether references all have segment number 0: they do just where each one has, old ones as new ones, so that nothing but their own half bytes is
-- looked at; and a flag byte that isn't there counts as 0. Assumes nothing.
use Prim.Native.Nat.{ℕ, zero, suc, ◌+◌, ◌/◌, ◌%◌, ◌≤◌, ◌<◌}
use native.Mathlib.Omega.{arith}
use mathlib.Core.Path.{◌≡◌, refl, sym}
use mathlib.Core.Logic.{◌↔◌}
use mathlib.Core.List.{List}
use mathlib.Core.Bool.{Bool, true, false, ◌&&◌, false≢true}
use borrow.Author.Count.{below_more}
use borrow.Author.Tests.{eqb-true, ltb-true, ltb-false}
use lib.Dec.{eqb, ltb}
use lib.ListN.{length, get_or-eq_default}
use Rattle.numbers.proofs.Laws.{by_test}
use Rattle.references.specs.Header.{flags_at, half_of, half_byte, segment, one_segment}

both : (t u : Bool) → t && u ≡ true → (t ≡ true) × (u ≡ true)
both true u e = (refl, e)
both false u e = absurd (false≢true e)

module _ (b : List ℕ) where
  each : (n : ℕ) → one_segment b n ≡ true → (i : ℕ) → i < n → segment b i ≡ 0
  unfolding one_segment
  each zero h i k = absurd (omega arith)
  each (suc n) h i k =
      let (e, f) = both (one_segment b n) (eqb (segment b n) 0) h in
      below_more (λ (j : ℕ). segment b j ≡ 0) n (each n e) (eqb-true (segment b n) 0 f) i (omega arith)

  all : (n : ℕ) → ((i : ℕ) → i < n → segment b i ≡ 0) → one_segment b n ≡ true
  unfolding one_segment
  all zero h = refl
  all (suc n) h = rw (all n (λ i k. h i (omega arith)), h n (omega arith))

  pub one-segment : (n : ℕ) → (one_segment b n ≡ true) ↔ ((i : ℕ) → i < n → segment b i ≡ 0)
  one-segment n = (each n, all n)

  -- one that isn't 0 is enough
  pub other-segment : (n i : ℕ) → i < n → (segment b i ≡ 0 → ⊥) → false ≡ one_segment b n
  other-segment n i k h = go (one_segment b n) refl
    where
      go : (t : Bool) → one_segment b n ≡ t → false ≡ t
      go true e = absurd (h (each n e i k))
      go false e = refl

  -- past the flags that are there
  no_flag : (i : ℕ) → length b ≤ flags_at + i / 2 → segment b i ≡ 0
  unfolding segment half_byte half_of
  no_flag i h = rw (get_or-eq_default b 0 h) (by_test (λ (x : ℕ). x % 8 ≡ 0) (eqb (i % 2) 0) _ _ refl refl)

  pub no_more : (n i : ℕ) → ((k : ℕ) → k < i → segment b k ≡ 0) → length b ≤ flags_at + i / 2 → true ≡ one_segment b n
  no_more n i h l = sym (all n (λ k _. go k (ltb k i) refl))
    where
      go : (k : ℕ) (t : Bool) → ltb k i ≡ t → segment b k ≡ 0
      go k true e = h k (ltb-true k i e)
      go k false e = no_flag k (omega (arith, ltb-false k i e))

-- the half byte after the last reference, and all that stands elsewhere, says nothing
pub same-segments : (b c : List ℕ) (n : ℕ) → ((i : ℕ) → i < n → segment b i ≡ segment c i) → one_segment b n ≡ one_segment c n
unfolding one_segment
same-segments b c zero h = refl
same-segments b c (suc n) h = rw (same-segments b c n (λ i k. h i (omega arith)), h n (omega arith))
