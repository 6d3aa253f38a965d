-- Digits that are least first: they spell what they do in the other order from the most on, as many of them as there are bytes hold, and
-- not less than their top one is worth. The digits of a number spell it, no fewer do, and how many they are. Assumes nothing.
use Prim.Native.Nat.{ℕ, zero, suc, ◌-◌, ◌^◌, ◌/◌, ◌%◌, ◌≤◌, ◌<◌}
use native.Mathlib.Nat.{pow-suc, one-le-pow, mod-add-div, div-lt_iff_lt-mul, le-div_iff_mul-le}
use native.Mathlib.Omega.{arith}
use mathlib.Core.Path.{◌≡◌, refl, ap, sym}
use mathlib.Core.Bool.{Bool, true, false, cond}
use mathlib.Core.List.{List, [], ◌∷◌, reverse, reverse-cons}
use lib.Dec.{eqb}
use lib.ListN.{length, get_or}
use borrow.Author.Tests.{eqb-true, eq-eqb, ne_eqb}
use Rattle.fields.specs.Be.{be, le, digits_of}
use Rattle.fields.specs.Inner.Be.{Bytes, none, more}
use Rattle.fields.proofs.Laws.{be-append}

pub le-reverse : (s : List ℕ) → le s ≡ be (reverse s)
unfolding be le
le-reverse [] = refl
le-reverse (x ∷ s) = rw (reverse-cons x s, be-append (reverse s) (x ∷ []), ← le-reverse s) (omega arith)

pub le_below : {s : List ℕ} → Bytes s → le s < 256 ^ length s
unfolding le
le_below none = omega arith
le_below (more {x} {s} h r) = let q = le_below r in rw pow-suc (omega arith)

-- digits whose last, the one worth most, is not zero
top : (x : ℕ) (s : List ℕ) → 0 < get_or (x ∷ s) (length s) 0 → 256 ^ length s ≤ le (x ∷ s)
unfolding le
top x [] h = omega arith
top x (y ∷ s) h = let q = top y s h in rw pow-suc (omega arith)

pub le_least : (s : List ℕ) → 0 < get_or s (length s - 1) 0 → 256 ^ (length s - 1) ≤ le s
le_least [] h = absurd (omega arith)
le_least (x ∷ s) h = let e : suc (length s) - 1 ≡ length s = omega arith in rw e (top x s (rw e at h))

-- without its lowest digit a number takes one place less
less : (k n : ℕ) → n < 256 ^ suc k → n / 256 < 256 ^ k
less k n h = (div-lt_iff_lt-mul {k = 256} {x = n} {y = 256 ^ k} (omega arith)).1 (rw pow-suc at h)

-- the digits of a number: they spell it where k of them hold it
pub le-digits : (k n : ℕ) → n < 256 ^ k → le (digits_of k n) ≡ n
unfolding le digits_of
le-digits zero n h = omega arith
le-digits (suc k) n h = go (le-digits k (n / 256) (less k n h)) (eqb n 0) refl
  where
    go : le (digits_of k (n / 256)) ≡ n / 256 → (x : Bool) → eqb n 0 ≡ x → le (cond x [] (n % 256 ∷ digits_of k (n / 256))) ≡ n
    go r true e = sym (eqb-true n 0 e)
    go r false e = rw r (mod-add-div n 256)

-- they are at most k
pub few-digits : (k n : ℕ) → length (digits_of k n) ≤ k
unfolding digits_of
few-digits zero n = omega arith
few-digits (suc k) n = go (few-digits k (n / 256)) (eqb n 0)
  where
    go : length (digits_of k (n / 256)) ≤ k → (x : Bool) → length (cond {A = List ℕ} x [] (n % 256 ∷ digits_of k (n / 256))) ≤ suc k
    go r true = omega arith
    go r false = omega arith

-- "fewest": no row of bytes that spells the number is shorter
pub fewest : (k n j : ℕ) → n < 256 ^ j → length (digits_of k n) ≤ j
unfolding digits_of
fewest zero n j h = omega arith
fewest (suc k) n zero h = let z : n ≡ 0 = omega arith in rw z (omega arith)
fewest (suc k) n (suc j) h = go (fewest k (n / 256) j (less j n h)) (eqb n 0)
  where
    go : length (digits_of k (n / 256)) ≤ j → (x : Bool) → length (cond {A = List ℕ} x [] (n % 256 ∷ digits_of k (n / 256))) ≤ suc j
    go r true = omega arith
    go r false = omega arith

-- and as many are needed as there are powers of 256 in it
many_digits : (k n j : ℕ) → j < k → 256 ^ j ≤ n → j < length (digits_of k n)
unfolding digits_of
many_digits zero n j h l = absurd (omega arith)
many_digits (suc k) n zero h l = rw (ne_eqb n 0 (λ e. omega arith)) (omega arith)
many_digits (suc k) n (suc j) h l =
    rw (ne_eqb n 0 (λ e. omega (arith, one-le-pow (suc j) 256 (omega arith))))
    (omega (arith, many_digits k (n / 256) j (omega arith) ((le-div_iff_mul-le {k = 256} {x = 256 ^ j} {y = n} (omega arith)).1 (rw pow-suc at l))))

pub digits-length : (k n j : ℕ) → j < k → 256 ^ j ≤ n → n < 256 ^ suc j → length (digits_of k n) ≡ suc j
digits-length k n j h l u = omega (arith, many_digits k n j h l, fewest k n (suc j) u)

-- places that a number doesn't need add no digit, so that they are told one by one with the same places
spare : (k n : ℕ) → n < 256 ^ k → digits_of k n ≡ digits_of (suc k) n
unfolding digits_of
spare zero n h = rw (eq-eqb n 0 (omega arith))
spare (suc k) n h = ap (λ (l : List ℕ). cond (eqb n 0) [] (n % 256 ∷ l)) (spare k (n / 256) (less k n h))

pub digits-none : (k : ℕ) → digits_of k 0 ≡ []
unfolding digits_of
digits-none zero = refl
digits-none (suc k) = refl

pub digits_more : (k n : ℕ) → 0 < n → n < 256 ^ suc k → digits_of (suc k) n ≡ n % 256 ∷ digits_of (suc k) (n / 256)
unfolding digits_of
digits_more k n h u =
    rw (ne_eqb n 0 (λ e. omega arith)) (ap (λ (l : List ℕ). n % 256 ∷ l) (spare k (n / 256) (less k n u)))
