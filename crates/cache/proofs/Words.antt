-- A word's bits, for any word: the ones among its lowest bits are counted bit by bit, and an or with a power of two sets one bit. Assumes
-- nothing.
use Prim.Native.Nat.{ℕ, zero, suc, ◌+◌, ◌-◌, ◌/◌, ◌%◌, ◌^◌, ◌<◌}
use native.Mathlib.Nat.{mod-lt, div-eq_of_lt, div_self, mul-mod_left, mul-div_cancel, zero-lt-suc, pow-suc, add_comm}
use native.Mathlib.Numerals.{one-add}
use native.Mathlib.Omega.{arith}
use mathlib.Core.Path.{◌≡◌, refl, sym, ap, ◌∙◌}
use mathlib.Core.Bool.{Bool, true, false, cond, ◌||◌, or_comm}
use borrow.Author.Tests.{eqb-true, eqb-false, ltb-true, ltb-false}
use lib.Bits.{bit_or, or_shr, or_mod}
use lib.Count.{ones, ones_cat}
use lib.Dec.{eqb, ltb}
use lib.Pow.{pow_pos, pow-add, pow-lt, mod-pow-add}

-- bit k of a word
abbrev pub bit : ℕ → ℕ → ℕ
bit w k = w / 2 ^ k % 2

pub bit-small : (w k : ℕ) → bit w k < 2
bit-small w k = mod-lt (w / 2 ^ k) (zero-lt-suc 1)

-- a number below 2 is 0 or 1
module _ (P : ℕ → Type 0) (at0 : P 0) (at1 : P 1) where
  pub by_digit : (d : ℕ) → d < 2 → P d
  by_digit zero h = at0
  by_digit (suc zero) h = at1
  by_digit (suc (suc d)) h = absurd (omega arith)

-- a bit's test as a number is the bit
pub bit_is : (w k : ℕ) → cond (eqb (bit w k) 1) 1 0 ≡ bit w k
bit_is w k = by_digit (λ (d : ℕ). cond (eqb d 1) 1 0 ≡ d) refl refl (bit w k) (bit-small w k)

-- the ones among the lowest bits, and one bit more
pub ones_more : (w k : ℕ) → ones (w % 2 ^ suc k) ≡ ones (w % 2 ^ k) + bit w k
unfolding ones
ones_more w k =
    ap (λ (x : ℕ). ones (w % 2 ^ x)) (sym (one-add k)) ∙ ap ones (mod-pow-add w 1 k)
    ∙ ones_cat k (bit w k) (w % 2 ^ k) (mod-lt w (pow_pos k))
    ∙ ap (λ (d : ℕ). d + ones (w % 2 ^ k)) (by_digit (λ (d : ℕ). ones d ≡ d) refl refl (bit w k) (bit-small w k))
    ∙ add_comm (bit w k) (ones (w % 2 ^ k))

-- a power of two has one bit
pub power-bit : (k m : ℕ) → eqb (bit (2 ^ k) m) 1 ≡ eqb k m
power-bit k m = go (eqb k m) refl (ltb k m) refl
  where
    go : (same : Bool) → eqb k m ≡ same → (less : Bool) → ltb k m ≡ less → eqb (bit (2 ^ k) m) 1 ≡ same
    go true e less h = ap (λ (x : ℕ). eqb (2 ^ k / 2 ^ x % 2) 1) (sym (eqb-true k m e)) ∙ ap (λ (q : ℕ). eqb (q % 2) 1) (div_self (pow_pos k))
    go false e true h = ap (λ (q : ℕ). eqb (q % 2) 1) (div-eq_of_lt (pow-lt (ltb-true k m h)))
    go false e false h =
        let d : suc (k - suc m) + m ≡ k = omega (arith, ltb-false k m h, eqb-false k m e) in
        ap (λ (x : ℕ). eqb (2 ^ x / 2 ^ m % 2) 1) (sym d)
        ∙ ap (λ (p : ℕ). eqb (p / 2 ^ m % 2) 1) (pow-add 2 (suc (k - suc m)) m)
        ∙ ap (λ (q : ℕ). eqb (q % 2) 1) (mul-div_cancel (2 ^ suc (k - suc m)) (pow_pos m) ∙ pow-suc 2 (k - suc m))
        ∙ ap (λ (q : ℕ). eqb q 1) (mul-mod_left (2 ^ (k - suc m)) 2)

-- an or of two bits
or_digits : (a b : ℕ) → a < 2 → b < 2 → eqb (bit_or a b) 1 ≡ eqb a 1 || eqb b 1
or_digits a b h g = by_digit (λ (d : ℕ). eqb (bit_or d b) 1 ≡ eqb d 1 || eqb b 1) refl (by_digit (λ (d : ℕ). eqb (bit_or 1 d) 1 ≡ true) refl refl b g) a h

-- an or with a power of two sets its bit, and leaves the others
pub or_bit : (w k m : ℕ) → eqb (bit (bit_or w (2 ^ k)) m) 1 ≡ eqb k m || eqb (bit w m) 1
or_bit w k m =
    ap (λ (x : ℕ). eqb (x % 2) 1) (or_shr w (2 ^ k) m) ∙ ap (λ (x : ℕ). eqb x 1) (or_mod (w / 2 ^ m) (2 ^ k / 2 ^ m) 1)
    ∙ or_digits (bit w m) (bit (2 ^ k) m) (bit-small w m) (bit-small (2 ^ k) m)
    ∙ or_comm (eqb (bit w m) 1) (eqb (bit (2 ^ k) m) 1) ∙ ap (λ (t : Bool). t || eqb (bit w m) 1) (power-bit k m)
