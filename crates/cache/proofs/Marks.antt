-- Marking a slot as filled: that slot is filled then, every other is as it was, and the words keep their number and stay below 2 ^ 64.
-- Assumes nothing.
use Prim.Native.Nat.{ℕ, zero, suc, ◌/◌, ◌%◌, ◌^◌, ◌<◌}
use native.Mathlib.Nat.{zero-div, mod-lt, zero-lt-suc}
use native.Mathlib.Omega.{arith}
use mathlib.Core.Path.{◌≡◌, refl, sym, ap, ◌∙◌}
use mathlib.Core.List.{List}
use mathlib.Core.Bool.{Bool, true, false, ◌&&◌, ◌||◌}
use borrow.Author.Tests.{eqb-true, eqb-false, eq-eqb, ne_eqb}
use lib.Bits.{bit_or, or_lt}
use lib.Dec.{eqb}
use lib.ListN.{length, get_or, set, replicate, length-set}
use lib.Pow.{pow-lt}
use lib.Seq.{get_or-set_same, get_or-set_other}
use Rattle.numbers.specs.Bits as bits
use Rattle.cache.specs.Names.{filled, marked}
use Rattle.cache.proofs.Below.{Below, set_below}
use Rattle.cache.proofs.Words.{bit, or_bit}

-- a slot is a word and a bit of it
slot-eqb : (i j : ℕ) → eqb i j ≡ eqb (i / 64) (j / 64) && eqb (i % 64) (j % 64)
slot-eqb i j = go (eqb (i / 64) (j / 64)) refl (eqb (i % 64) (j % 64)) refl
  where
    go : (t : Bool) → eqb (i / 64) (j / 64) ≡ t → (u : Bool) → eqb (i % 64) (j % 64) ≡ u → eqb i j ≡ t && u
    go true p true q = eq-eqb i j (omega (arith, eqb-true (i / 64) (j / 64) p, eqb-true (i % 64) (j % 64) q))
    go true p false q = ne_eqb i j (λ e. eqb-false (i % 64) (j % 64) q (ap (λ (x : ℕ). x % 64) e))
    go false p u q = ne_eqb i j (λ e. eqb-false (i / 64) (j / 64) p (ap (λ (x : ℕ). x / 64) e))

-- bit k of word a is set: bit m of word b
bit-marked : (w : List ℕ) (a b k m : ℕ) → a < length w
    → eqb (bit (get_or (set w a (bit_or (get_or w a 0) (2 ^ k))) b 0) m) 1 ≡ (eqb a b && eqb k m) || eqb (bit (get_or w b 0) m) 1
bit-marked w a b k m h = go (eqb a b) refl
  where
    go : (t : Bool) → eqb a b ≡ t → eqb (bit (get_or (set w a (bit_or (get_or w a 0) (2 ^ k))) b 0) m) 1 ≡ (t && eqb k m) || eqb (bit (get_or w b 0) m) 1
    go true e =
        ap (λ (x : ℕ). eqb (bit (get_or (set w a (bit_or (get_or w a 0) (2 ^ k))) x 0) m) 1) (sym (eqb-true a b e))
        ∙ ap (λ (x : ℕ). eqb (bit x m) 1) (get_or-set_same w a (bit_or (get_or w a 0) (2 ^ k)) 0 h)
        ∙ or_bit (get_or w a 0) k m ∙ ap (λ (x : ℕ). eqb k m || eqb (bit (get_or w x 0) m) 1) (eqb-true a b e)
    go false e = ap (λ (x : ℕ). eqb (bit x m) 1) (get_or-set_other w a b (bit_or (get_or w a 0) (2 ^ k)) 0 (λ p. eqb-false a b e (sym p)))

pub marked-filled : (w : List ℕ) (i j : ℕ) → length w ≡ 4 → i < 256 → filled (marked w i) j ≡ eqb i j || filled w j
unfolding filled bits.bit marked
marked-filled w i j h g = bit-marked w (i / 64) (j / 64) (i % 64) (j % 64) (omega arith) ∙ ap (λ (t : Bool). t || filled w j) (sym (slot-eqb i j))

pub marked-length : (w : List ℕ) (i : ℕ) → length (marked w i) ≡ length w
unfolding marked
marked-length w i = length-set w (i / 64) (bit_or (get_or w (i / 64) 0) (2 ^ (i % 64)))

pub marked-below : (w : List ℕ) (i : ℕ) → Below (2 ^ 64) w → Below (2 ^ 64) (marked w i)
unfolding marked
marked-below w i h =
    set_below (2 ^ 64) w (i / 64) (bit_or (get_or w (i / 64) 0) (2 ^ (i % 64))) h
    (or_lt 64 (get_or w (i / 64) 0) (2 ^ (i % 64)) (h (i / 64)) (pow-lt {j = 64} (mod-lt i (zero-lt-suc 63))))

-- no slot of an empty cache is filled
pub no_word : (n k : ℕ) → ◌≡◌ {A = ℕ} (get_or (replicate n 0) k 0) 0
no_word zero k = refl
no_word (suc n) zero = refl
no_word (suc n) (suc k) = no_word n k

pub empty_filled : (j : ℕ) → filled (replicate 4 0) j ≡ false
unfolding filled bits.bit
empty_filled j = ap (λ (x : ℕ). eqb (bit x (j % 64)) 1) (no_word 4 (j / 64)) ∙ ap (λ (x : ℕ). eqb (x % 2) 1) (zero-div (2 ^ (j % 64)))
