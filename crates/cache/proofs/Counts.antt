-- The count of names: "the ones in all four" words are as many as the filled ones of the 256 slots. Assumes nothing.
use Prim.Native.Nat.{ℕ, zero, suc, ◌+◌, ◌*◌, ◌%◌, ◌^◌, ◌≤◌, ◌<◌}
use native.Mathlib.Nat.{mod-eq_of_lt, mod-one, add-zero, add-suc, add_assoc}
use native.Mathlib.Omega.{arith}
use mathlib.Core.Path.{◌≡◌, refl, sym, ap, ap₂, ◌∙◌}
use mathlib.Core.List.{List}
use mathlib.Core.Bool.{cond}
use lib.Arith.{digits_div, digits_mod}
use lib.Count.{ones}
use lib.Dec.{eqb}
use lib.ListN.{get_or, replicate}
use Rattle.numbers.specs.Bits as bits
use Rattle.cache.specs.Names.{filled, count_of, filled_slots}
use Rattle.cache.proofs.Below.{Below}
use Rattle.cache.proofs.Words.{bit, bit_is, ones_more}

-- the first n slots of word a
word_slots : (w : List ℕ) (a n : ℕ) → n ≤ 64 → filled_slots w (a * 64 + n) ≡ filled_slots w (a * 64) + ones (get_or w a 0 % 2 ^ n)
unfolding filled_slots filled bits.bit ones
word_slots w a zero h =
    ap (filled_slots w) (add-zero (a * 64)) ∙ sym (ap (λ (x : ℕ). filled_slots w (a * 64) + ones x) (mod-one (get_or w a 0)) ∙ add-zero (filled_slots w (a * 64)))
word_slots w a (suc n) h =
    ap (filled_slots w) (add-suc (a * 64) n)
    ∙ ap₂ (λ (x y : ℕ). x + y) (word_slots w a n (omega arith))
    (ap₂ (λ (q r : ℕ). cond (eqb (bit (get_or w q 0) r) 1) 1 0) (digits_div a h) (digits_mod a h) ∙ bit_is (get_or w a 0) n)
    ∙ add_assoc (filled_slots w (a * 64)) (ones (get_or w a 0 % 2 ^ n)) (bit (get_or w a 0) n)
    ∙ ap (λ (x : ℕ). filled_slots w (a * 64) + x) (sym (ones_more (get_or w a 0) n))

-- all 64 of them
whole_word : (w : List ℕ) (a : ℕ) → get_or w a 0 < 2 ^ 64 → filled_slots w (a * 64 + 64) ≡ filled_slots w (a * 64) + ones (get_or w a 0)
whole_word w a h = word_slots w a 64 (omega arith) ∙ ap (λ (x : ℕ). filled_slots w (a * 64) + ones x) (mod-eq_of_lt h)

no-slots : (w : List ℕ) → filled_slots w 0 ≡ 0
unfolding filled_slots
no-slots w = refl

-- the count is the number of filled slots
pub count-is : (w : List ℕ) → Below (2 ^ 64) w → count_of w ≡ filled_slots w 256
unfolding count_of
count-is w h = omega (arith, no-slots w, whole_word w 0 (h 0), whole_word w 1 (h 1), whole_word w 2 (h 2), whole_word w 3 (h 3))

-- an empty cache has no names
pub count_empty : count_of (replicate 4 0) ≡ 0
unfolding count_of ones
count_empty = refl
