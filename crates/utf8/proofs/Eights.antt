-- Bytes taken as one number, the first worth least, and the bit that no byte of ASCII has. Assumes nothing.
use Rattle.std.proofs.Common.{◌≡◌, ℕ, zero, suc, ◌+◌, ◌-◌, ◌*◌, ◌/◌, ◌%◌, ◌^◌, ◌<◌, ◌≤◌, Bool, true, false, ◌&&◌, eqb, ltb, leb, ◌↔◌, List, [], ◌∷◌, ◌++◌, length, get_or, take, drop, sym, refl, ap, ◌∙◌, subst, lt_of_le_of_lt, mod-lt, mod-eq_of_lt, mul_assoc, add_comm, pow-suc, arith, length-drop, w64, take-append-drop, length-take-le, get_or-drop, get_or-take, take-take, drop-drop, pow_pos, pow-add, ltb-false, ltb-true, eq-eqb, eqb-true, leb-false, leb-true}
use native.Mathlib.Nat.{mod-mod, mul-mod_left, add-mul-mod_self_right}
use lib.Bits.{bit_and, and_high, and_block, and_zero_l, and_mod, and_le_l}
use lib.Count.{count_trailing_zeros, under, trailing_le}
use lib.Pow.{pow-lt}
use lib.ListN.{drop_of_length-le}
use lib.Seq.{take-length}
use Rattle.std.proofs.lemmas.List.{drop-take, take_rest}
use Rattle.std.specs.Int.{from_le_bytes}
use Rattle.std.specs.Simd.{first_chunks}
use Rattle.utf8.specs.Inner.Check.{Plain, Run, le}

-- a list of bytes, and the same of its parts
abbrev pub Bytes : List ℕ → Type 0
Bytes s = (k : ℕ) → get_or s k 0 < 256

pub take-bytes : (n : ℕ) (s : List ℕ) → Bytes s → Bytes (take n s)
take-bytes zero s h k = omega arith
take-bytes (suc n) [] h k = omega arith
take-bytes (suc n) (x ∷ s) h zero = h 0
take-bytes (suc n) (x ∷ s) h (suc k) = take-bytes n s (λ j. h (suc j)) k

pub drop-bytes : (n : ℕ) (s : List ℕ) → Bytes s → Bytes (drop n s)
drop-bytes n s h k = rw get_or-drop (h (n + k))

-- a run before another: the second is worth its number times the places of the first
pub le-append : (s t : List ℕ) → le (s ++ t) ≡ le s + le t * 256 ^ length s
unfolding le
le-append [] t = omega arith
le-append (x ∷ s) t = rw (le-append s t, pow-suc 256 (length s), ← mul_assoc (le t) (256 ^ length s) 256) (omega arith)

le_step : (l : List ℕ) (k : ℕ) → le (drop k l) ≡ get_or l k 0 + le (drop (suc k) l) * 256
unfolding le
le_step [] zero = refl
le_step [] (suc k) = refl
le_step (x ∷ l) zero = refl
le_step (x ∷ l) (suc k) = le_step l k

-- eight bytes as std puts them together
le-eight : (l : List ℕ) → length l ≡ 8 → from_le_bytes w64 l ≡ le l
unfolding le
le-eight l e =
    let none : le (drop 8 l) ≡ 0 = rw (drop_of_length-le l {i = 8} (omega arith)) refl in
    omega (arith, le_step l 0, le_step l 1, le_step l 2, le_step l 3, le_step l 4, le_step l 5, le_step l 6, le_step l 7)

-- bytes fit their places
le_below : (s : List ℕ) → Bytes s → le s < 256 ^ length s
unfolding le
le_below [] h = omega arith
le_below (x ∷ s) h = let l = le_below s (λ k. h (suc k)) in let m = h 0 in rw pow-suc (omega arith)

-- what is left of a number by 256 ^ n is its first n bytes
pub le-rest : (n : ℕ) (s : List ℕ) → Bytes s → n ≤ length s → le s % 256 ^ n ≡ le (take n s)
le-rest n s h l =
    let e : length (take n s) ≡ n = length-take-le n s l in
    let f : le (take n s) < 256 ^ n = subst (λ (m : ℕ). le (take n s) < 256 ^ m) e (le_below (take n s) (take-bytes n s h)) in
    ap (λ (m : ℕ). m % 256 ^ n) (ap le (sym (take-append-drop n s)) ∙ le-append (take n s) (drop n s) ∙ ap (λ (m : ℕ). le (take n s) + le (drop n s) * 256 ^ m) e)
    ∙ add-mul-mod_self_right (le (take n s)) (le (drop n s)) (256 ^ n) ∙ mod-eq_of_lt f

-- the high bit of each of k bytes
pub highs : ℕ → ℕ
highs zero = 0
highs (suc k) = highs k * 256 + 128

low_bit : (x : ℕ) → x < 256 → (bit_and x 128 ≡ 0) ↔ (x < 128)
low_bit x h =
    let bit : x / 128 % 2 ≡ x / 128 = mod-eq_of_lt (omega arith) in
    (λ e. omega (arith, and_high x 1 7), λ l. omega (arith, and_high x 1 7))

-- none of them is set exactly where every byte is below 128
pub none_high : (k : ℕ) (s : List ℕ) → length s ≤ k → Bytes s → (bit_and (le s) (highs k) ≡ 0) ↔ ((i : ℕ) → i < length s → get_or s i 0 < 0x80)
unfolding le highs
none_high k [] l h = (λ e i g. omega arith, λ all. and_zero_l (highs k))
none_high zero (x ∷ s) l h = absurd (omega arith)
none_high (suc k) (x ∷ s) l h =
    let later = none_high k s (omega arith) (λ j. h (suc j)) in
    let here = low_bit x (h 0) in
    let both : bit_and (x + le s * 256) (highs k * 256 + 128) ≡ bit_and (le s) (highs k) * 256 + bit_and x 128 = rw (add_comm x (le s * 256)) (and_block 8 (le s) (highs k) x 128 (h 0) (omega arith)) in (
      λ e. elim-at (here.0 (omega arith)) (later.0 (omega arith)),
      λ all. omega (arith, here.1 (all 0 (omega arith)), later.1 (λ i g. all (suc i) (omega arith))),
    )
  where
    elim-at : x < 0x80 → ((i : ℕ) → i < length s → get_or s i 0 < 0x80) → (i : ℕ) → i < suc (length s) → get_or (x ∷ s) i 0 < 0x80
    elim-at a r zero g = a
    elim-at a r (suc i) g = r i (omega arith)

-- the same of the first m of eight bytes
module _ (e : List ℕ) (h : Bytes e) (w : length e ≡ 8) where
  pub front-plain : (m : ℕ) → m ≤ 8 → (bit_and (le (take m e)) 0x8080808080808080 ≡ 0) ↔ Plain e 0 m
  unfolding highs
  front-plain m l = (
    λ q.
        record {
          order = omega arith;
          within = omega arith;
          low = λ k a b. subst (λ (x : ℕ). x < 0x80) (get_or-take m e k 0 b) (law.0 q k (rw size b));
        },
    λ p. law.1 (λ k g. let b : k < m = rw size at g in subst (λ (x : ℕ). x < 0x80) (sym (get_or-take m e k 0 b)) (p.low k (omega arith) b)),
  )
    where
      size : length (take m e) ≡ m
      size = length-take-le m e (omega arith)

      law : (bit_and (le (take m e)) (highs 8) ≡ 0) ↔ ((k : ℕ) → k < length (take m e) → get_or (take m e) k 0 < 0x80)
      law = none_high 8 (take m e) (rw size l) (take-bytes m e h)

  -- the code's number of them, and its test: of the first m, and of all
  pub first_of_eight : (m : ℕ) → m ≤ 8 → from_le_bytes w64 e % 256 ^ m ≡ le (take m e)
  first_of_eight m l = ap (λ (x : ℕ). x % 256 ^ m) (le-eight e w) ∙ le-rest m e h (omega arith)

  pub tested : (m r : ℕ) → m ≤ 8 → r ≡ le (take m e) → (eqb (bit_and r 0x8080808080808080) 0 ≡ true) ↔ Plain e 0 m
  tested m r l q =
      let law = front-plain m l in (
        λ t. law.0 (ap (λ (x : ℕ). bit_and x 0x8080808080808080) (sym q) ∙ eqb-true _ _ t),
        λ p. eq-eqb _ _ (ap (λ (x : ℕ). bit_and x 0x8080808080808080) q ∙ law.1 p),
      )

  pub all_tested : (r : ℕ) → r ≡ from_le_bytes w64 e → (eqb (bit_and r 0x8080808080808080) 0 ≡ true) ↔ Plain e 0 8
  all_tested r q =
      let all : take 8 e ≡ e = subst (λ (n : ℕ). take n e ≡ e) w (take-length e) in
      tested 8 r (omega arith) (q ∙ le-eight e w ∙ ap le (sym all))

-- a number with t zeros at its end is a multiple of 2 ^ t
zeros : (k n t : ℕ) → t ≤ count_trailing_zeros k n → (q : ℕ) × (n ≡ q * 2 ^ t)
unfolding count_trailing_zeros
zeros k n zero h = (n, omega arith)
zeros zero n (suc t) h = absurd (omega arith)
zeros (suc k) n (suc t) h = go (n % 2) refl h (zeros k (n / 2) t)
  where
    go : (d : ℕ) → n % 2 ≡ d → suc t ≤ under d (count_trailing_zeros k (n / 2)) → (t ≤ count_trailing_zeros k (n / 2) → (q : ℕ) × (n / 2 ≡ q * 2 ^ t)) → (q : ℕ) × (n ≡ q * 2 ^ suc t)
    go zero e l later = let r = later (omega arith) in (r.0, rw (pow-suc 2 t, ← mul_assoc r.0 (2 ^ t) 2) (omega (arith, r.1)))
    go (suc d) e l later = absurd (omega arith)

pub places : (n : ℕ) → 256 ^ n ≡ 2 ^ (8 * n)
places zero = refl
places (suc n) =
    let e : 8 * n + 8 ≡ 8 * suc n = omega arith in
    pow-suc 256 n ∙ ap (λ (m : ℕ). m * 256) (places n) ∙ sym (pow-add 2 (8 * n) 8) ∙ ap (λ (m : ℕ). 2 ^ m) e

-- the bytes of eight that stand before the lowest high bit that is set
module _ (e : List ℕ) (h : Bytes e) (w : length e ≡ 8) where
  low-front : (n : ℕ) → n ≤ 8 → bit_and (le e) 0x8080808080808080 % 2 ^ (8 * n) ≡ 0 → Plain e 0 n
  low-front n l q = (front-plain e h w n l).0 none
    where
      place : ℕ
      place = 2 ^ (8 * n)

      part : le (take n e) ≡ le e % place
      part = sym (le-rest n e h (omega arith)) ∙ ap (λ (m : ℕ). le e % m) (places n)

      small : le e % place < place
      small = mod-lt (le e) (pow_pos (8 * n))

      none : bit_and (le (take n e)) 0x8080808080808080 ≡ 0
      none =
          ap (λ (m : ℕ). bit_and m 0x8080808080808080) part
          ∙ sym (mod-eq_of_lt (lt_of_le_of_lt (and_le_l (le e % place) 0x8080808080808080) small))
          ∙ and_mod (le e % place) 0x8080808080808080 (8 * n)
          ∙ ap (λ (m : ℕ). bit_and m (0x8080808080808080 % place)) (mod-mod (le e) place)
          ∙ sym (and_mod (le e) 0x8080808080808080 (8 * n)) ∙ q

  -- the code's count of them
  pub counted : (r : ℕ) → r ≡ from_le_bytes w64 e → Plain e 0 (count_trailing_zeros 64 (bit_and r 0x8080808080808080) / 8)
  counted r q =
      let t = count_trailing_zeros 64 (bit_and r 0x8080808080808080) in
      let z = zeros 64 (bit_and r 0x8080808080808080) (8 * (t / 8)) (omega arith) in
      low-front (t / 8) (omega (arith, trailing_le 64 (bit_and r 0x8080808080808080)))
      (ap (λ (m : ℕ). bit_and m 0x8080808080808080 % 2 ^ (8 * (t / 8))) (sym (q ∙ le-eight e w)) ∙ ap (λ (m : ℕ). m % 2 ^ (8 * (t / 8))) z.1 ∙ mul-mod_left z.0 (2 ^ (8 * (t / 8))))

-- the code's 256 ^ n
pub shifted : (n : ℕ) → n < 8 → 1 * 2 ^ (8 * n) % 18446744073709551616 ≡ 256 ^ n
shifted n h =
    let e : 1 * 2 ^ (8 * n) ≡ 2 ^ (8 * n) = omega arith in
    ap (λ (m : ℕ). m % 2 ^ 64) e ∙ mod-eq_of_lt (pow-lt {i = 8 * n} {j = 64} (omega arith)) ∙ sym (places n)

pub never : {P : Type 0} → false ≡ true → P
never e = absurd (let z : ◌≡◌ {A = ℕ} 0 1 = cc in omega arith)

-- runs of ASCII: none, two that meet or overlap, a part of one
pub plain-none : (s : List ℕ) (i : ℕ) → i ≤ length s → Plain s i i
plain-none s i h = record { order = omega arith; within = h; low = λ k a b. absurd (omega arith) }

pub plain_join : {s : List ℕ} {i j m n : ℕ} → Plain s i j → Plain s m n → m ≤ j → j ≤ n → Plain s i n
plain_join {s} {i} {j} {m} {n} p q h l =
    record { order = omega (arith, p.order); within = q.within; low = λ k a b. go k a b (ltb k j) refl }
  where
    go : (k : ℕ) → i ≤ k → k < n → (t : Bool) → ltb k j ≡ t → get_or s k 0 < 0x80
    go k a b true e = p.low k a (ltb-true k j e)
    go k a b false e = q.low k (omega (arith, ltb-false k j e)) b

pub plain-part : {s : List ℕ} {i n : ℕ} → Plain s i n → (j m : ℕ) → i ≤ j → j ≤ m → m ≤ n → Plain s j m
plain-part p j m a b c = record { order = b; within = omega (arith, p.within); low = λ k d e. p.low k (omega arith) (omega arith) }

-- how many bytes are left from i on
pub left-length : (s : List ℕ) (i : ℕ) → length (take (length s - i) (drop i s)) ≡ length s - i
left-length s i = ap length (take_rest s i) ∙ length-drop i s

-- the k bytes from i on, cut out, are plain where they are in place
cut-plain : (s : List ℕ) (i k a b : ℕ) → i + k ≤ length s → b ≤ k → Plain (take k (drop i s)) a b ↔ Plain s (i + a) (i + b)
cut-plain s i k a b w l = (
  λ p.
      record {
        order = omega (arith, p.order);
        within = omega arith;
        low = λ j c d.
            subst (λ (n : ℕ). get_or s n 0 < 0x80) (omega arith)
            (subst (λ (x : ℕ). x < 0x80) (here (j - i) (omega arith)) (p.low (j - i) (omega arith) (omega arith)));
      },
  λ p.
      record {
        order = omega (arith, p.order);
        within = rw size l;
        low = λ j c d. subst (λ (x : ℕ). x < 0x80) (sym (here j (omega arith))) (p.low (i + j) (omega arith) (omega arith));
      },
)
  where
    size : length (take k (drop i s)) ≡ k
    size = length-take-le k (drop i s) (simp length-drop (omega arith))

    here : (j : ℕ) → j < k → get_or (take k (drop i s)) j 0 ≡ get_or s (i + j) 0
    here j b = get_or-take k (drop i s) j 0 b ∙ get_or-drop i s j 0

-- what std cuts from the bytes from i on: the first n of them, and the parts of n bytes, of which there are c
pub first-plain : (s : List ℕ) (i k n m : ℕ) {e : List ℕ} → i + n ≤ length s → m ≤ n → n ≤ k → e ≡ take n (take k (drop i s)) → Plain e 0 m ↔ Plain s i (i + m)
first-plain s i k n m {e} w l h q =
    let f = q ∙ take-take n k (drop i s) h in
    let law = cut-plain s i n 0 m w l in (
      λ p. subst (λ (a : ℕ). Plain s a (i + m)) (omega arith) (law.0 (subst (λ (t : List ℕ). Plain t 0 m) f p)),
      λ p. subst (λ (t : List ℕ). Plain t 0 m) (sym f) (law.1 (subst (λ (a : ℕ). Plain s a (i + m)) (omega arith) p)),
    )

pub chunk : (n c : ℕ) (t : List ℕ) (j : ℕ) → j < c → get_or (first_chunks n c t) j [] ≡ take n (drop (j * n) t)
chunk n zero t j h = absurd (omega arith)
chunk n (suc c) t zero h =
    let e : 0 ≡ 0 * n = omega arith in
    ap (λ (m : ℕ). take n (drop m t)) e
chunk n (suc c) t (suc j) h =
    let e : n + j * n ≡ suc j * n = omega arith in
    chunk n c (drop n t) j (omega arith) ∙ ap (take n) (drop-drop (j * n) n t ∙ ap (λ (m : ℕ). drop m t) e)

module _ (s : List ℕ) (i k n c : ℕ) {parts : List (List ℕ)} (w : i + k ≤ length s) (is : parts ≡ first_chunks n c (take k (drop i s))) where
  pub part-plain : (j m : ℕ) → j < c → j * n + n ≤ k → m ≤ n → Plain (get_or parts j []) 0 m ↔ Plain s (i + j * n) (i + j * n + m)
  part-plain j m h g l =
      let size : k ≡ j * n + (k - j * n) = omega arith in
      let e : get_or parts j [] ≡ take n (take (k - j * n) (drop (i + j * n) s)) =
      ap (λ (p : List (List ℕ)). get_or p j []) is ∙ chunk n c _ j h
      ∙ ap (take n) (ap (λ (x : ℕ). drop (j * n) (take x (drop i s))) size ∙ drop-take (j * n) (k - j * n) (drop i s) ∙ ap (take (k - j * n)) (drop-drop (j * n) i s)) in
      first-plain s (i + j * n) (k - j * n) n m (omega arith) l (omega arith) e

-- the first n of what std lends of the bytes from i on
pub left-plain : (s : List ℕ) (i n m : ℕ) {e : List ℕ} → i ≤ length s → n ≤ length (take (length s - i) (drop i s)) → m ≤ n → e ≡ take n (take (length s - i) (drop i s)) → Plain e 0 m ↔ Plain s i (i + m)
left-plain s i n m h some l e =
    let k = left-length s i in
    first-plain s i (length s - i) n m (omega (arith, k)) l (omega (arith, k)) e

pub eight-plain : {s e : List ℕ} {i : ℕ} → i + 8 ≤ length s → e ≡ take 8 (drop i s) → Plain e 0 8 ↔ Plain s i (i + 8)
eight-plain {s} {e} {i} h q =
    left-plain s i 8 8 (omega arith) (omega (arith, left-length s i)) (omega arith) (q ∙ ap (take 8) (sym (take_rest s i)))

-- a test of what is cut out is one of what is in place
pub placed : {P Q R : Type 0} → P ↔ Q → Q ↔ R → P ↔ R
placed p q = (λ x. q.0 (p.0 x), λ x. p.1 (q.1 x))

-- tests of two runs that meet, taken together, are a test of both runs
pub both_plain : {s : List ℕ} {i : ℕ} (j k : ℕ) (p q : Bool) → (p ≡ true) ↔ Plain s i (i + j) → (q ≡ true) ↔ Plain s (i + j) (i + j + k) → ((p && q) ≡ true) ↔ Plain s i (i + (j + k))
both_plain {s} {i} j k true q a b = (
  λ e. subst (λ (n : ℕ). Plain s i n) (omega arith) (plain_join (a.0 refl) (b.0 e) (omega arith) (omega arith)),
  λ w. b.1 (plain-part w _ _ (omega arith) (omega arith) (omega arith)),
)
both_plain j k false q a b = (never, λ w. a.1 (plain-part w _ _ (omega arith) (omega arith) (omega arith)))

-- a byte more
pub plain_more : {s : List ℕ} {i j : ℕ} → Plain s i j → j < length s → get_or s j 0 < 0x80 → Plain s i (j + 1)
plain_more {s} {i} {j} p l h =
    let here : Plain s j (j + 1) = record { order = omega arith; within = omega arith; low = λ k a b. subst (λ (m : ℕ). get_or s m 0 < 0x80) (omega arith) h } in
    plain_join p here (omega arith) (omega arith)

-- the first byte of what is left that isn't ASCII ends a run, and so does the end
module _ {s : List ℕ} {i j : ℕ} (p : Plain s i j) where
  abbrev left : List ℕ
  left = take (length s - j) (drop j s)

  left-at : (k : ℕ) → get_or left k 0 ≡ get_or s (j + k) 0
  left-at k = ap (λ (t : List ℕ). get_or t k 0) (take_rest s j) ∙ get_or-drop j s k 0

  plain_on : (n : ℕ) → j + n ≤ length s → ((k : ℕ) → k < n → get_or left k 0 < 0x80) → Plain s i (j + n)
  plain_on n w h =
      let next : Plain s j (j + n) =
      record {
        order = omega arith;
        within = w;
        low = λ k a b. subst (λ (m : ℕ). get_or s m 0 < 0x80) (omega arith) (subst (λ (x : ℕ). x < 0x80) (left-at (k - j)) (h (k - j) (omega arith)));
      } in
      plain_join p next (omega arith) (omega arith)

  pub run_at : (n : ℕ) → n < length left → 0x80 ≤ get_or left n 0 → ((k : ℕ) → k < n → get_or left k 0 < 0x80) → Run s i (j + n)
  run_at n l here before =
      record { plain = plain_on n (omega (arith, left-length s j)) before; stops = λ h. omega (arith, left-at n) }

  pub run-all : ((k : ℕ) → k < length left → get_or left k 0 < 0x80) → Run s i (length s)
  run-all h =
      let e : j + (length s - j) ≡ length s = omega (arith, p.within) in
      record {
        plain = subst (λ (m : ℕ). Plain s i m) e (plain_on (length s - j) (omega arith) (λ k l. h k (omega (arith, left-length s j))));
        stops = λ l. absurd (omega arith);
      }

-- a run that ends tells of any number of bytes from its start
pub run_tells : {s : List ℕ} {i j : ℕ} (n : ℕ) → Run s i j → (leb (i + n) j ≡ true) ↔ Plain s i (i + n)
run_tells {s} {i} {j} n r =
    (λ e. plain-part r.plain i (i + n) (omega arith) (omega arith) (leb-true _ _ e), λ p. go p (leb (i + n) j) refl)
  where
    go : Plain s i (i + n) → (t : Bool) → leb (i + n) j ≡ t → leb (i + n) j ≡ true
    go p true e = e
    go p false e =
        let h : j < i + n = leb-false _ _ e in
        absurd (omega (arith, r.stops (omega (arith, p.within)), p.low j r.plain.order h))
