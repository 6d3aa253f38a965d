-- Each answer of the code is its definition's in Parse.antt: what a test of the code says of the definition. Assumes nothing.
use mathlib.Core.Path.{◌≡◌, refl, sym, ap, ◌∙◌}
use mathlib.Core.Logic.{◌⊎◌, ⊎_elim, ◌↔◌}
use mathlib.Core.Bool.{Bool, true, false, ◌&&◌, ◌||◌, false≢true, or-true, and-eq-true_iff}
use mathlib.Core.List.{List, [], ◌∷◌, map}
use Prim.Native.Nat.{ℕ, zero, suc, ◌+◌, ◌-◌, ◌≤◌, ◌<◌}
use native.Mathlib.Omega.{arith}
use borrow.Author.Tests.{eq-eqb, ne_eqb, leb-true, lt-ltb, le-ltb}
use lib.Dec.{eqb, leb, ltb}
use lib.ListN.{length, get_or, take, drop, length-drop, get_or-eq_default, drop_of_length-le}
use lib.Seq.{take_all, drop-cons}
use Rattle.std.specs.Char.{to_ascii_lowercase}
use Rattle.std.proofs.lemmas.Bool.Decides.{nat_tests, same_from_decides}
use Rattle.literal.specs.Inner.Parse.{after_sign, is_digit, after_digits, is_cased, is_word, is_ending, is_number, inf_text, infinity_text, nan_text, is_literal}

-- the part from i on, as the code takes it
pub part : (s : List ℕ) (i : ℕ) → take (length s - i) (drop i s) ≡ drop i s
part s i = take_all (length s - i) (drop i s) (omega (arith, length-drop i s))

pub none : (s : List ℕ) → length s ≡ 0 → s ≡ []
none s h = drop_of_length-le s {i = 0} (omega arith)

pub no_first : (s : List ℕ) → length s < 1 → get_or s 0 0 ≡ 0
no_first s h = get_or-eq_default s 0 {n = 0} (omega arith)

-- ---- the sign

pub empty : (s : List ℕ) → length s ≡ 0 → s ≡ after_sign s
unfolding after_sign
empty s h = rw (none s h)

pub signed : (s : List ℕ) → (get_or s 0 0 ≡ 43) ⊎ (get_or s 0 0 ≡ 45) → take (length s - 1) (drop 1 s) ≡ after_sign s
unfolding after_sign
signed [] h = refl
signed (b ∷ s) h = part (b ∷ s) 1 ∙ ⊎_elim (λ e. rw (eq-eqb b 43 e)) (λ e. rw (eq-eqb b 45 e, or-true)) h

pub bare : (s : List ℕ) → ¬ (get_or s 0 0 ≡ 43) → ¬ (get_or s 0 0 ≡ 45) → s ≡ after_sign s
unfolding after_sign
bare [] h k = refl
bare (b ∷ s) h k = rw (ne_eqb b 43 h, ne_eqb b 45 k)

-- ---- the digits

pub all_digits : (s : List ℕ) → ((k : ℕ) → k < length s → is_digit (get_or s k 0) ≡ true) → [] ≡ after_digits s
unfolding after_digits
all_digits [] h = refl
all_digits (b ∷ s) h = rw (h 0 (omega arith)) (all_digits s (λ k l. h (suc k) (omega arith)))

-- the digits end where the first other byte stands
pub digits_to : (s : List ℕ) (i : ℕ) → i < length s → is_digit (get_or s i 0) ≡ false → ((k : ℕ) → k < i → is_digit (get_or s k 0) ≡ true)
    → drop i s ≡ after_digits s
unfolding after_digits
digits_to [] i l e h = absurd (omega arith)
digits_to (b ∷ s) zero l e h = rw e
digits_to (b ∷ s) (suc i) l e h = rw (h 0 (omega arith)) (digits_to s i (omega arith) e (λ k m. h (suc k) (omega arith)))

-- ---- the words

-- every letter is a small one
unfoldable pub small : List ℕ → Bool
small [] = true
small (c ∷ w) = (leb 97 c && leb c 122) && small w

cased-is : (c b : ℕ) → 97 ≤ c → c ≤ 122 → (is_cased c b ≡ true) ↔ (to_ascii_lowercase b ≡ to_ascii_lowercase c)
unfolding is_cased
cased-is c b l h = (λ e. grind (arith, nat_tests), λ e. grind (arith, nat_tests))

-- a text is a word of small letters where both are one text in small letters
word-is : (w t : List ℕ) → small w ≡ true → (is_word w t ≡ true) ↔ (map to_ascii_lowercase t ≡ map to_ascii_lowercase w)
unfolding small is_word
word-is [] [] s = (λ e. refl, λ e. refl)
word-is [] (b ∷ t) s = (λ e. absurd (false≢true e), λ e. cc)
word-is (c ∷ w) [] s = (λ e. absurd (false≢true e), λ e. cc)
word-is (c ∷ w) (b ∷ t) s =
    let f = (and-eq-true_iff (leb 97 c && leb c 122) (small w)).0 s in
    let g = (and-eq-true_iff (leb 97 c) (leb c 122)).0 f.0 in
    let k = cased-is c b (leb-true 97 c g.0) (leb-true c 122 g.1) in
    let r = word-is w t f.1 in (
      λ e. let h = (and-eq-true_iff (is_cased c b) (is_word w t)).0 e in let x = k.0 h.0 in let y = r.0 h.1 in cc,
      λ e. let x : to_ascii_lowercase b ≡ to_ascii_lowercase c = cc in let y : map to_ascii_lowercase t ≡ map to_ascii_lowercase w = cc in
          (and-eq-true_iff (is_cased c b) (is_word w t)).1 (k.1 x, r.1 y),
    )

-- ---- the ending

pub no_power : (s : List ℕ) → length s ≡ 0 → true ≡ is_ending s
unfolding is_ending
no_power s h = rw (none s h)

module _ (s : List ℕ) (h : 0 < length s) where
  pub no_e : ¬ (get_or s 0 0 ≡ 101) → ¬ (get_or s 0 0 ≡ 69) → false ≡ is_ending s
  unfolding is_ending is_cased
  no_e e f = sym (ap is_ending (drop-cons s 0 0 h) ∙ rw (ne_eqb (get_or s 0 0) 101 e, ne_eqb (get_or s 0 0 + 32) 101 (λ g. f (omega arith))))

  pub e_first : (get_or s 0 0 ≡ 101) ⊎ (get_or s 0 0 ≡ 69) → is_cased 101 (get_or s 0 0) ≡ true
  unfolding is_cased
  e_first e = ⊎_elim (λ f. rw f) (λ f. rw f) e

  pub a_power : (t u : List ℕ) → (get_or s 0 0 ≡ 101) ⊎ (get_or s 0 0 ≡ 69) → t ≡ after_sign (take (length s - 1) (drop 1 s)) → u ≡ after_digits t
      → (eqb (length u) 0 && ltb 0 (length t)) ≡ is_ending s
  unfolding is_ending
  a_power t u e x y = sym (ap is_ending (drop-cons s 0 0 h) ∙ rw (e_first e, ← part s 1, ← x, ← y))

-- ---- the number

module _ (s t : List ℕ) (x : t ≡ after_digits s) where
  module _ (u : List ℕ) (p : get_or t 0 0 ≡ 46) (y : u ≡ after_digits (take (length t - 1) (drop 1 t))) where
    pub point_alone : length s ≤ length u + 1 → false ≡ is_number s
    unfolding is_number
    point_alone h = rw (← x, p, ← part t 1, ← y, le-ltb (length u + 1) (length s) h)

    pub pointed : {r : Bool} → length u + 1 < length s → r ≡ is_ending u → r ≡ is_number s
    unfolding is_number
    pointed h e = rw (← x, p, ← part t 1, ← y, lt-ltb (length u + 1) (length s) h) e

  module _ (p : ¬ (get_or t 0 0 ≡ 46)) where
    pub no-digits : length s ≤ length t → false ≡ is_number s
    unfolding is_number
    no-digits h = rw (← x, ne_eqb (get_or t 0 0) 46 p, le-ltb (length t) (length s) h)

    pub plain : {r : Bool} → length t < length s → r ≡ is_ending t → r ≡ is_number s
    unfolding is_number
    plain h e = rw (← x, ne_eqb (get_or t 0 0) 46 p, lt-ltb (length t) (length s) h) e

-- ---- the whole text

pub literal-at : (s : List ℕ)
    → is_literal s ≡ is_word inf_text (after_sign s) || (is_word infinity_text (after_sign s) || (is_word nan_text (after_sign s) || is_number (after_sign s)))
unfolding is_literal
literal-at s = refl

module _ (s t : List ℕ) (x : t ≡ after_sign s) where
  pub is-inf : is_word inf_text t ≡ true → true ≡ is_literal s
  is-inf e = rw (literal-at, ← x, e)

  pub is-infinity : is_word infinity_text t ≡ true → true ≡ is_literal s
  is-infinity e = rw (literal-at, ← x, e, or-true)

  pub is-nan : is_word nan_text t ≡ true → true ≡ is_literal s
  is-nan e = rw (literal-at, ← x, e, or-true, or-true)

  pub literal-of : is_word inf_text t || (is_word infinity_text t || (is_word nan_text t || is_number t)) ≡ is_literal s
  literal-of = rw (literal-at, ← x)

-- the code's test of a word
pub is_it : (w t : List ℕ) → small w ≡ true → {r : Bool} → ((r ≡ true) ↔ (map to_ascii_lowercase t ≡ map to_ascii_lowercase w)) → r ≡ is_word w t
is_it w t s {r} h = same_from_decides r (is_word w t) h (word-is w t s)

pub inf-small : small inf_text ≡ true
unfolding small
inf-small = refl

pub infinity-small : small infinity_text ≡ true
unfolding small
infinity-small = refl

pub nan-small : small nan_text ≡ true
unfolding small
nan-small = refl
