-- The test of Parse.antt passes for the number texts of Literal.antt and for nothing else. Of each piece, that what it finds is of the grammar, and that
-- it finds what is: digits are as many as there are, and digits, point, e, signs and letters are different bytes. Assumes nothing.
use mathlib.Core.Path.{◌≡◌, refl, sym, ap, ◌∙◌}
use mathlib.Core.Logic.{◌⊎◌, inl, inr, ⊎_elim, ◌↔◌}
use mathlib.Core.Bool.{Bool, true, false, cond, ◌&&◌, ◌||◌, false≢true, or-true, and-eq-true_iff}
use mathlib.Core.List.{List, [], ◌∷◌, ◌++◌, append-nil}
use Prim.Native.Nat.{ℕ, ◌+◌, ◌≤◌, ◌<◌}
use native.Mathlib.Omega.{arith}
use borrow.Author.Tests.{eqb-true, eq-eqb, ne_eqb, leb-true, le-leb, ltb-true, lt-ltb}
use lib.Dec.{eqb, ltb}
use lib.ListN.{length, get_or, drop, length-append}
use Rattle.literal.specs.Literal.{Sign, unsigned, plus, minus, sign_text, Digits, none, more, Cased, Word, end, letter, Point, no_point, a_point, Exponent, absent, power, Power, no_power, a_power, Value, number, Spells, inf, infinity, not_a_number, digits, Literal}
use Rattle.literal.specs.Inner.Parse.{after_sign, is_digit, after_digits, is_cased, is_word, is_ending, is_number, inf_text, infinity_text, nan_text, is_literal}
use Rattle.literal.proofs.Pieces as pieces

either : (a b : Bool) → a || b ≡ true → (a ≡ true) ⊎ (b ≡ true)
either true b e = inl refl
either false b e = inr e

-- ---- bytes

digit_is : (b : ℕ) → (is_digit b ≡ true) ↔ ((48 ≤ b) × (b ≤ 57))
unfolding is_digit
digit_is b = (
  λ e. let h = (and-eq-true_iff _ _).0 e in (leb-true _ _ h.0, leb-true _ _ h.1),
  λ d. (and-eq-true_iff _ _).1 (le-leb 48 b d.0, le-leb b 57 d.1),
)

cased_is : (c b : ℕ) → (is_cased c b ≡ true) ↔ Cased c b
unfolding is_cased
cased_is c b = (
  λ e. ⊎_elim (λ f. inl (eqb-true _ _ f)) (λ f. inr (eqb-true _ _ f)) (either _ _ e),
  ⊎_elim (λ f. rw (eq-eqb b c f)) (λ f. rw (eq-eqb (b + 32) c f, or-true)),
)

-- ---- words

word_is : (w t : List ℕ) → is_word w t ≡ true → Word w t
unfolding is_word
word_is [] [] e = end
word_is [] (b ∷ t) e = absurd (false≢true e)
word_is (c ∷ w) [] e = absurd (false≢true e)
word_is (c ∷ w) (b ∷ t) e = let h = (and-eq-true_iff _ _).0 e in letter ((cased_is c b).0 h.0) (word_is w t h.1)

word_passes : {w t : List ℕ} → Word w t → is_word w t ≡ true
unfolding is_word
word_passes end = refl
word_passes (letter k h) = (and-eq-true_iff _ _).1 ((cased_is _ _).1 k, word_passes h)

-- ---- the sign

sign-is : (s : List ℕ) → (x : Sign) × (s ≡ sign_text x ++ after_sign s)
unfolding after_sign
sign-is [] = (unsigned, refl)
sign-is (b ∷ s) = go (eqb b 43) refl (eqb b 45) refl
  where
    go : (t : Bool) → eqb b 43 ≡ t → (u : Bool) → eqb b 45 ≡ u → (x : Sign) × (b ∷ s ≡ sign_text x ++ after_sign (b ∷ s))
    go true e u f = rw e (plus, ap (λ (c : ℕ). c ∷ s) (eqb-true _ _ e))
    go false e true f = rw (e, f) (minus, ap (λ (c : ℕ). c ∷ s) (eqb-true _ _ f))
    go false e false f = rw (e, f) (unsigned, refl)

-- the sign before a text that begins with none
pub sign_passes : (x : Sign) (t : List ℕ) → 46 ≤ get_or t 0 0 → after_sign (sign_text x ++ t) ≡ t
unfolding after_sign
sign_passes unsigned [] h = refl
sign_passes unsigned (b ∷ t) h = rw (ne_eqb b 43 (omega arith), ne_eqb b 45 (omega arith))
sign_passes plus t h = refl
sign_passes minus t h = refl

-- ---- digits

digits_are : (s : List ℕ) → (d : List ℕ) × Digits d × (s ≡ d ++ after_digits s)
unfolding after_digits
digits_are [] = ([], none, refl)
digits_are (b ∷ s) = go (digits_are s) (is_digit b) refl
  where
    go : (d : List ℕ) × Digits d × (s ≡ d ++ after_digits s) → (t : Bool) → is_digit b ≡ t
        → (d : List ℕ) × Digits d × (b ∷ s ≡ d ++ after_digits (b ∷ s))
    go r true e = rw e (b ∷ r.0, (let d = (digit_is b).0 e in more d.0 d.1 r.1), ap (λ (l : List ℕ). b ∷ l) r.2)
    go r false e = rw e ([], none, refl)

pub digits-pass : {d : List ℕ} → Digits d → (t : List ℕ) → after_digits (d ++ t) ≡ after_digits t
unfolding after_digits
digits-pass none t = refl
digits-pass (more low high h) t = rw ((digit_is _).1 (low, high)) (digits-pass h t)

-- some digits: they begin with no sign
pub digits-first : {d : List ℕ} → Digits d → ¬ (d ≡ []) → (46 ≤ get_or d 0 0) × (0 < length d)
digits-first none n = absurd (n refl)
digits-first (more low high h) n = (omega arith, omega arith)

-- ---- the ending

ending-is : (s : List ℕ) → is_ending s ≡ true → (e : Exponent) × Power e s
unfolding is_ending
ending-is [] e = (absent, no_power refl)
ending-is (b ∷ s) e =
    let t = after_sign s in
    let h = (and-eq-true_iff (is_cased 101 b) (eqb (length (after_digits t)) 0 && ltb 0 (length t))).0 e in
    let k = (and-eq-true_iff (eqb (length (after_digits t)) 0) (ltb 0 (length t))).0 h.1 in
    let x = sign-is s in
    let r = digits_are t in
    let w : t ≡ r.0 = r.2 ∙ rw (pieces.none (after_digits t) (eqb-true _ _ k.0)) (append-nil r.0) in (
      power x.0 r.0,
      a_power ((cased_is 101 b).0 h.0) r.1 (λ q. omega (arith, ltb-true 0 (length t) k.1, ap length (w ∙ q)))
          (ap (λ (l : List ℕ). b ∷ l) (x.1 ∙ ap (λ (l : List ℕ). sign_text x.0 ++ l) w)),
    )

ending_passes : {e : Exponent} {s : List ℕ} → Power e s → is_ending s ≡ true
unfolding is_ending after_digits
ending_passes (no_power q) = rw q
ending_passes (a_power {s = x} {d = d} {b = b} k h n q) =
    let a : after_digits d ≡ [] = sym (ap after_digits (append-nil d)) ∙ digits-pass h [] in
    let f = digits-first h n in
    rw (q, (cased_is 101 b).1 k, sign_passes x d f.0, a, lt-ltb 0 (length d) f.1)

-- an ending begins with e, so with no digit and no point
pub ending-first : {e : Exponent} {t : List ℕ} → Power e t → (after_digits t ≡ t) × ¬ (get_or t 0 0 ≡ 46)
unfolding after_digits is_digit
ending-first (no_power q) = rw q (refl, omega arith)
ending-first (a_power (inl k) h n q) = rw (q, k) (refl, omega arith)
ending-first (a_power {b = b} (inr k) h n q) = let m : b ≡ 69 = omega arith in rw (q, m) (refl, omega arith)

-- what stands after the digits before the point
pub after-whole : {f p x : List ℕ} {e : Exponent} → Point f p → Power e x → after_digits (p ++ x) ≡ p ++ x
unfolding after_digits is_digit
after-whole (no_point q r) k = rw r (ending-first k).0
after-whole (a_point q) k = rw q

-- ---- the number

some : (w f : List ℕ) → ¬ (w ++ f ≡ []) → 0 < length w + length f
some [] [] h = absurd (h refl)
some [] (b ∷ f) h = omega arith
some (b ∷ w) f h = omega arith

point : (t : List ℕ) → get_or t 0 0 ≡ 46 → t ≡ 46 ∷ drop 1 t
point [] e = absurd (omega arith)
point (b ∷ t) e = ap (λ (c : ℕ). c ∷ t) e

number_is : (s : List ℕ) → is_number s ≡ true → (v : Value) × Spells v s
unfolding is_number
number_is s = go (eqb (get_or t 0 0) 46) refl
  where
    t : List ℕ
    t = after_digits s

    u : List ℕ
    u = after_digits (drop 1 t)

    w : (d : List ℕ) × Digits d × (s ≡ d ++ t)
    w = digits_are s

    go : (q : Bool) → eqb (get_or t 0 0) 46 ≡ q → cond q (ltb (length u + 1) (length s) && is_ending u) (ltb (length t) (length s) && is_ending t) ≡ true
        → (v : Value) × Spells v s
    go true f e =
        let h = (and-eq-true_iff (ltb (length u + 1) (length s)) (is_ending u)).0 e in
        let x = ending-is u h.1 in
        let r = digits_are (drop 1 t) in
        let y : t ≡ 46 ∷ (r.0 ++ u) = point t (eqb-true _ _ f) ∙ ap (λ (l : List ℕ). 46 ∷ l) r.2 in
        let z : s ≡ w.0 ++ (46 ∷ (r.0 ++ u)) = w.2 ∙ ap (λ (l : List ℕ). w.0 ++ l) y in
        let n = simp length-append at (ap length z) in
        let m = ltb-true (length u + 1) (length s) h.0 in
        (number w.0 r.0 x.0, digits w.1 r.1 (λ q. omega (arith, simp length-append at (ap length q))) (a_point refl) x.1 z)
    go false f e =
        let h = (and-eq-true_iff (ltb (length t) (length s)) (is_ending t)).0 e in
        let x = ending-is t h.1 in
        let n = simp length-append at (ap length w.2) in
        let m = ltb-true (length t) (length s) h.0 in
        (number w.0 [] x.0, digits w.1 none (λ q. omega (arith, simp length-append at (ap length q))) (no_point refl refl) x.1 w.2)

number_passes : {w f : List ℕ} {e : Exponent} {s : List ℕ} → Spells (number w f e) s → true ≡ is_number s
number_passes {s = s} (digits {whole = w} {fraction = f} {x = x} a b m (no_point q r) k g) =
    let y : s ≡ w ++ x = g ∙ rw r refl in
    let n = simp length-append at (ap length y) in
    let l = some w f m in
    let j = ap length q in
    let e = ending-first k in
    pieces.plain s x (sym (ap after_digits y ∙ digits-pass a x ∙ e.0)) e.1 (omega arith) (sym (ending_passes k))
number_passes {s = s} (digits {whole = w} {fraction = f} {x = x} a b m (a_point q) k g) =
    let t : List ℕ = 46 ∷ (f ++ x) in
    let y : s ≡ w ++ t = g ∙ rw q refl in
    let n = simp length-append at (ap length y) in
    let l = some w f m in
    pieces.pointed s t (sym (ap after_digits y ∙ digits-pass a t ∙ after-whole (a_point {f = f} refl) k)) x refl
    (sym (ap after_digits (pieces.part t 1) ∙ digits-pass b x ∙ (ending-first k).0)) (omega arith) (sym (ending_passes k))

-- ---- the whole text

pub word_first : {c : ℕ} {w t : List ℕ} → Word (c ∷ w) t → c ≤ get_or t 0 0 + 32
word_first (letter (inl e) h) = omega arith
word_first (letter (inr e) h) = omega arith

pub spells_first : {v : Value} {t : List ℕ} → Spells v t → 46 ≤ get_or t 0 0
spells_first (inf k) = omega (arith, word_first k)
spells_first (infinity k) = omega (arith, word_first k)
spells_first (not_a_number k) = omega (arith, word_first k)
spells_first (digits none b m (no_point q r) k g) = absurd (m q)
spells_first (digits none b m (a_point q) k g) = rw (g, q) (omega arith)
spells_first (digits (more low high a) b m p k g) = rw g (omega arith)

spells_pass : {v : Value} {t : List ℕ} → Spells v t → (s : List ℕ) → t ≡ after_sign s → true ≡ is_literal s
spells_pass (inf k) s x = pieces.is-inf s _ x (word_passes k)
spells_pass (infinity k) s x = pieces.is-infinity s _ x (word_passes k)
spells_pass (not_a_number k) s x = pieces.is-nan s _ x (word_passes k)
spells_pass (digits a b m p k g) s x = rw (pieces.literal-at, ← x, ← number_passes (digits a b m p k g), or-true, or-true, or-true)

pub literal-is : (t : List ℕ) → (is_literal t ≡ true) ↔ Literal t
literal-is s = (
  λ e.
      ⊎_elim (λ e. made (inf (word_is _ _ e)))
      (λ e. ⊎_elim (λ e. made (infinity (word_is _ _ e)))
      (λ e. ⊎_elim (λ e. made (not_a_number (word_is _ _ e))) (λ e. made (number_is t e).1) (either (is_word nan_text t) _ e))
      (either (is_word infinity_text t) _ e)) (either (is_word inf_text t) _ (sym (pieces.literal-at s) ∙ e)),
  λ l. sym (spells_pass l.spelled s (sym (ap after_sign l.text ∙ sign_passes l.sign l.rest (spells_first l.spelled)))),
)
  where
    t : List ℕ
    t = after_sign s

    made : {v : Value} → Spells v t → Literal s
    made {v} k = let x = sign-is s in record { sign = x.0; value = v; rest = t; text = x.1; spelled = k }
