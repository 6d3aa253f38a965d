-- Of the definitions alone: a number text has one sign and one value. Assumes nothing.
use mathlib.Core.Path.{◌≡◌, refl, sym, ap, ◌∙◌}
use mathlib.Core.Logic.{inl, inr}
use mathlib.Core.Bool.{cond}
use mathlib.Core.List.{List, [], ◌∷◌, ◌++◌, append_cancel_right}
use Prim.Native.Nat.{ℕ, ◌≤◌}
use native.Mathlib.Omega.{arith}
use lib.Dec.{eqb}
use lib.ListN.{get_or}
use Rattle.literal.specs.Literal.{Sign, unsigned, plus, minus, sign_text, Digits, none, more, Word, letter, Point, no_point, a_point, Exponent, Power, no_power, a_power, Value, number, Spells, inf, infinity, not_a_number, digits, Literal}
use Rattle.literal.specs.Inner.Parse.{after_sign, after_digits}
use Rattle.literal.proofs.Meaning.{sign_passes, digits-pass, digits-first, ending-first, after-whole, word_first, spells_first}

sign_of : List ℕ → Sign
sign_of [] = unsigned
sign_of (b ∷ t) = cond (eqb b 43) plus minus

sign_of_lem : (x : Sign) → sign_of (sign_text x) ≡ x
unfolding sign_of
sign_of_lem unsigned = refl
sign_of_lem plus = refl
sign_of_lem minus = refl

same_sign : (x y : Sign) {u v : List ℕ} → 46 ≤ get_or u 0 0 → 46 ≤ get_or v 0 0 → sign_text x ++ u ≡ sign_text y ++ v → (x ≡ y) × (u ≡ v)
same_sign x y {u} {v} f g e =
    let h : u ≡ v = sym (sign_passes x u f) ∙ ap after_sign e ∙ sign_passes y v g in
    let t = append_cancel_right (sign_text x) (sign_text y) v (ap (λ (l : List ℕ). sign_text x ++ l) (sym h) ∙ e) in
    (sym (sign_of_lem x) ∙ ap sign_of t ∙ sign_of_lem y, h)

same_run : {a b : List ℕ} → Digits a → Digits b → (u v : List ℕ) → after_digits u ≡ u → after_digits v ≡ v → a ++ u ≡ b ++ v
    → (a ≡ b) × (u ≡ v)
same_run {a} {b} h k u v f g e =
    let t : u ≡ v = sym (digits-pass h u ∙ f) ∙ ap after_digits e ∙ digits-pass k v ∙ g in
    (append_cancel_right a b v (ap (λ (l : List ℕ). a ++ l) (sym t) ∙ e), t)

exponent_once : {d e : Exponent} {t : List ℕ} → Power d t → Power e t → d ≡ e
exponent_once (no_power q) (no_power r) = refl
exponent_once (no_power q) (a_power k h n r) = cc
exponent_once (a_power k h n r) (no_power q) = cc
exponent_once (a_power {s = x} {d = d} k h n q) (a_power {s = y} {d = e} l i m r) =
    let p : sign_text x ++ d ≡ sign_text y ++ e = cc in
    let o = same_sign x y (digits-first h n).0 (digits-first i m).0 p in
    let u = o.0 in
    let v = o.1 in
    cc

-- a number's parts after its first digits
tail_once : {f g p q y z : List ℕ} {d e : Exponent} → Digits f → Digits g → Point f p → Point g q → Power d y → Power e z → p ++ y ≡ q ++ z
    → (f ≡ g) × (d ≡ e)
tail_once a b (no_point i m) (no_point j n) k l h = (i ∙ sym j, exponent_once k (rw (rw (m, n) at h) l))
tail_once a b (no_point i m) (a_point n) k l h = absurd ((ending-first k).1 (ap (λ (t : List ℕ). get_or t 0 0) (rw (m, n) at h)))
tail_once a b (a_point m) (no_point j n) k l h = absurd ((ending-first l).1 (sym (ap (λ (t : List ℕ). get_or t 0 0) (rw (m, n) at h))))
tail_once {f} {g} {y = y} {z = z} a b (a_point m) (a_point n) k l h =
    let t = rw (m, n) at h in
    let u : f ++ y ≡ g ++ z = cc in
    let o = same_run a b y z (ending-first k).0 (ending-first l).0 u in
    (o.0, exponent_once k (rw o.1 l))

-- a word begins with a letter, and a number with none; i is not n
number-first : {w f : List ℕ} {e : Exponent} {t : List ℕ} → Spells (number w f e) t → get_or t 0 0 ≤ 57
number-first (digits none b m (no_point q r) k g) = absurd (m q)
number-first (digits none b m (a_point q) k g) = rw (g, q) (omega arith)
number-first (digits (more low high a) b m p k g) = rw g high

no_word : {A : Type 0} {w f t v : List ℕ} {e : Exponent} (c : ℕ) → 90 ≤ c → Word (c ∷ v) t → Spells (number w f e) t → A
no_word c h k l = absurd (omega (arith, word_first k, number-first l))

inf-nan : {A : Type 0} {v w t : List ℕ} → Word (105 ∷ v) t → Word (110 ∷ w) t → A
inf-nan (letter (inl d) h) (letter (inl e) k) = absurd (omega arith)
inf-nan (letter (inl d) h) (letter (inr e) k) = absurd (omega arith)
inf-nan (letter (inr d) h) (letter (inl e) k) = absurd (omega arith)
inf-nan (letter (inr d) h) (letter (inr e) k) = absurd (omega arith)

value_once : {v w : Value} {t : List ℕ} → Spells v t → Spells w t → v ≡ w
value_once (inf k) (inf l) = refl
value_once (inf k) (infinity l) = refl
value_once (inf k) (not_a_number l) = inf-nan k l
value_once (inf k) (digits a b m p x e) = no_word 105 (omega arith) k (digits a b m p x e)
value_once (infinity k) (inf l) = refl
value_once (infinity k) (infinity l) = refl
value_once (infinity k) (not_a_number l) = inf-nan k l
value_once (infinity k) (digits a b m p x e) = no_word 105 (omega arith) k (digits a b m p x e)
value_once (not_a_number k) (inf l) = inf-nan l k
value_once (not_a_number k) (infinity l) = inf-nan l k
value_once (not_a_number k) (not_a_number l) = refl
value_once (not_a_number k) (digits a b m p x e) = no_word 110 (omega arith) k (digits a b m p x e)
value_once (digits a b m p x e) (inf l) = no_word 105 (omega arith) l (digits a b m p x e)
value_once (digits a b m p x e) (infinity l) = no_word 105 (omega arith) l (digits a b m p x e)
value_once (digits a b m p x e) (not_a_number l) = no_word 110 (omega arith) l (digits a b m p x e)
value_once (digits a b m p x e) (digits c d n q y f) =
    let o = same_run a c _ _ (after-whole p x) (after-whole q y) (sym e ∙ f) in
    let i = tail_once b d p q x y o.1 in
    let u = o.0 in
    let v = i.0 in
    let w = i.1 in
    cc

pub literal_once : {t : List ℕ} (k l : Literal t) → (k.sign ≡ l.sign) × (k.value ≡ l.value)
literal_once k l =
    let o = same_sign k.sign l.sign (spells_first k.spelled) (spells_first l.spelled) (sym k.text ∙ l.text) in
    (o.0, value_once k.spelled (rw o.1 l.spelled))
