-- How many bytes are an item's own, as the first pass finds it kind by kind. Assumes nothing.
use Rattle.std.proofs.Common.{◌≡◌, ℕ, ◌+◌, ◌-◌, ◌%◌, ◌<◌, ◌≤◌, Bool, true, false, cond, ltb, leb, ◌↔◌, List, [], length, take, drop, Option, Some, None, IfSome, nat_abs, w64, sym, refl, ap, ◌∙◌, inl, inr, arith, ltb-false, ltb-true, lt-ltb, leb-false, leb-true}
use Rattle.std.specs.Int.{cast_signed}
use Rattle.numbers.specs.Caps as cap
use Rattle.fields.specs.Be.{digits_of}
use Rattle.fields.specs.Field.{holds}
use Rattle.fields.proofs.Laws.{there, is-there}
use Rattle.utf8.specs.Inner.Find.{good_bytes}
use Rattle.utf8.specs.Inner.Check.{Plain}
use Rattle.utf8.proofs.Eights.{plain-part}
use Rattle.utf8.proofs.Laws.{ascii_good}
use Rattle.measure.specs.Item.{Item, integer, double, atom, binary, tuple, list, map, nil, wrong, signed64, text_at, item_of, allowed}
use Rattle.measure.specs.Inner.Own.{head_of, tail_of, own_of, Parent, Leaf, Alone, Around}
use Rattle.measure.proofs.Items.{kind_none, kind_other, from_zero, below-zero, own_none, own_is, own_head, text_tail, wrong_never, integer-allowed, double-allowed, tuple-allowed, list-allowed, map-allowed, nil-allowed, binary-allowed, atom-allowed, head_byte, head_word, head-above, head-below, head-double, head-short-name, head-long-name, head-binary, head-small-tuple, head_large_tuple, head-list, head-map, head-nil, length-number, length-text, length-big}

-- what an item has that is allowed, and one that isn't
sized : (i : Item) {n : ℕ} → allowed i ≡ true → tail_of i ≡ [] → length (head_of i) ≡ n → Some n ≡ own_of i
sized i a t e = sym (own_head i a t ∙ ap Some e)

none : (i : Item) → ¬ (allowed i ≡ true) → None ≡ own_of i
none i h = sym (own_none i h)

-- a bound on what is told, if anything is
pub looser : (r : Option ℕ) {m n : ℕ} → m ≤ n → IfSome r (λ k. k ≤ m) → IfSome r (λ k. k ≤ n)
looser None l h = tt
looser (Some k) l h = omega arith

-- ---- integers

module _ (x : ℕ) (fits : x < 18446744073709551616) where
  whole : {n : ℕ} → length (head_of (integer (signed64 x))) ≡ n → Some n ≡ own_of (integer (signed64 x))
  unfolding tail_of
  whole e = sized (integer (signed64 x)) (integer-allowed x fits) refl e

  pub own_byte : x < 256 → Some 2 ≡ own_of (integer (signed64 x))
  own_byte h = whole (length-number 97 1 _ (head_byte x fits h))

  pub own_word : 256 ≤ x → (x + 2147483648) % 18446744073709551616 < 4294967296 → Some 5 ≡ own_of (integer (signed64 x))
  own_word h w = whole (length-number 98 4 _ (head_word x fits h w))

  distance_above : x < 9223372036854775808 → x ≡ nat_abs (signed64 x)
  distance_above h = rw (from_zero x h) refl

  distance_below : 9223372036854775808 ≤ x → 18446744073709551615 - x + 1 ≡ nat_abs (signed64 x)
  distance_below h = rw (below-zero x h fits) (omega arith)

  -- std's number with a sign is the definition's
  pub cast_is : cast_signed w64 x ≡ signed64 x
  unfolding signed64
  cast_is = rw (lt-ltb x 18446744073709551616 fits) refl

  module _ (w : 4294967296 ≤ (x + 2147483648) % 18446744073709551616) where
    either : (P : ℕ → Type 0) → (x < 9223372036854775808 → P x) → (9223372036854775808 ≤ x → P (18446744073709551615 - x + 1)) → P (nat_abs (signed64 x))
    either P f g = go (ltb x 9223372036854775808) refl
      where
        go : (t : Bool) → ltb x 9223372036854775808 ≡ t → P (nat_abs (signed64 x))
        go true e = let h = ltb-true x 9223372036854775808 e in rw (← distance_above h) (f h)
        go false e = let h = ltb-false x 9223372036854775808 e in rw (← distance_below h) (g h)

    pub large : 16777216 ≤ nat_abs (signed64 x)
    large = either (λ m. 16777216 ≤ m) (λ h. omega arith) (λ h. omega arith)

    pub own_big : Some (3 + length (digits_of 8 (nat_abs (signed64 x)))) ≡ own_of (integer (signed64 x))
    own_big =
        either (λ m. Some (3 + length (digits_of 8 m)) ≡ own_of (integer (signed64 x)))
        (λ h. whole (length-big 0 x (head-above x fits w h)))
        (λ h. whole (length-big 1 _ (head-below x fits w h)))

-- ---- texts

module _ (texts : List ℕ) (at n : ℕ) where
  pub name-long : 65535 < n → None ≡ own_of (text_at atom texts at n)
  name-long h = none _ (λ a. omega (arith, ((atom-allowed texts at n).0 a).1.0))

  pub name_outside : holds n texts at ≡ false → None ≡ own_of (text_at atom texts at n)
  name_outside h = none _ (λ a. let t = is-there n texts at ((atom-allowed texts at n).0 a).0 in omega (arith, ap {B = ℕ} (λ (z : Bool). cond z 1 0) (sym t ∙ h)))

  pub name_bad : ¬ (good_bytes (take n (drop at texts)) ≡ n) → None ≡ own_of (text_at atom texts at n)
  name_bad h = none _ (λ a. h ((atom-allowed texts at n).0 a).1.1)

  pub name-good : holds n texts at ≡ true → n ≤ 65535 → good_bytes (take n (drop at texts)) ≡ n → Some (cond (leb n 255) (2 + n) (3 + n)) ≡ own_of (text_at atom texts at n)
  unfolding tail_of
  name-good h k g =
      let i = there n texts at h in
      sized _ ((atom-allowed texts at n).1 (i, (k, g))) (text_tail atom texts at n (λ l. refl)) (go (leb n 255) refl)
    where
      go : (t : Bool) → leb n 255 ≡ t → length (head_of (text_at atom texts at n)) ≡ cond t (2 + n) (3 + n)
      go true e = let i = there n texts at h in length-text 119 1 texts at n i (head-short-name texts at n i (leb-true n 255 e))
      go false e = let i = there n texts at h in length-text 118 2 texts at n i (head-long-name texts at n i (leb-false n 255 e))

  pub name-short : n ≤ 16 → Plain texts at (at + 16) → Some (cond (leb n 255) (2 + n) (3 + n)) ≡ own_of (text_at atom texts at n)
  name-short h p = name-good (is-there n texts at (omega (arith, p.within))) (omega arith) (ascii_good (plain-part p at (at + n) (omega arith) (omega arith) (omega arith)))

  pub binary-long : cap.binary < n → None ≡ own_of (text_at binary texts at n)
  binary-long h = none _ (λ a. omega (arith, ((binary-allowed texts at n).0 a).1))

  pub binary_outside : holds n texts at ≡ false → None ≡ own_of (text_at binary texts at n)
  binary_outside h = none _ (λ a. let t = is-there n texts at ((binary-allowed texts at n).0 a).0 in omega (arith, ap {B = ℕ} (λ (z : Bool). cond z 1 0) (sym t ∙ h)))

  pub binary-good : holds n texts at ≡ true → n ≤ cap.binary → Some (5 + n) ≡ own_of (text_at binary texts at n)
  unfolding tail_of
  binary-good h k =
      let i = there n texts at h in
      sized _ ((binary-allowed texts at n).1 (i, k)) (text_tail binary texts at n (λ l. refl)) (length-text 109 4 texts at n i (head-binary texts at n i))

-- ---- counts

module _ (n : ℕ) where
  pub own_small-tuple : n < 256 → Some 2 ≡ own_of (tuple n)
  unfolding tail_of
  own_small-tuple h = sized (tuple n) ((tuple-allowed n).1 (omega arith)) refl (length-number 104 1 _ (head-small-tuple n (omega arith)))

  capped : (i : Item) (most : ℕ) {r : ℕ} → (allowed i ≡ true) ↔ (n ≤ most) → (n ≤ most → Some r ≡ own_of i) → cond (leb n most) (Some r) None ≡ own_of i
  capped i most {r} a f = go (leb n most) refl
    where
      go : (t : Bool) → leb n most ≡ t → cond t (Some r) None ≡ own_of i
      go true e = f (leb-true n most e)
      go false e = none i (λ b. let h = leb-false n most e in omega (arith, a.0 b))

  pub own_large_tuple : 256 ≤ n → cond (leb n cap.elements) (Some 5) None ≡ own_of (tuple n)
  unfolding tail_of
  own_large_tuple h = capped (tuple n) cap.elements (tuple-allowed n) (λ k. sized (tuple n) ((tuple-allowed n).1 k) refl (length-number 105 4 _ (head_large_tuple n (omega arith))))

  pub own_list : cond (leb n cap.elements) (Some 6) None ≡ own_of (list n)
  unfolding tail_of
  own_list = capped (list n) cap.elements (list-allowed n) (λ k. let same : length (head_of (list n)) + 1 ≡ 6 = omega (arith, length-number 108 4 _ (head-list n)) in sym (own_is (list n) ((list-allowed n).1 k) ∙ ap Some same))

  pub own_map : cond (leb n cap.pairs) (Some 5) None ≡ own_of (map n)
  unfolding tail_of
  own_map = capped (map n) cap.pairs (map-allowed n) (λ k. sized (map n) ((map-allowed n).1 k) refl (length-number 116 4 _ (head-map n)))

-- ---- by kind

apart : (kind : ℕ) → Leaf kind → Parent kind → ⊥
apart kind (inl h) p = omega arith
apart kind (inr h) p = omega arith

-- an item without children, and one with some, of a kind that is known
module _ {kind : ℕ} (k : ℕ) (e : kind ≡ k) where
  pub alone : (texts : List ℕ) (x y : ℕ) {r : Option ℕ} → Leaf k → r ≡ own_of (item_of texts k x y) → IfSome r (λ n. n ≤ 100000005) → Alone (item_of texts kind x y) kind r
  alone texts x y l o s = rw e (record { is = λ _. o; other = λ p. absurd (apart k l p); small = s })

  pub around : (x : ℕ) {r : Option ℕ} → Parent k → ((texts : List ℕ) (y : ℕ) → r ≡ own_of (item_of texts k x y)) → IfSome r (λ n. n ≤ 6) → Around kind x r
  around x p o s = rw e (record { is = λ _. o; other = λ l. absurd (apart k l p); small = s })

module _ (texts : List ℕ) (x y : ℕ) where
  pub own_nothing : None ≡ own_of (item_of texts 0 x y)
  own_nothing = rw (kind_none texts x y) (none wrong wrong_never)

  pub own_double : x < 18446744073709551616 → Some 9 ≡ own_of (item_of texts 2 x y)
  unfolding item_of tail_of
  own_double h = sized (double x) (double-allowed x h) refl (length-number 70 8 _ (head-double x))

  pub own_nil : Some 1 ≡ own_of (item_of texts 8 x y)
  unfolding item_of tail_of
  own_nil = sized nil nil-allowed refl (ap length head-nil)

  -- what is no item, and what has children
  pub no-leaf : (kind : ℕ) → 5 ≤ kind → ¬ (kind ≡ 8) → Alone (item_of texts kind x y) kind None
  no-leaf kind h k = record { is = λ l. gone l; other = λ p. refl; small = tt }
    where
      gone : Leaf kind → None ≡ own_of (item_of texts kind x y)
      gone (inl l) = absurd (omega arith)
      gone (inr l) = rw (kind_other texts x y kind (omega arith)) (none wrong wrong_never)

pub no-parent : (kind x : ℕ) → ¬ (kind ≡ 5) → ¬ (kind ≡ 6) → ¬ (kind ≡ 7) → Around kind x None
no-parent kind x a b c = record { is = λ p. absurd (omega arith); other = λ l. refl; small = tt }
