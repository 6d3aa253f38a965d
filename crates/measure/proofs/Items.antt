-- What an item's three numbers say, kind by kind: the item, whether it is allowed, its first bytes and how many they are. Assumes nothing.
use Rattle.std.proofs.Common.{◌≡◌, ℕ, zero, suc, ◌+◌, ◌-◌, ◌*◌, ◌/◌, ◌%◌, ◌^◌, ◌<◌, ◌≤◌, Bool, true, false, cond, eqb, ltb, leb, ◌↔◌, List, [], ◌∷◌, ◌++◌, length, take, drop, Option, Some, None, pos, negsuc, sym, refl, ap, ◌∙◌, add-one, pow-suc, le_trans, lt_of_lt_of_le, arith, length-append, length-drop, length-take-le, ltb-false, ltb-true, le-ltb, lt-ltb, eq-eqb, ne_eqb, eqb-true, le-leb, leb-false, leb-true}
use borrow.Author.Tests.{lt-leb}
use Rattle.std.proofs.Math.Nat.{pow-le-pow_right}
use Rattle.numbers.specs.Caps as cap
use Rattle.fields.specs.Be.{bytes_of, digits_of}
use Rattle.fields.proofs.Inverse.{length-bytes_of, bytes_of-one}
use Rattle.fields.proofs.Digits.{digits-length}
use Rattle.utf8.proofs.Eights.{places}
use Rattle.utf8.specs.Inner.Find.{good_bytes}
use Rattle.measure.specs.Item.{Item, integer, double, atom, binary, tuple, list, map, nil, wrong, signed64, text_at, item_of, allowed}
use Rattle.measure.specs.Term.{big, integer_tree, tree_of}
use Rattle.measure.specs.Inner.Own.{head_in, head_of, tail_of, own_of}
use Rattle.measure.proofs.Laid.{both}

-- ---- the item

module _ (texts : List ℕ) (x y : ℕ) where
  pub kind_integer : item_of texts 1 x y ≡ integer (signed64 x)
  unfolding item_of
  kind_integer = refl

  pub kind_double : item_of texts 2 x y ≡ double x
  unfolding item_of
  kind_double = refl

  pub kind_atom : item_of texts 3 x y ≡ text_at atom texts x y
  unfolding item_of
  kind_atom = refl

  pub kind_binary : item_of texts 4 x y ≡ text_at binary texts x y
  unfolding item_of
  kind_binary = refl

  pub kind_tuple : item_of texts 5 x y ≡ tuple x
  unfolding item_of
  kind_tuple = refl

  pub kind_list : item_of texts 6 x y ≡ list x
  unfolding item_of
  kind_list = refl

  pub kind_map : item_of texts 7 x y ≡ map x
  unfolding item_of
  kind_map = refl

  pub kind_nil : item_of texts 8 x y ≡ nil
  unfolding item_of
  kind_nil = refl

  pub kind_none : item_of texts 0 x y ≡ wrong
  unfolding item_of
  kind_none = refl

  pub kind_other : (kind : ℕ) → 8 < kind → item_of texts kind x y ≡ wrong
  unfolding item_of
  kind_other kind h =
      rw (ne_eqb kind 1 (λ e. omega arith), ne_eqb kind 2 (λ e. omega arith), ne_eqb kind 3 (λ e. omega arith), ne_eqb kind 4 (λ e. omega arith), ne_eqb kind 5 (λ e. omega arith), ne_eqb kind 6 (λ e. omega arith), ne_eqb kind 7 (λ e. omega arith), ne_eqb kind 8 (λ e. omega arith))

-- neither the texts nor the second field say anything of an item with children
pub kind_parent : (texts : List ℕ) (kind x y : ℕ) → 4 < kind → item_of texts kind x y ≡ item_of [] kind x 0
unfolding item_of
kind_parent texts kind x y h = rw (ne_eqb kind 3 (λ e. omega arith), ne_eqb kind 4 (λ e. omega arith))

-- a text inside the texts, and one that isn't
module _ (f : List ℕ → Item) (texts : List ℕ) (at n : ℕ) where
  pub text-inside : at + n ≤ length texts → text_at f texts at n ≡ f (take n (drop at texts))
  unfolding text_at
  text-inside h = rw (le-leb (at + n) (length texts) h)

  pub text_outside : length texts < at + n → text_at f texts at n ≡ wrong
  unfolding text_at
  text_outside h = rw (lt-leb (at + n) (length texts) h)

pub text-length : (texts : List ℕ) (at n : ℕ) → at + n ≤ length texts → length (take n (drop at texts)) ≡ n
text-length texts at n h = length-take-le n (drop at texts) (simp length-drop (omega arith))

-- an integer's two halves
pub from_zero : (x : ℕ) → x < 9223372036854775808 → signed64 x ≡ pos x
unfolding signed64
from_zero x h = rw (lt-ltb x 9223372036854775808 h)

pub below-zero : (x : ℕ) → 9223372036854775808 ≤ x → x < 18446744073709551616 → signed64 x ≡ negsuc (18446744073709551615 - x)
unfolding signed64
below-zero x h k =
    let e : 18446744073709551616 - suc x ≡ 18446744073709551615 - x = omega arith in
    rw (le-ltb x 9223372036854775808 h, lt-ltb x 18446744073709551616 k, e)

-- ---- whether it is allowed

-- where it isn't, none is told
pub own_none : (i : Item) → ¬ (allowed i ≡ true) → own_of i ≡ None
unfolding own_of
own_none i h = go (allowed i) refl
  where
    go : (x : Bool) → allowed i ≡ x → cond {A = Option ℕ} x (Some (length (head_of i) + length (tail_of i))) None ≡ None
    go true e = absurd (h e)
    go false e = refl

pub own_is : (i : Item) → allowed i ≡ true → own_of i ≡ Some (length (head_of i) + length (tail_of i))
unfolding own_of
own_is i e = rw e

-- what has no tail
pub own_head : (i : Item) → allowed i ≡ true → tail_of i ≡ [] → own_of i ≡ Some (length (head_of i))
own_head i e t = let same : length (head_of i) + length (tail_of i) ≡ length (head_of i) = rw t (omega arith) in own_is i e ∙ ap Some same

pub text_tail : (f : List ℕ → Item) (texts : List ℕ) (at n : ℕ) → ((l : List ℕ) → tail_of (f l) ≡ []) → tail_of (text_at f texts at n) ≡ []
unfolding text_at tail_of
text_tail f texts at n h = go (leb (at + n) (length texts))
  where
    go : (t : Bool) → tail_of (cond t (f (take n (drop at texts))) wrong) ≡ []
    go true = h (take n (drop at texts))
    go false = refl

pub wrong_never : ¬ (allowed wrong ≡ true)
unfolding allowed
wrong_never h = let z : ◌≡◌ {A = ℕ} 0 1 = cc in omega arith

-- the kinds that there are
pub kind_known : (texts : List ℕ) (kind x y : ℕ) → allowed (item_of texts kind x y) ≡ true → (1 ≤ kind) × (kind ≤ 8)
kind_known texts zero x y a = absurd (wrong_never (rw (kind_none texts x y) at a))
kind_known texts (suc k) x y a = (omega arith, go (leb (suc k) 8) refl)
  where
    go : (t : Bool) → leb (suc k) 8 ≡ t → suc k ≤ 8
    go true e = leb-true _ _ e
    go false e = absurd (wrong_never (rw (kind_other texts x y (suc k) (leb-false _ _ e)) at a))

-- one of them, whatever is to be shown of each
pub by_kinds : (P : ℕ → Type 0) (kind : ℕ) → (1 ≤ kind) × (kind ≤ 8) → P 1 → P 2 → P 3 → P 4 → P 5 → P 6 → P 7 → P 8 → P kind
by_kinds P zero h a b c d e f g i = absurd (omega arith)
by_kinds P (suc zero) h a b c d e f g i = a
by_kinds P (suc (suc zero)) h a b c d e f g i = b
by_kinds P (suc (suc (suc zero))) h a b c d e f g i = c
by_kinds P (suc (suc (suc (suc zero)))) h a b c d e f g i = d
by_kinds P (suc (suc (suc (suc (suc zero))))) h a b c d e f g i = e
by_kinds P (suc (suc (suc (suc (suc (suc zero)))))) h a b c d e f g i = f
by_kinds P (suc (suc (suc (suc (suc (suc (suc zero))))))) h a b c d e f g i = g
by_kinds P (suc (suc (suc (suc (suc (suc (suc (suc zero)))))))) h a b c d e f g i = i
by_kinds P (suc (suc (suc (suc (suc (suc (suc (suc (suc k))))))))) h a b c d e f g i = absurd (omega arith)

pub integer-allowed : (x : ℕ) → x < 18446744073709551616 → allowed (integer (signed64 x)) ≡ true
unfolding allowed
integer-allowed x h = go (ltb x 9223372036854775808) refl
  where
    go : (t : Bool) → ltb x 9223372036854775808 ≡ t → allowed (integer (signed64 x)) ≡ true
    go true e = rw (from_zero x (ltb-true _ _ e)) e
    go false e = rw (below-zero x (ltb-false _ _ e) h) (lt-ltb (18446744073709551615 - x) 9223372036854775808 (omega (arith, ltb-false x 9223372036854775808 e)))

pub double-allowed : (x : ℕ) → x < 18446744073709551616 → allowed (double x) ≡ true
unfolding allowed
double-allowed x h = lt-ltb _ _ h

pub tuple-allowed : (n : ℕ) → (allowed (tuple n) ≡ true) ↔ (n ≤ cap.elements)
unfolding allowed
tuple-allowed n = (leb-true _ _, le-leb _ _)

pub list-allowed : (n : ℕ) → (allowed (list n) ≡ true) ↔ (n ≤ cap.elements)
unfolding allowed
list-allowed n = (leb-true _ _, le-leb _ _)

pub map-allowed : (n : ℕ) → (allowed (map n) ≡ true) ↔ (n ≤ cap.pairs)
unfolding allowed
map-allowed n = (leb-true _ _, le-leb _ _)

pub nil-allowed : allowed nil ≡ true
unfolding allowed
nil-allowed = refl

-- texts: inside, and short enough; a name is good all through
module _ (texts : List ℕ) (at n : ℕ) where
  inside : (f : List ℕ → Item) → allowed (text_at f texts at n) ≡ true → at + n ≤ length texts
  inside f a = go (leb (at + n) (length texts)) refl
    where
      go : (t : Bool) → leb (at + n) (length texts) ≡ t → at + n ≤ length texts
      go true e = leb-true _ _ e
      go false e = absurd (wrong_never (rw (text_outside f texts at n (leb-false _ _ e)) at a))

  pub binary-allowed : (allowed (text_at binary texts at n) ≡ true) ↔ ((at + n ≤ length texts) × (n ≤ cap.binary))
  unfolding allowed
  binary-allowed = (
    λ a. (inside binary a, leb-true n cap.binary (rw (text-inside binary texts at n (inside binary a), text-length texts at n (inside binary a)) at a)),
    λ h. rw (text-inside binary texts at n h.0, text-length texts at n h.0) (le-leb n cap.binary h.1),
  )

  pub atom-allowed : (allowed (text_at atom texts at n) ≡ true) ↔ ((at + n ≤ length texts) × ((n ≤ 65535) × (good_bytes (take n (drop at texts)) ≡ n)))
  unfolding allowed
  atom-allowed = (
    λ a.
        let h = inside atom a in
        let (k, g) = both (leb n 65535) (eqb (good_bytes (take n (drop at texts))) n) (rw (text-inside atom texts at n h, text-length texts at n h) at a) in
        (h, (leb-true n 65535 k, eqb-true (good_bytes (take n (drop at texts))) n g)),
    λ h. rw (text-inside atom texts at n h.0, text-length texts at n h.0, le-leb n 65535 h.1.0, eq-eqb (good_bytes (take n (drop at texts))) n h.1.1),
  )

-- ---- its first bytes

-- the ways of an integer, as the code tells them: a byte, 32 bits, or digits
module _ (x : ℕ) (fits : x < 18446744073709551616) where
  pub head_byte : x < 256 → head_of (integer (signed64 x)) ≡ 97 ∷ bytes_of 1 x
  unfolding head_of tree_of integer_tree
  head_byte h = rw (from_zero x (omega arith), lt-ltb x 256 h)

  pub head_word : 256 ≤ x → (x + 2147483648) % 18446744073709551616 < 4294967296 → head_of (integer (signed64 x)) ≡ 98 ∷ bytes_of 4 (x % 4294967296)
  unfolding head_of tree_of integer_tree
  head_word h w = go (ltb x 9223372036854775808) refl
    where
      go : (t : Bool) → ltb x 9223372036854775808 ≡ t → head_of (integer (signed64 x)) ≡ 98 ∷ bytes_of 4 (x % 4294967296)
      go true e =
          let k = ltb-true x 9223372036854775808 e in
          let m : x % 4294967296 ≡ x = omega arith in
          rw (from_zero x k, le-ltb x 256 h, lt-ltb x 2147483648 (omega arith), m)
      go false e =
          let k = ltb-false x 9223372036854775808 e in
          let m : x % 4294967296 ≡ 4294967295 - (18446744073709551615 - x) = omega arith in
          rw (below-zero x k fits, lt-ltb (18446744073709551615 - x) 2147483648 (omega arith), m)

  module _ (w : 4294967296 ≤ (x + 2147483648) % 18446744073709551616) where
    pub head-above : x < 9223372036854775808 → head_of (integer (signed64 x)) ≡ head_in (big 0 x)
    unfolding head_of tree_of integer_tree
    head-above k = rw (from_zero x k, le-ltb x 256 (omega arith), le-ltb x 2147483648 (omega arith))

    pub head-below : 9223372036854775808 ≤ x → head_of (integer (signed64 x)) ≡ head_in (big 1 (18446744073709551615 - x + 1))
    unfolding head_of tree_of integer_tree
    head-below k =
        rw (below-zero x k fits, le-ltb (18446744073709551615 - x) 2147483648 (omega arith), add-one (18446744073709551615 - x))

pub head-big : (sign n : ℕ) → head_in (big sign n) ≡ 110 ∷ (length (digits_of 8 n) ∷ (sign ∷ digits_of 8 n))
unfolding big
head-big sign n = rw (bytes_of-one (length (digits_of 8 n)))

pub head-double : (x : ℕ) → head_of (double x) ≡ 70 ∷ bytes_of 8 x
unfolding head_of tree_of
head-double x = refl

module _ (texts : List ℕ) (at n : ℕ) (h : at + n ≤ length texts) where
  pub head-short-name : n ≤ 255 → head_of (text_at atom texts at n) ≡ 119 ∷ (bytes_of 1 n ++ take n (drop at texts))
  unfolding head_of tree_of
  head-short-name k = rw (text-inside atom texts at n h, text-length texts at n h, le-leb n 255 k)

  pub head-long-name : 255 < n → head_of (text_at atom texts at n) ≡ 118 ∷ (bytes_of 2 n ++ take n (drop at texts))
  unfolding head_of tree_of
  head-long-name k = rw (text-inside atom texts at n h, text-length texts at n h, lt-leb n 255 k)

  pub head-binary : head_of (text_at binary texts at n) ≡ 109 ∷ (bytes_of 4 n ++ take n (drop at texts))
  unfolding head_of tree_of
  head-binary = rw (text-inside binary texts at n h, text-length texts at n h)

module _ (n : ℕ) where
  pub head-small-tuple : n ≤ 255 → head_of (tuple n) ≡ 104 ∷ bytes_of 1 n
  unfolding head_of tree_of
  head-small-tuple h = rw (le-leb n 255 h)

  pub head_large_tuple : 255 < n → head_of (tuple n) ≡ 105 ∷ bytes_of 4 n
  unfolding head_of tree_of
  head_large_tuple h = rw (lt-leb n 255 h)

  pub head-list : head_of (list n) ≡ 108 ∷ bytes_of 4 n
  unfolding head_of tree_of
  head-list = refl

  pub head-map : head_of (map n) ≡ 116 ∷ bytes_of 4 n
  unfolding head_of tree_of
  head-map = refl

pub head-nil : head_of nil ≡ 106 ∷ []
unfolding head_of tree_of
head-nil = refl

-- ---- how many they are

-- a tag and a number; the same and a text; a big integer's
pub length-number : {l : List ℕ} (tag k n : ℕ) → l ≡ tag ∷ bytes_of k n → length l ≡ 1 + k
length-number tag k n e = rw e (omega (arith, length-bytes_of k n))

pub length-text : {l : List ℕ} (tag k : ℕ) (texts : List ℕ) (at n : ℕ) → at + n ≤ length texts → l ≡ tag ∷ (bytes_of k n ++ take n (drop at texts)) → length l ≡ 1 + k + n
length-text tag k texts at n h e = rw e (omega (arith, length-append (bytes_of k n) (take n (drop at texts)), length-bytes_of k n, text-length texts at n h))

pub length-big : {l : List ℕ} (sign n : ℕ) → l ≡ head_in (big sign n) → length l ≡ 3 + length (digits_of 8 n)
length-big sign n e = rw (e, head-big sign n) (omega arith)

-- a big integer's digits, by the power of two in it
pub digits_by_log : (n k : ℕ) → 2 ^ k ≤ n → n < 2 * 2 ^ k → k < 64 → k / 8 + 1 ≡ length (digits_of 8 n)
digits_by_log n k l u h =
    let j = k / 8 in
    let double : 2 * 2 ^ k ≡ 2 ^ suc k = omega (arith, pow-suc 2 k) in
    let low : 256 ^ j ≤ n = rw (places j) (le_trans (pow-le-pow_right {n = 2} (omega arith) {i = 8 * j} {j = k} (omega arith)) l) in
    let top : n < 256 ^ suc j = rw (places (suc j)) (lt_of_lt_of_le u (rw double (pow-le-pow_right {n = 2} (omega arith) {i = suc k} {j = 8 * suc j} (omega arith)))) in
    sym (digits-length 8 n j (omega arith) low top ∙ omega arith)
