-- An item's tree says the item, and then what its children say. Assumes nothing.
use Prim.Native.Nat.{ℕ, suc, ◌-◌, ◌<◌}
use native.Mathlib.Omega.{arith}
use mathlib.Core.Path.{◌≡◌, refl, ap, sym, ◌∙◌}
use mathlib.Core.Bool.{Bool, true, false, cond}
use mathlib.Core.List.{List, [], ◌∷◌, ◌++◌}
use lib.Dec.{eqb, ltb, leb}
use lib.IntN.{ℤ, pos, negsuc}
use lib.ListN.{length, drop}
use lib.Seq.{drop_at}
use borrow.Author.Tests.{leb-true, ltb-true}
use Rattle.numbers.specs.Caps as cap
use Rattle.fields.specs.Be.{bytes_of, digits_of}
use Rattle.fields.proofs.Laws.{signed_natural, signed_negative}
use Rattle.fields.proofs.Inverse.{be-bytes_of, length-bytes_of}
use Rattle.fields.proofs.Digits.{le-digits}
use Rattle.layouts.specs.Tree.{Tree, Forest, node, none, count, bytes_all}
use Rattle.layouts.specs.Values.{by_sign}
use Rattle.layouts.proofs.Values.{small-big-is}
use Rattle.measure.specs.Item.{Item, integer, double, atom, binary, tuple, list, map, nil, wrong, kids_of, allowed}
use Rattle.measure.specs.Term.{ended, big, integer_tree, tree_of}
use Rattle.measure.proofs.Forests.{empty}
use Rattle.roundtrip.specs.Told.{said, front_length}
use Rattle.roundtrip.specs.RoundTrip.{tails_of}
use Rattle.roundtrip.proofs.Says.{Itself, Says, no_more, tail, one_more}

-- ---- numbers and texts

byte_says : (n : ℕ) → n < 256 → said 97 (bytes_of 1 n) ≡ integer (pos n)
unfolding said
byte_says n h = ap (λ (k : ℕ). integer (pos k)) (be-bytes_of 1 n h)

word_says : (n : ℕ) → n < 2147483648 → said 98 (bytes_of 4 n) ≡ integer (pos n)
unfolding said
word_says n h = rw (be-bytes_of 4 n (omega arith), (signed_natural n (omega arith)).0 (omega arith))

minus_says : (n : ℕ) → n < 2147483648 → said 98 (bytes_of 4 (4294967295 - n)) ≡ integer (negsuc n)
unfolding said
minus_says n h =
    let e : 4294967295 - (4294967295 - n) ≡ n = omega arith in
    rw (be-bytes_of 4 (4294967295 - n) (omega arith), signed_negative (4294967295 - n) (omega arith) (omega arith), e)

big_says : (sign n : ℕ) → n < 18446744073709551616 → said 110 (bytes_of 1 (length (digits_of 8 n)) ++ (sign ∷ digits_of 8 n)) ≡ integer (by_sign sign n)
unfolding said
big_says sign n h =
    let k : ℕ = length (digits_of 8 n) in
    rw (small-big-is (bytes_of 1 k) sign (digits_of 8 n) (record { wide = length-bytes_of 1 k; is = refl }), le-digits 8 n h)

-- behind a length of k bytes
text : (k : ℕ) (s : List ℕ) → drop k (bytes_of k (length s) ++ s) ≡ s
text k s = drop_at (bytes_of k (length s)) s k (length-bytes_of k (length s))

-- ---- terms

-- a term without children, and one with a count of k bytes before them
alone : {i : Item} {tag : ℕ} {front : List ℕ} → said tag front ≡ i → ((n : ℕ) → front_length tag n ≡ n) → tails_of i ≡ cond (eqb tag 108) 1 0 → Itself i tag front none
unfolding bytes_all
alone e w t = record { says = e; wide = w _ ∙ omega arith; tails = t }

over : (k n : ℕ) {tag : ℕ} {i : Item} {ts : Forest} → said tag (bytes_of k n) ≡ i → ((m : ℕ) → front_length tag m ≡ k) → tails_of i ≡ cond (eqb tag 108) 1 0 →
    Itself i tag (bytes_of k n) ts
over k n e w t = record { says = e; wide = w _ ∙ sym (length-bytes_of k n); tails = t }

-- a tree that says the item i, whose children say l
pub data SaysOne (i : Item) (l : List Item) : Tree → Type 0 where
  one : {tag : ℕ} {front : List ℕ} {ts : Forest} → Itself i tag front ts → Says (eqb tag 108) ts l → SaysOne i l (node tag front ts [])

either : {i : Item} {l : List Item} (x : Bool) (t u : Tree) → (x ≡ true → SaysOne i l t) → (x ≡ false → SaysOne i l u) → SaysOne i l (cond x t u)
either true t u f g = f refl
either false t u f g = g refl

with_tail : {ts : Forest} {s : List Item} → Says false ts s → Says true (ended ts) s
unfolding ended
with_tail no_more = tail
with_tail (one_more f k w) = one_more f k (with_tail w)

module _ {l : List Item} where
  integer_says : (z : ℤ) → allowed (integer z) ≡ true → Says false none l → SaysOne (integer z) l (integer_tree z)
  unfolding allowed integer_tree big front_length tails_of by_sign
  integer_says (pos n) a w =
      either (ltb n 256) _ _ (λ e. one (alone (byte_says n (ltb-true n 256 e)) (λ _. refl) refl) w) (λ _.
      either (ltb n 2147483648) _ _ (λ e. one (alone (word_says n (ltb-true n 2147483648 e)) (λ _. refl) refl) w) (λ _.
      one (alone (big_says 0 n (omega (arith, ltb-true n 9223372036854775808 a))) (λ _. refl) refl) w))
  integer_says (negsuc n) a w =
      either (ltb n 2147483648) _ _ (λ e. one (alone (minus_says n (ltb-true n 2147483648 e)) (λ _. refl) refl) w) (λ _.
      one (alone (big_says 1 (suc n) (omega (arith, ltb-true n 9223372036854775808 a))) (λ _. refl) refl) w)

  pub item_says : (i : Item) (ts : Forest) → allowed i ≡ true → count ts ≡ kids_of i → Says false ts l → SaysOne i l (tree_of i ts)
  unfolding tree_of allowed kids_of said front_length tails_of
  item_says (integer z) ts a c w = integer_says z a (rw (empty ts c) at w)
  item_says (double n) ts a c w = one (alone (ap double (be-bytes_of 8 n (ltb-true n 18446744073709551616 a))) (λ _. refl) refl) (rw (empty ts c) at w)
  item_says (atom s) ts a c w =
      let v = rw (empty ts c) at w in
      either (leb (length s) 255) _ _ (λ _. one (alone (ap atom (text 1 s)) (λ _. refl) refl) v) (λ _. one (alone (ap atom (text 2 s)) (λ _. refl) refl) v)
  item_says (binary s) ts a c w = one (alone (ap binary (text 4 s)) (λ _. refl) refl) (rw (empty ts c) at w)
  item_says (tuple n) ts a c w =
      let h = leb-true n cap.elements a in
      either (leb n 255) _ _ (λ e. one (over 1 n (ap tuple (be-bytes_of 1 n (omega (arith, leb-true n 255 e)))) (λ _. refl) refl) w)
      (λ _. one (over 4 n (ap tuple (be-bytes_of 4 n (omega arith))) (λ _. refl) refl) w)
  item_says (list n) ts a c w = let h = leb-true n cap.elements a in one (over 4 n (ap list (be-bytes_of 4 n (omega arith))) (λ _. refl) refl) (with_tail w)
  item_says (map n) ts a c w = let h = leb-true n cap.pairs a in one (over 4 n (ap map (be-bytes_of 4 n (omega arith))) (λ _. refl) refl) w
  item_says nil ts a c w = one (alone refl (λ _. refl) refl) (rw (empty ts c) at w)
  item_says wrong ts a c w = absurd (omega (arith, ap {B = ℕ} (λ (z : Bool). cond z 1 0) a))
