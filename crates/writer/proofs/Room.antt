-- What the first bytes of an item are, by the tests of the code, and that they fit: a number behind a tag, a text behind its length, or both.
-- Assumes nothing.
use Rattle.std.proofs.Common.{◌≡◌, ℕ, ◌+◌, ◌^◌, ◌<◌, ◌≤◌, true, List, [], ◌∷◌, ◌++◌, length, take, drop, sym, refl, ap, ◌∙◌, arith}
use Rattle.fields.specs.Be.{bytes_of}
use Rattle.fields.proofs.Inverse.{length-bytes_of}
use Rattle.measure.specs.Item.{Item, integer, atom, binary, signed64, text_at, item_of, allowed}
use Rattle.measure.specs.Inner.Own.{head_of}
use Rattle.measure.proofs.Items.{kind_known, kind_integer, kind_double, kind_atom, kind_binary, kind_tuple, kind_list, kind_map, kind_nil, atom-allowed, binary-allowed, tuple-allowed, list-allowed, map-allowed, head-double, head-short-name, head-long-name, head-binary, head-small-tuple, head_large_tuple, head-list, head-map, head-nil, length-number, length-text}
use Rattle.writer.specs.Inner.Put.{Wrote, HeadFits, ParentFits, TextFits}
use Rattle.writer.proofs.Wrote.{wider, then}

-- a tag and a number of k bytes
pub record Numbered (l : List ℕ) (tag k n : ℕ) : Type 0 where
  pub is : l ≡ tag ∷ bytes_of k n
  pub holds : n < 256 ^ k

pub number_fits : {l : List ℕ} {tag k n : ℕ} (p : ℕ) {room : ℕ} → Numbered l tag k n → p + length l ≤ room → p + 1 + k ≤ room
number_fits {tag = tag} {k = k} {n = n} p b r = omega (arith, length-number tag k n b.is)

-- its bytes, as std makes them, are what was put
pub numbered : {l s old new : List ℕ} {tag k n p r : ℕ} → Numbered l tag k n → s ≡ bytes_of k n → Wrote old new p r r (tag ∷ s) → Wrote old new p r r l
numbered b e w = rw (b.is, ← e) w

pub lengthened : (k n : ℕ) {s old new : List ℕ} {tag p r : ℕ} → s ≡ bytes_of k n → Wrote old new p r r (tag ∷ s) → Wrote old new p r r (tag ∷ bytes_of k n)
lengthened k n e w = rw (← e) w

-- a tag, a length of k bytes, and a text of that length
pub record Spelt (l texts : List ℕ) (tag k at n : ℕ) : Type 0 where
  pub is : l ≡ tag ∷ (bytes_of k n ++ take n (drop at texts))
  pub holds : n < 256 ^ k
  pub inside : at + n ≤ length texts

module _ {i : Item} {p end room : ℕ} (h : HeadFits i p end room) where
  -- an item's bytes, where they are all that was put
  pub fits : {l : List ℕ} → head_of i ≡ l → p + length l ≤ room
  fits e = omega (arith, h.fits, h.lent, ap length e)

  pub within : {l old new : List ℕ} {q : ℕ} → head_of i ≡ l → Wrote old new p q q l → Wrote old new p q end (head_of i)
  within e w = rw e (wider refl (omega (arith, h.fits, w.to, ap length e)) w)

  module _ {texts : List ℕ} {tag k at n : ℕ} (b : Spelt (head_of i) texts tag k at n) where
    pub long : p + (1 + k + n) ≤ end
    long = omega (arith, length-text tag k texts at n b.inside b.is, h.fits)

    pub length-fits : p + 1 + k ≤ room
    length-fits = omega (arith, long, h.lent)

    module _ {old new : List ℕ} {q : ℕ} (w : Wrote old new p q q (tag ∷ bytes_of k n)) where
      ends : q ≡ p + (1 + k)
      ends = omega (arith, w.to, length-bytes_of k n)

      pub text-fits : length old ≡ room → TextFits (length texts) at n q end (length new)
      text-fits e = record { inside = b.inside; fits = omega (arith, long, ends); lent = omega (arith, h.lent, w.kept) }

      pub spelt : {last : List ℕ} {r : ℕ} → Wrote new last q r end (take n (drop at texts)) → Wrote old last p r end (head_of i)
      spelt v = rw b.is (then (omega (arith, long, ends)) w v)

-- ---- which kind an item is that is allowed

module _ (texts : List ℕ) (kind x y : ℕ) {p end room : ℕ} (h : HeadFits (item_of texts kind x y) p end room) where
  abbrev item : Item
  item = item_of texts kind x y

  by : (k : ℕ) → kind ≡ k → item ≡ item_of texts k x y
  by k e = ap (λ (j : ℕ). item_of texts j x y) e

  pub is-integer : kind < 2 → head_of item ≡ head_of (integer (signed64 x))
  is-integer k = ap head_of (by 1 (omega (arith, kind_known texts kind x y h.good)) ∙ kind_integer texts x y)

  pub is-double : x < 18446744073709551616 → 2 ≤ kind → kind < 3 → Numbered (head_of item) 70 8 x
  is-double f k l = record { is = ap head_of (by 2 (omega arith) ∙ kind_double texts x y) ∙ head-double x; holds = f }

  pub is-atom : 3 ≤ kind → kind < 4 → item ≡ text_at atom texts x y
  is-atom k l = by 3 (omega arith) ∙ kind_atom texts x y

  pub is-binary : 4 ≤ kind → kind < 5 → item ≡ text_at binary texts x y
  is-binary k l = by 4 (omega arith) ∙ kind_binary texts x y

-- a text's bytes
module _ (texts : List ℕ) (at n : ℕ) {p end room : ℕ} where
  module _ (h : HeadFits (text_at atom texts at n) p end room) where
    pub short-name : n < 256 → Spelt (head_of (text_at atom texts at n)) texts 119 1 at n
    short-name k = let (i, g) = (atom-allowed texts at n).0 h.good in record { is = head-short-name texts at n i (omega arith); holds = k; inside = i }

    pub long-name : 256 ≤ n → Spelt (head_of (text_at atom texts at n)) texts 118 2 at n
    long-name k = let (i, g) = (atom-allowed texts at n).0 h.good in record { is = head-long-name texts at n i k; holds = omega arith; inside = i }

  pub a_binary : HeadFits (text_at binary texts at n) p end room → Spelt (head_of (text_at binary texts at n)) texts 109 4 at n
  a_binary h = let (i, k) = (binary-allowed texts at n).0 h.good in record { is = head-binary texts at n i; holds = omega arith; inside = i }

-- those of an item that may have children
module _ (kind x : ℕ) {p room : ℕ} (f : ParentFits kind x p room) where
  abbrev bytes : List ℕ
  bytes = head_of (item_of [] kind x 0)

  parent : (k : ℕ) {i : Item} → kind ≡ k → item_of [] k x 0 ≡ i → item_of [] kind x 0 ≡ i
  parent k e b = ap (λ (j : ℕ). item_of [] j x 0) e ∙ b

  good : {i : Item} → item_of [] kind x 0 ≡ i → allowed i ≡ true
  good e = ap allowed (sym e) ∙ f.head.good

  pub a_nil : kind ≡ 8 → bytes ≡ 106 ∷ []
  a_nil e = ap head_of (parent 8 e (kind_nil [] x 0)) ∙ head-nil

  pub small_tuple : kind ≡ 5 → x < 256 → Numbered bytes 104 1 x
  small_tuple e h = record { is = ap head_of (parent 5 e (kind_tuple [] x 0)) ∙ head-small-tuple x (omega arith); holds = h }

  pub large_tuple : kind ≡ 5 → 256 ≤ x → Numbered bytes 105 4 x
  large_tuple e h = let i = parent 5 e (kind_tuple [] x 0) in record { is = ap head_of i ∙ head_large_tuple x h; holds = omega (arith, (tuple-allowed x).0 (good i)) }

  pub a_list : kind ≡ 6 → Numbered bytes 108 4 x
  a_list e = let i = parent 6 e (kind_list [] x 0) in record { is = ap head_of i ∙ head-list x; holds = omega (arith, (list-allowed x).0 (good i)) }

  pub a_map : ¬ (kind ≡ 8) → ¬ (kind ≡ 5) → ¬ (kind ≡ 6) → Numbered bytes 116 4 x
  a_map n a b =
      let i = parent 7 (omega (arith, f.above, kind_known [] kind x 0 f.head.good)) (kind_map [] x 0) in
      record { is = ap head_of i ∙ head-map x; holds = omega (arith, (map-allowed x).0 (good i)) }
