-- The trees of a row are terms, and an accepted row is one term: laid, nested within the limit, and its bytes behind 131 are what is written.
-- Assumes nothing.
use Rattle.std.proofs.Common.{◌≡◌, ℕ, suc, ◌-◌, ◌^◌, ◌<◌, ◌≤◌, Bool, true, false, cond, ◌&&◌, eqb, ltb, leb, List, [], ◌∷◌, ◌++◌, length, ℤ, pos, negsuc, refl, ap, ◌∙◌, append-nil, arith, eqb-true, leb-true}
use native.Mathlib.Nat.{le-max_left}
use Rattle.numbers.specs.Allowed.{plain}
use Rattle.numbers.specs.Caps as cap
use Rattle.fields.specs.Be.{bytes_of, digits_of}
use Rattle.fields.proofs.Inverse.{be-bytes_of, length-bytes_of}
use Rattle.fields.proofs.Digits.{few-digits}
use Rattle.utf8.specs.Good.{Utf8}
use Rattle.utf8.specs.Inner.Find.{good_bytes}
use Rattle.utf8.proofs.Laws.{utf8_is}
use Rattle.layouts.specs.Tree.{Tree, Forest, node, none, more, leaf, count, bytes, bytes_all, depth, depths}
use Rattle.layouts.specs.Layout as layout
use Rattle.layouts.specs.Layout.{Number, Laid, AllLaid, no_more, one_more, row}
use Rattle.measure.specs.Item.{Item, integer, double, atom, binary, tuple, list, map, nil, wrong, kids_of, allowed}
use Rattle.measure.specs.Term.{ended, big, integer_tree, tree_of, trees_of, sound, written, accepted}
use Rattle.measure.proofs.Forests.{count-first, count-ended, laid-first, laid-behind, laid-ended}

number : (k n : ℕ) → n < 256 ^ k → Number k (bytes_of k n) n
number k n h = record { wide = length-bytes_of k n; is = be-bytes_of k n h }

big-laid : (s m : ℕ) → Laid plain (big s m)
unfolding big
big-laid s m = row (layout.small_big (bytes_of 1 (length (digits_of 8 m))) s (digits_of 8 m) (number 1 (length (digits_of 8 m)) (omega (arith, few-digits 8 m))))

integer-laid : (z : ℤ) → Laid plain (integer_tree z)
unfolding integer_tree
integer-laid (pos n) = go (ltb n 256) (ltb n 2147483648)
  where
    go : (x y : Bool) → Laid plain (cond x (leaf 97 (bytes_of 1 n)) (cond y (leaf 98 (bytes_of 4 n)) (big 0 n)))
    go true y = row (layout.small_integer (length-bytes_of 1 n))
    go false true = row (layout.integer (length-bytes_of 4 n))
    go false false = big-laid 0 n
integer-laid (negsuc n) = go (ltb n 2147483648)
  where
    go : (x : Bool) → Laid plain (cond x (leaf 98 (bytes_of 4 (4294967295 - n))) (big 1 (suc n)))
    go true = row (layout.integer (length-bytes_of 4 (4294967295 - n)))
    go false = big-laid 1 (suc n)

pub both : (x y : Bool) → (x && y) ≡ true → (x ≡ true) × (y ≡ true)
both true y e = (refl, e)
both false y e = (e, absurd (omega (arith, ap {B = ℕ} (λ (z : Bool). cond z 1 0) e)))

module _ {ks : Forest} (l : AllLaid plain ks) where
  tuple-laid : (n : ℕ) → n ≤ cap.elements → count ks ≡ n → Laid plain (tree_of (tuple n) ks)
  unfolding tree_of
  tuple-laid n h c = go (leb n 255) refl
    where
      go : (x : Bool) → leb n 255 ≡ x → Laid plain (cond x (node 104 (bytes_of 1 n) ks []) (node 105 (bytes_of 4 n) ks []))
      go true e = layout.small_tuple {n = bytes_of 1 n} {ts = ks} (rw c (number 1 n (omega (arith, leb-true n 255 e)))) l
      go false e = layout.large_tuple {n = bytes_of 4 n} {ts = ks} (rw c (number 4 n (omega arith))) (omega arith) l

  atom-laid : (s : List ℕ) → length s ≤ 65535 → Utf8 s → Laid plain (tree_of (atom s) ks)
  unfolding tree_of
  atom-laid s h u = go (leb (length s) 255) refl
    where
      go : (x : Bool) → leb (length s) 255 ≡ x → Laid plain (cond x (leaf 119 (bytes_of 1 (length s) ++ s)) (leaf 118 (bytes_of 2 (length s) ++ s)))
      go true e = row (layout.small_atom (bytes_of 1 (length s)) s (number 1 (length s) (omega (arith, leb-true (length s) 255 e))) u)
      go false e = row (layout.atom (bytes_of 2 (length s)) s (number 2 (length s) (omega arith)) u)

  tree-laid : (i : Item) → allowed i ≡ true → count ks ≡ kids_of i → Laid plain (tree_of i ks)
  unfolding tree_of allowed kids_of
  tree-laid (integer z) a c = integer-laid z
  tree-laid (double n) a c = row (layout.double (length-bytes_of 8 n))
  tree-laid (atom s) a c = let (x, y) = both (leb (length s) 65535) (eqb (good_bytes s) (length s)) a in atom-laid s (leb-true _ _ x) ((utf8_is s).0 y)
  tree-laid (binary s) a c =
      let h = leb-true (length s) cap.binary a in
      row (layout.binary (bytes_of 4 (length s)) s (number 4 (length s) (omega arith)) (omega arith))
  tree-laid (tuple n) a c = tuple-laid n (leb-true n cap.elements a) c
  tree-laid (list n) a c = let h = leb-true n cap.elements a in layout.list {n = bytes_of 4 n} {m = n} {ts = ended ks} (number 4 n (omega arith)) (omega arith) (omega (arith, count-ended ks)) (laid-ended l)
  tree-laid (map n) a c = let h = leb-true n cap.pairs a in layout.map {n = bytes_of 4 n} {m = n} {ts = ks} (number 4 n (omega arith)) (omega arith) (omega arith) l
  tree-laid nil a c = row layout.nil
  tree-laid wrong a c = absurd (omega (arith, ap {B = ℕ} (λ (z : Bool). cond z 1 0) a))

-- what `sound` says of an item and those behind it
pub record Sound (i : Item) (s : List Item) : Type 0 where
  pub item : allowed i ≡ true
  pub kids : kids_of i ≤ count (trees_of s)
  pub rest : sound s ≡ true

pub sound-is : (i : Item) (s : List Item) → sound (i ∷ s) ≡ true → Sound i s
unfolding sound
sound-is i s e =
    let (x, r) = both (allowed i && leb (kids_of i) (count (trees_of s))) (sound s) e in
    let (a, k) = both (allowed i) (leb (kids_of i) (count (trees_of s))) x in
    record { item = a; kids = leb-true _ _ k; rest = r }

-- (a) the trees of a row are terms
pub laid : (s : List Item) → sound s ≡ true → AllLaid plain (trees_of s)
unfolding trees_of
laid [] e = no_more
laid (i ∷ s) e =
    let h = sound-is i s e in
    let l = laid s h.rest in
    let n = kids_of i in
    one_more (tree-laid (laid-first n l) i h.item (count-first n (trees_of s) h.kids)) (laid-behind n l)

-- what an accepted row is
pub record Accepted (s : List Item) : Type 0 where
  pub goes : sound s ≡ true
  pub one : count (trees_of s) ≡ 1
  pub shallow : depths (trees_of s) ≤ cap.nesting
  pub short : length (written s) ≤ cap.input

pub accepted-is : (s : List Item) → accepted s ≡ true → Accepted s
unfolding accepted
accepted-is s e =
    let (x, l) = both (sound s && eqb (count (trees_of s)) 1 && leb (depths (trees_of s)) cap.nesting) (leb (length (written s)) cap.input) e in
    let (y, d) = both (sound s && eqb (count (trees_of s)) 1) (leb (depths (trees_of s)) cap.nesting) x in
    let (z, c) = both (sound s) (eqb (count (trees_of s)) 1) y in
    record { goes = z; one = eqb-true _ _ c; shallow = leb-true _ _ d; short = leb-true _ _ l }

-- one tree alone
alone : (ts : Forest) → count ts ≡ 1 → (t : Tree) × (ts ≡ more t none)
unfolding count
alone none c = absurd (omega arith)
alone (more t none) c = (t, refl)
alone (more t (more u ts)) c = absurd (omega arith)

-- an accepted row is a term
pub record Whole (s : List Item) : Type 0 where
  pub tree : Tree
  pub only : trees_of s ≡ more tree none
  pub laid : Laid plain tree
  pub is : written s ≡ 131 ∷ bytes tree
  pub nested : depth tree ≤ cap.nesting

pub whole : (s : List Item) → accepted s ≡ true → Whole s
unfolding written bytes_all depths
whole s e =
    let a = accepted-is s e in
    let (t, f) = alone (trees_of s) a.one in
    record {
      tree = t;
      only = f;
      laid = the (rw f at (laid s a.goes));
      is = ap (λ (r : Forest). 131 ∷ bytes_all r) f ∙ ap (λ (r : List ℕ). 131 ∷ r) (append-nil (bytes t));
      nested = omega (arith, ap depths f, a.shallow, le-max_left (depth t) 0);
    }
  where
    the : {t : Tree} → AllLaid plain (more t none) → Laid plain t
    the (one_more p no_more) = p
