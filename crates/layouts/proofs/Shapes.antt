-- What shapes say: the shape told by the bytes of a term is its tree's, so that what stands at a place is one tree at most. Assumes nothing.
use Prim.Native.Nat.{ℕ, ◌+◌, ◌≤◌, ◌<◌}
use native.Mathlib.Omega.{arith}
use mathlib.Core.Path.{◌≡◌, refl, ap, sym, ◌∙◌, subst}
use mathlib.Core.List.{List, [], ◌∷◌, ◌++◌}
use lib.ListN.{length, get_or, length-append}
use mathlib.Core.Bool.{Bool, true, false, cond, ◌&&◌}
use lib.Dec.{ltb, leb}
use borrow.Author.Tests.{lt-ltb, le-ltb, le-leb, lt-leb}
use Rattle.numbers.specs.Caps as cap
use Rattle.numbers.specs.Allowed.{Allowed}
use Rattle.numbers.proofs.Laws.{none_of, arm}
use Rattle.fields.specs.Field.{number_at}
use Rattle.fields.proofs.Laws.{number_of}
use denote.Bor.{Bor}
use Rattle.std.specs.Prelude.{Option, Some, None, MatchOption}
use Rattle.std.specs.Option.{option_copied}
use Rattle.std.specs.Slice.{IsItemAt}
use Rattle.layouts.specs.declared.Shape.{Shape}
use Rattle.layouts.specs.Tree.{Tree, Forest, node, none, more, leaf, tag_of, count, bytes, bytes_all, Stands}
use Rattle.layouts.specs.Layout as layout
use Rattle.layouts.specs.Layout.{Number, IsAtom, Leaf, Laid, AllLaid}
use Rattle.layouts.specs.Inner.Shape.{front_of, ends, inner, inside, IsTagAt, shape_by, shape_at, shape_of, short_by, short_at}
use Rattle.layouts.proofs.Stands.{left, right, byte, behind, spells}

module _ (b : List ℕ) (p : ℕ) where
  -- a place within an input that reading takes, and the other places
  pub inside-is : p < length b → length b ≤ cap.input → inside b p ≡ true
  unfolding inside
  inside-is h k = rw (lt-ltb p (length b) h, le-leb (length b) cap.input k)

  pub inside_past : length b ≤ p → inside b p ≡ false
  unfolding inside
  inside_past h = rw (le-ltb p (length b) h)

  pub inside_long : cap.input < length b → inside b p ≡ false
  unfolding inside
  inside_long h = go (ltb p (length b))
    where
      go : (x : Bool) → (x && leb (length b) cap.input) ≡ false
      go true = rw (lt-leb (length b) cap.input h)
      go false = refl

  -- the byte there, in such an input, is a tag at such a place
  pub tag-is : (r : Option (Bor ℕ)) → length b ≤ cap.input → IsItemAt b p r → MatchOption (option_copied r) (inside b p ≡ false) (IsTagAt b p)
  tag-is None h i = inside_past i.3
  tag-is (Some x) h i = record { within = i.3.0; short = h; is = i.4 (omega arith) 0 }

  -- the shape at a place by its tag, and where there is none
  pub by_tag_lem : (n : ℕ) {tag : ℕ} → IsTagAt b p tag → tag ≡ n → shape_by b p n ≡ shape_at b p
  unfolding shape_at
  by_tag_lem n i e = rw (inside-is i.within i.short, ← i.is, e)

  pub none_at : inside b p ≡ false → ends p ≡ shape_at b p
  unfolding shape_at
  none_at h = rw h

  -- and the short way
  pub short_tag : (n : ℕ) {tag : ℕ} → IsTagAt b p tag → tag ≡ n → short_by b p n ≡ short_at b p
  unfolding short_at
  short_tag n i e = rw (inside-is i.within i.short, ← i.is, e)

  pub short_none : inside b p ≡ false → None ≡ short_at b p
  unfolding short_at
  short_none h = rw h

  abbrev Short : ℕ → Type 0
  Short t = (e : ℕ) → short_by b p t ≡ Some e → shape_by b p t ≡ ends e

  by_tags : (t : ℕ) → Short t
  unfolding short_by shape_by
  by_tags t =
      arm Short t 97 (λ e h. let z : p + 2 ≡ e = cc in ap ends z)
      (arm Short t 98 (λ e h. let z : p + 5 ≡ e = cc in ap ends z)
      (arm Short t 70 (λ e h. let z : p + 9 ≡ e = cc in ap ends z)
      (arm Short t 106 (λ e h. let z : p + 1 ≡ e = cc in ap ends z)
      (arm Short t 119 (λ e h. let z : p + 2 + number_at 1 b (p + 1) ≡ e = cc in ap ends z)
      (arm Short t 109 (λ e h. let z : p + 5 + number_at 4 b (p + 1) ≡ e = cc in ap ends z)
      (arm Short t 82 (λ e h. let z : p + 2 ≡ e = cc in ap ends z)
      (λ n e h. let z : short_by b p t ≡ None = search none_of in absurd cc))))))) (tt {0})

  pub short-is : {e : ℕ} → short_at b p ≡ Some e → shape_at b p ≡ ends e
  unfolding short_at shape_at
  short-is {e} = go (inside b p)
    where
      go : (x : Bool) → cond x (short_by b p (get_or b p 0)) None ≡ Some e → cond x (shape_by b p (get_or b p 0)) (ends p) ≡ ends e
      go true h = by_tags (get_or b p 0) e h
      go false h = absurd cc

  -- a number that stands behind the tag is told there
  told : {k n : ℕ} {l : List ℕ} → Number k l n → Stands b (p + 1) l → number_at k b (p + 1) ≡ n
  told w s = number_of _ b (p + 1) (spells b (p + 1) s w)

  -- a number, i bytes more, and as many as the number says
  sized : {k m : ℕ} (i : ℕ) (n r : List ℕ) → Number k n m → length r ≡ m + i → Stands b (p + 1) (n ++ r) → ends (p + (1 + k + i) + number_at k b (p + 1)) ≡ ends (p + 1 + length (n ++ r))
  sized i n r w e s =
      let t = told w (left b (p + 1) n r s) in
      ap ends (simp length-append (omega (arith, w.wide)))

  -- a row without children, by what stands behind its tag
  leaf-is : {allow : Allowed} {tag : ℕ} {l : List ℕ} → Leaf allow tag l → Stands b (p + 1) l → shape_by b p tag ≡ ends (p + 1 + length l)
  unfolding shape_by
  leaf-is (layout.small_integer e) s = ap ends (omega arith)
  leaf-is (layout.integer e) s = ap ends (omega arith)
  leaf-is (layout.number_text y e t) s = ap ends (omega arith)
  leaf-is (layout.double e) s = ap ends (omega arith)
  leaf-is (layout.old_atom n name w u) s = sized 0 n name w (omega arith) s
  leaf-is (layout.atom n name w u) s = sized 0 n name w (omega arith) s
  leaf-is (layout.small_atom n name w u) s = sized 0 n name w (omega arith) s
  leaf-is layout.nil s = ap ends (omega arith)
  leaf-is (layout.string n r w) s = sized 0 n r w (omega arith) s
  leaf-is (layout.binary n r w c) s = sized 0 n r w (omega arith) s
  leaf-is (layout.bit_string n k r w c t) s = sized 1 n (k ∷ r) w (omega arith) s
  leaf-is (layout.small_big n sign r w) s = sized 1 n (sign ∷ r) w (omega arith) s
  leaf-is (layout.large_big n sign r w) s = sized 1 n (sign ∷ r) w (omega arith) s
  leaf-is (layout.position y k) s = ap ends (omega arith)

  -- shapes are one by their numbers
  alike : {n n' m m' q q' : ℕ} → q ≡ q' → n ≡ n' → m ≡ m' → inner q n m ≡ inner q' n' m'
  alike e f g = rw (e, f, g)

  -- any row: a count stands first in its front, but for a function's, which stands last
  row_is : {allow : Allowed} {x : Tree} → Laid allow x → Stands b (p + 1) (front_of x) → shape_by b p (tag_of x) ≡ shape_of x p
  unfolding shape_by count
  row_is (layout.row l) s = leaf-is l s
  row_is (layout.small_tuple w a) s = alike (omega (arith, w.wide)) (told w s) refl
  row_is (layout.large_tuple w c a) s = alike (omega (arith, w.wide)) (told w s) refl
  row_is (layout.list w c e a) s = let t = told w s in alike (omega (arith, w.wide)) (omega arith) refl
  row_is (layout.map w c e a) s = let t = told w s in alike (omega (arith, w.wide)) (omega arith) refl
  row_is (layout.pid a i e) s = alike (omega arith) refl (sym e)
  row_is (layout.reference w a i e) s = let t = told w s in alike (omega (arith, w.wide)) refl (omega arith)
  row_is (layout.port a i e) s = alike (omega arith) refl (sym e)
  row_is (layout.export a i a2 i2 a3 i3) s = alike (omega arith) refl refl
  row_is (layout.function f n {ts = ts} e w a i a2 i2 a3 i3 a4 i4 a5) s =
      let q : p + 1 + length f ≡ p + 26 = omega arith in
      let t : number_at 4 b (p + 26) ≡ count ts = ap (λ (k : ℕ). number_at 4 b k) (sym q) ∙ number_of 4 b _ (spells b (p + 1 + length f) (right b (p + 1) f n s) w) in
      alike (simp length-append (omega (arith, w.wide))) (omega arith) refl

-- the bytes of a term tell its shape
pub shape_is : {allow : Allowed} (b : List ℕ) (p : ℕ) (x : Tree) → length b ≤ cap.input → Laid allow x → Stands b p (bytes x) → shape_at b p ≡ shape_of x p
unfolding bytes
shape_is b p (node tag front kids back) l a s =
    let r = front ++ (bytes_all kids ++ back) in
    sym (by_tag_lem b p tag (record { within = omega (arith, s.inside); short = l; is = sym (byte b p tag r s) }) refl) ∙ row_is b p a (left b (p + 1) front (bytes_all kids ++ back) (behind b p tag r s))

-- a laid tree's children are laid
pub kids_laid : {allow : Allowed} {tag : ℕ} {front : List ℕ} {ts : Forest} {back : List ℕ} → Laid allow (node tag front ts back) → AllLaid allow ts
kids_laid (layout.row l) = layout.no_more
kids_laid (layout.small_tuple w a) = a
kids_laid (layout.large_tuple w c a) = a
kids_laid (layout.list w c e a) = a
kids_laid (layout.map w c e a) = a
kids_laid (layout.pid a i e) = layout.one_more a layout.no_more
kids_laid (layout.reference w a i e) = layout.one_more a layout.no_more
kids_laid (layout.port a i e) = layout.one_more a layout.no_more
kids_laid (layout.export a i a2 i2 a3 i3) = layout.one_more a (layout.one_more a2 (layout.one_more a3 layout.no_more))
kids_laid (layout.function f n e w a i a2 i2 a3 i3 a4 i4 a5) = layout.one_more a (layout.one_more a2 (layout.one_more a3 (layout.one_more a4 a5)))

-- one child, which has none
pub record OneLeaf (ts : Forest) : Type 0 where
  pub tag : ℕ
  pub front : List ℕ
  pub is : ts ≡ more (leaf tag front) none

-- an atom has no children
atom-leaf : {allow : Allowed} {x : Tree} → Laid allow x → IsAtom (tag_of x) → OneLeaf (more x none)
atom-leaf (layout.row {tag} {l} q) i = record { tag = tag; front = l; is = refl }
atom-leaf other i = elim i [ ]

-- bytes behind the children stand only behind one atom, which has no children
pub one-leaf : {allow : Allowed} {tag : ℕ} {front : List ℕ} {ts : Forest} {back : List ℕ} → Laid allow (node tag front ts back) → ¬ (back ≡ []) → OneLeaf ts
one-leaf (layout.row l) h = absurd (h refl)
one-leaf (layout.small_tuple w a) h = absurd (h refl)
one-leaf (layout.large_tuple w c a) h = absurd (h refl)
one-leaf (layout.list w c e a) h = absurd (h refl)
one-leaf (layout.map w c e a) h = absurd (h refl)
one-leaf (layout.pid a i e) h = atom-leaf a i
one-leaf (layout.reference w a i e) h = atom-leaf a i
one-leaf (layout.port a i e) h = atom-leaf a i
one-leaf (layout.export a i a2 i2 a3 i3) h = absurd (h refl)
one-leaf (layout.function f n e w a i a2 i2 a3 i3 a4 i4 a5) h = absurd (h refl)

-- runs of one length that stand at one place are one
same_run : {b : List ℕ} {p q : ℕ} {l m : List ℕ} → p ≡ q → length l ≡ length m → Stands b p l → Stands b q m → l ≡ m
same_run {b} e f s t = sym s.same ∙ rw (e, f) t.same

-- what stands at a place, the place written another way
moved : {b : List ℕ} {p q : ℕ} {l : List ℕ} → p ≡ q → Stands b p l → Stands b q l
moved {b} {l = l} e s = subst (λ (k : ℕ). Stands b k l) e s

mutual
  unfolding bytes count

  -- trees that stand at one place are one, whatever is allowed in each
  pub unique : {allow other : Allowed} (b : List ℕ) (p : ℕ) (x y : Tree) → length b ≤ cap.input → Laid allow x → Laid other y → Stands b p (bytes x) → Stands b p (bytes y) → x ≡ y
  unique b p (node tag front ts back) (node tag' front' ts' back') h a a' s s' =
      let e : shape_of (node tag front ts back) p ≡ shape_of (node tag' front' ts' back') p = sym (shape_is b p _ h a s) ∙ shape_is b p _ h a' s' in
      let t : tag ≡ tag' = sym (byte b p tag _ s) ∙ byte b p tag' _ s' in
      let r = behind b p tag (front ++ (bytes_all ts ++ back)) s in
      let r' = behind b p tag' (front' ++ (bytes_all ts' ++ back')) s' in
      let lf : p + 1 + length front ≡ p + 1 + length front' = ap (λ (g : Shape). g.from) e in
      let f : front ≡ front' = same_run refl (omega arith) (left b (p + 1) front _ r) (left b (p + 1) front' _ r') in
      let q = right b (p + 1) front (bytes_all ts ++ back) r in
      let q' = right b (p + 1) front' (bytes_all ts' ++ back') r' in
      let k : ts ≡ ts' = unique_all b (p + 1 + length front) ts ts' h (kids_laid a) (kids_laid a') (ap (λ (g : Shape). g.kids) e) (left b _ (bytes_all ts) back q) (moved (sym lf) (left b _ (bytes_all ts') back' q')) in
      let z : back ≡ back' = same_run (rw (k, f)) (ap (λ (g : Shape). g.back) e) (right b _ (bytes_all ts) back q) (right b _ (bytes_all ts') back' q') in
      rw (t, f, k, z)

  -- side by side, and as many
  unique_all : {allow other : Allowed} (b : List ℕ) (p : ℕ) (xs ys : Forest) → length b ≤ cap.input → AllLaid allow xs → AllLaid other ys → count xs ≡ count ys → Stands b p (bytes_all xs) → Stands b p (bytes_all ys) → xs ≡ ys
  unique_all b p none none h a a' e s s' = refl
  unique_all b p none (more y ys) h a a' e s s' = absurd (omega arith)
  unique_all b p (more x xs) none h a a' e s s' = absurd (omega arith)
  unique_all b p (more x xs) (more y ys) h (layout.one_more a k) (layout.one_more a' k') e s s' =
      let t : x ≡ y = unique b p x y h a a' (left b p (bytes x) (bytes_all xs) s) (left b p (bytes y) (bytes_all ys) s') in
      let u : xs ≡ ys = unique_all b (p + length (bytes x)) xs ys h k k' (omega arith) (right b p (bytes x) (bytes_all xs) s) (moved (rw t) (right b p (bytes y) (bytes_all ys) s')) in
      rw (t, u)
