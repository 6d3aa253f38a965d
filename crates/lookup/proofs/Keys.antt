-- Comparing a key that is known to stand at a place: what its bytes there say of it, by its tag. Assumes nothing.
use Prim.Native.Nat.{ℕ, ◌+◌, ◌-◌, ◌≤◌, ◌<◌}
use native.Mathlib.Omega.{arith}
use mathlib.Core.Path.{◌≡◌, refl, ap, sym, ◌∙◌, subst}
use mathlib.Core.List.{List, [], ◌++◌}
use mathlib.Core.Bool.{false}
use mathlib.Core.Logic.{◌⊎◌, inl, inr, ⊎_elim}
use lib.Dec.{eqb}
use lib.IntN.{ℤ, pos}
use lib.ListN.{length, get_or, take, drop, length-append}
use lib.Seq.{drop_at}
use mir.Syntax.{w64}
use mir.Val.{SFits, of_z}
use borrow.Author.Tests.{ne_eqb}
use Rattle.std.specs.Ordering.{int_eq}
use Rattle.std.specs.Str.{bytes_eq}
use Rattle.numbers.specs.Allowed.{plain}
use Rattle.fields.specs.Be.{be, be_at, signed}
use Rattle.fields.specs.Field.{number_at}
use Rattle.fields.proofs.Laws.{at_there, be-one}
use Rattle.layouts.specs.Tree.{Tree, node, leaf, tag_of, bytes, Stands}
use Rattle.layouts.specs.Layout.{Laid, row, small_integer, integer, old_atom, atom, small_atom}
use Rattle.layouts.proofs.Stands.{left, right, byte, behind}
use Rattle.lookup.specs.Lookup.{name, number}
use Rattle.lookup.specs.Inner.Found.{equal}
use Rattle.lookup.specs.Inner.Walk.{Term, Ends}
use Rattle.lookup.proofs.Compare.{by_bits}

-- the tag k, and no other; the tags of a name behind a length of two bytes
data Only (k : ℕ) : ℕ → Type 0 where
  it : Only k k

data Long : ℕ → Type 0 where
  old : Long 100
  new : Long 118

-- keys with other tags aren't compared
no-atom : (s : List ℕ) (t : Tree) → ¬ (tag_of t ≡ 119) → ¬ (tag_of t ≡ 100) → ¬ (tag_of t ≡ 118) → equal (name s) t ≡ false
unfolding equal
no-atom s (node tag front kids back) f g h = rw (ne_eqb tag 119 f, ne_eqb tag 100 g, ne_eqb tag 118 h)

no-integer : (z : ℤ) (t : Tree) → ¬ (tag_of t ≡ 97) → ¬ (tag_of t ≡ 98) → equal (number z) t ≡ false
unfolding equal
no-integer z (node tag front kids back) f g = rw (ne_eqb tag 97 f, ne_eqb tag 98 g)

-- from a place on, to e, stands the name of the key t
pub record Named (b : List ℕ) (from e : ℕ) (t : Tree) : Type 0 where
  pub within : from ≤ e
  pub inside : e ≤ length b
  pub tells : (s : List ℕ) → bytes_eq (take (e - from) (drop from b)) s ≡ equal (name s) t

-- the first byte is the tag
first : {b : List ℕ} {p : ℕ} (t : Tree) → Stands b p (bytes t) → (get_or b p 0 ≡ tag_of t) × (p < length b)
unfolding bytes
first {b} {p} (node tag front kids back) s = (byte b p tag _ s, omega (arith, s.inside))

module _ {b : List ℕ} {p : ℕ} where
  -- the front of a term without children
  front_at : (tag : ℕ) (l : List ℕ) → Stands b p (bytes (leaf tag l)) → Stands b (p + 1) l
  unfolding bytes
  front_at tag l s = left b (p + 1) l [] (behind b p tag (l ++ []) s)

  -- a name behind a length of k bytes
  name-at : {from e : ℕ} (tag k : ℕ) (n m : List ℕ) → length n ≡ k → p + 1 + k ≡ from → e ≡ p + length (bytes (leaf tag (n ++ m))) → Stands b p (bytes (leaf tag (n ++ m))) →
      ((s : List ℕ) → equal (name s) (leaf tag (n ++ m)) ≡ bytes_eq (drop k (n ++ m)) s) → Named b from e (leaf tag (n ++ m))
  unfolding bytes
  name-at {from} {e} tag k n m w f g x h =
      let y = right b (p + 1) n m (front_at tag (n ++ m) x) in
      let l : e ≡ from + length m = g ∙ simp length-append (omega arith) in
      let i : e - from ≡ length m = omega arith in
      let j : from ≡ p + 1 + length n = omega arith in
      let q : take (e - from) (drop from b) ≡ drop k (n ++ m) = rw (i, j) y.same ∙ sym (drop_at n m k w) in
      record { within = omega arith; inside = omega (arith, y.inside); tells = λ s. ap (λ (r : List ℕ). bytes_eq r s) q ∙ sym (h s) }

  short-at : {e : ℕ} {t : Tree} → Laid plain t → Only 119 (tag_of t) → e ≡ p + length (bytes t) → Stands b p (bytes t) → Named b (p + 2) e t
  unfolding equal
  short-at (row (small_atom n m w u)) it f x = name-at 119 1 n m w.wide (omega arith) f x (λ s. refl)
  short-at l other f x = elim other [ ]

  long-at : {e : ℕ} {t : Tree} → Laid plain t → Long (tag_of t) → e ≡ p + length (bytes t) → Stands b p (bytes t) → Named b (p + 3) e t
  unfolding equal
  long-at (row (old_atom n m w u)) old f x = name-at 100 2 n m w.wide (omega arith) f x (λ s. refl)
  long-at (row (atom n m w u)) new f x = name-at 118 2 n m w.wide (omega arith) f x (λ s. refl)
  long-at l other f x = elim other [ ]

  -- the number behind the tag is the front's
  number-is : (tag k : ℕ) (l : List ℕ) → length l ≡ k → Stands b p (bytes (leaf tag l)) → (p + 1 + k ≤ length b) × (be_at k b (p + 1) ≡ be l)
  unfolding be_at
  number-is tag k l w x =
      let y = front_at tag l x in
      (omega (arith, y.inside), ap be (ap (λ (j : ℕ). take j (drop (p + 1) b)) (sym w) ∙ y.same))

  byte_at : {t : Tree} → Laid plain t → Only 97 (tag_of t) → Stands b p (bytes t) → (p + 1 < length b) × ((z : ℤ) → int_eq (pos (get_or b (p + 1) 0)) z ≡ equal (number z) t)
  unfolding equal
  byte_at (row (small_integer {l} w)) it x =
      let (h, g) = number-is 97 1 l w x in
      let e : get_or b (p + 1) 0 ≡ be l = sym (be-one b (p + 1) (omega arith)) ∙ g in
      (omega arith, λ z. rw e)
  byte_at l other x = elim other [ ]

  word_at : {t : Tree} → Laid plain t → Only 98 (tag_of t) → Stands b p (bytes t) → (z : ℤ) → int_eq (signed (number_at 4 b (p + 1))) z ≡ equal (number z) t
  unfolding equal
  word_at (row (integer {l} w)) it x z =
      let (h, g) = number-is 98 4 l w x in
      rw (at_there 4 b (p + 1) h, g)
  word_at l other x z = elim other [ ]

-- the key t at p, by its first byte
module _ {b : List ℕ} {p : ℕ} {t : Tree} (i : Term b p t) where
  pub tag_is : get_or b p 0 ≡ tag_of t
  tag_is = (first t i.stands).0

  pub is-inside : p < length b
  is-inside = (first t i.stands).1

  only : {k : ℕ} → get_or b p 0 ≡ k → Only k (tag_of t)
  only {k} h = subst (Only k) (sym h ∙ tag_is) it

  -- a name, to the key's end
  pub short-name : {e : ℕ} → Ends b p e → get_or b p 0 ≡ 119 → Named b (p + 2) e t
  short-name f h = short-at i.laid (only h) (f.is t i) i.stands

  pub long-name : {e : ℕ} → Ends b p e → (get_or b p 0 ≡ 100) ⊎ (get_or b p 0 ≡ 118) → Named b (p + 3) e t
  long-name f h =
      let l = ⊎_elim (λ e. subst Long (sym e ∙ tag_is) old) (λ e. subst Long (sym e ∙ tag_is) new) h in
      long-at i.laid l (f.is t i) i.stands

  -- an integer, as its bits are compared
  pub byte_inside : get_or b p 0 ≡ 97 → p + 1 < length b
  byte_inside h = (byte_at i.laid (only h) i.stands).0

  pub byte_tells : get_or b p 0 ≡ 97 → {y z : ℤ} → y ≡ pos (get_or b (p + 1) 0) → SFits w64 y → SFits w64 z → eqb (of_z w64 y) (of_z w64 z) ≡ equal (number z) t
  byte_tells h {y} {z} e f g = by_bits f g ∙ ap (λ (v : ℤ). int_eq v z) e ∙ (byte_at i.laid (only h) i.stands).1 z

  pub word_tells : get_or b p 0 ≡ 98 → {y z : ℤ} → y ≡ signed (number_at 4 b (p + 1)) → SFits w64 y → SFits w64 z → eqb (of_z w64 y) (of_z w64 z) ≡ equal (number z) t
  word_tells h {y} {z} e f g = by_bits f g ∙ ap (λ (v : ℤ). int_eq v z) e ∙ word_at i.laid (only h) i.stands z

  -- with another tag it isn't compared
  pub not-atom : (s : List ℕ) → ¬ (get_or b p 0 ≡ 119) → ¬ ((get_or b p 0 ≡ 100) ⊎ (get_or b p 0 ≡ 118)) → equal (name s) t ≡ false
  not-atom s f g = no-atom s t (λ h. f (tag_is ∙ h)) (λ h. g (inl (tag_is ∙ h))) (λ h. g (inr (tag_is ∙ h)))

  pub not-integer : (z : ℤ) → ¬ (get_or b p 0 ≡ 97) → ¬ (get_or b p 0 ≡ 98) → equal (number z) t ≡ false
  not-integer z f g = no-integer z t (λ h. f (tag_is ∙ h)) (λ h. g (tag_is ∙ h))
