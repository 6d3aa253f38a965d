-- What is computed is what the words say: an equal key, the last of them, and the answer. Assumes nothing.
use Prim.Native.Nat.{ℕ, zero, suc, ◌+◌, ◌*◌}
use native.Mathlib.Omega.{arith}
use mathlib.Core.Path.{◌≡◌, refl, sym, subst, ◌∙◌}
use mathlib.Core.List.{List, []}
use mathlib.Core.Bool.{Bool, true, false, cond, ◌||◌}
use lib.Dec.{eqb}
use lib.IntN.{pos}
use lib.ListN.{length, drop}
use borrow.Author.Tests.{eqb-true, eqb-false, ne_eqb}
use Rattle.std.specs.Prelude.{Option, Some, None}
use Rattle.std.specs.Option.{option_or}
use Rattle.std.specs.Ordering.{int_eq}
use Rattle.std.specs.Str.{bytes_eq}
use Rattle.std.proofs.lemmas.Bool.Decides.{Decides-int_eq}
use Rattle.std.proofs.lemmas.Slice.Eq.{bytes_eq-Decides}
use Rattle.fields.specs.Be.{be, signed}
use Rattle.numbers.specs.Numbers as answer
use Rattle.reading.specs.Told.{Told}
use Rattle.reading.specs.Answer.{refusal}
use Rattle.layouts.specs.Tree.{Tree, Forest, node, none, more, count, bytes, tag_of}
use Rattle.lookup.specs.Lookup.{Key, name, number, Equal, atom_119, atom_100, atom_118, integer_97, integer_98}
use Rattle.lookup.specs.Lookup.{Without, no_pairs, one_more, Last, first, later, Answers, is_found, is_absent, no_map}
use Rattle.lookup.specs.Inner.Found.{equal, found, Says, told, looked}

-- the children of a term
abbrev pub kids_of : Tree → Forest
kids_of (node tag front kids back) = kids

-- a key that is told to be equal is
is-equal : (k : Key) (t : Tree) → equal k t ≡ true → Equal k t
unfolding equal
is-equal (name s) (node tag front kids back) = go (eqb tag 119) (eqb tag 100) (eqb tag 118) refl refl refl
  where
    long : {t : ℕ} → bytes_eq (drop 2 front) s ≡ true → Equal (name (drop 2 front)) (node t front kids back) → Equal (name s) (node t front kids back)
    long {t} h e = subst (λ (l : List ℕ). Equal (name l) (node t front kids back)) ((bytes_eq-Decides (drop 2 front) s).0 h) e

    go : (x y z : Bool) → eqb tag 119 ≡ x → eqb tag 100 ≡ y → eqb tag 118 ≡ z → cond x (bytes_eq (drop 1 front) s) (cond (y || z) (bytes_eq (drop 2 front) s) false) ≡ true → Equal (name s) (node tag front kids back)
    go true y z e f g h = rw (eqb-true tag 119 e) (subst (λ (l : List ℕ). Equal (name l) (node 119 front kids back)) ((bytes_eq-Decides (drop 1 front) s).0 h) atom_119)
    go false true z e f g h = rw (eqb-true tag 100 f) (long h atom_100)
    go false false true e f g h = rw (eqb-true tag 118 g) (long h atom_118)
    go false false false e f g h = absurd (let z : ◌≡◌ {A = ℕ} 0 1 = cc in omega arith)
is-equal (number z) (node tag front kids back) = go (eqb tag 97) (eqb tag 98) refl refl
  where
    go : (x y : Bool) → eqb tag 97 ≡ x → eqb tag 98 ≡ y → cond x (int_eq (pos (be front)) z) (cond y (int_eq (signed (be front)) z) false) ≡ true → Equal (number z) (node tag front kids back)
    go true y e f h = rw (eqb-true tag 97 e, ← (Decides-int_eq (pos (be front)) z).0 h) integer_97
    go false true e f h = rw (eqb-true tag 98 f, ← (Decides-int_eq (signed (be front)) z).0 h) integer_98
    go false false e f h = absurd (let z : ◌≡◌ {A = ℕ} 0 1 = cc in omega arith)

-- and one that is equal is told to be
told-equal : {k : Key} {t : Tree} → Equal k t → equal k t ≡ true
unfolding equal
told-equal (atom_119 {l}) = (bytes_eq-Decides (drop 1 l) _).1 refl
told-equal (atom_100 {l}) = (bytes_eq-Decides (drop 2 l) _).1 refl
told-equal (atom_118 {l}) = (bytes_eq-Decides (drop 2 l) _).1 refl
told-equal (integer_97 {l}) = (Decides-int_eq (pos (be l)) _).1 refl
told-equal (integer_98 {l}) = (Decides-int_eq (signed (be l)) _).1 refl

unequal : (k : Key) (t : Tree) → equal k t ≡ false → ¬ Equal k t
unequal k t h e = let z : true ≡ false = sym (told-equal e) ∙ h in absurd (let y : ◌≡◌ {A = ℕ} 0 1 = cc in omega arith)

told_unequal : (k : Key) (t : Tree) → ¬ Equal k t → equal k t ≡ false
told_unequal k t h = go (equal k t) refl
  where
    go : (x : Bool) → equal k t ≡ x → equal k t ≡ false
    go true e = absurd (h (is-equal k t e))
    go false e = e

module _ (k : Key) where
  -- what is found in m pairs is what the words say
  pub found_says : (m p : ℕ) (ts : Forest) → count ts ≡ 2 * m → Says k p ts (found k p ts)
  unfolding count found
  found_says zero p none c = no_pairs
  found_says zero p (more x ts) c = absurd (omega arith)
  found_says (suc m) p none c = absurd (omega arith)
  found_says (suc m) p (more x none) c = absurd (omega arith)
  found_says (suc m) p (more x (more y ts)) c = go (found k p' ts) (equal k x) refl (found_says m p' ts (omega arith))
    where
      p' : ℕ
      p' = p + length (bytes x) + length (bytes y)

      go : (o : Option ℕ) (e : Bool) → equal k x ≡ e → Says k p' ts o → Says k p (more x (more y ts)) (option_or o (cond e (Some (p + length (bytes x))) None))
      go (Some q) e f s = later s
      go None true f s = first (is-equal k x f) s refl
      go None false f s = one_more (unequal k x f) s

  -- and the words say it of nothing else
  none_found : {ts : Forest} (p : ℕ) → Without k ts → found k p ts ≡ None
  unfolding found
  none_found p no_pairs = refl
  none_found p (one_more {x} e w) = rw (none_found _ w, told_unequal k x e)

  last_found : {q p : ℕ} {ts : Forest} → Last k q p ts → found k p ts ≡ Some q
  unfolding found
  last_found (first e w f) = rw (none_found _ w, told-equal e, f)
  last_found (later l) = rw (last_found l)

  pub says_found : (o : Option ℕ) (p : ℕ) (ts : Forest) → Says k p ts o → found k p ts ≡ o
  says_found (Some q) p ts s = last_found s
  says_found None p ts s = none_found p s

  -- the answer, of a term whose children come in pairs where it is a map
  module _ (at : ℕ) (a : Told) where
    says_told : {front back : List ℕ} {kids : Forest} (o : Option ℕ) → Says k (at + 1 + length front) kids o → Answers k at a (node 116 front kids back) (told at a o)
    says_told (Some q) s = is_found s
    says_told None s = is_absent s

    pub answered : (t : Tree) (m : ℕ) → (tag_of t ≡ 116 → count (kids_of t) ≡ 2 * m) → Answers k at a t (looked k at t a)
    unfolding looked
    answered (node tag front kids back) m even = go (eqb tag 116) refl
      where
        go : (x : Bool) → eqb tag 116 ≡ x → Answers k at a (node tag front kids back) (looked k at (node tag front kids back) a)
        go true e = let f = eqb-true tag 116 e in rw f (says_told (found k (at + 1 + length front) kids) (found_says m (at + 1 + length front) kids (even f)))
        go false e = rw e (no_map (eqb-false tag 116 e))

    pub one-looked : {t : Tree} {r : Told} → Answers k at a t r → r ≡ looked k at t a
    unfolding looked
    one-looked (is_found l) = rw (last_found l)
    one-looked (is_absent w) = rw (none_found _ w)
    one-looked (no_map {t} h) = other t h
      where
        other : (t : Tree) (h : ¬ (tag_of t ≡ 116)) → refusal answer.Kind at (tag_of t) a.begun a.deepest [] ≡ looked k at t a
        other (node tag front kids back) h = rw (ne_eqb tag 116 h)
