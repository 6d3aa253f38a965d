-- Rows that are found the short way: the ways that `short_end` can go, and that the row at a place ends there. Assumes nothing.
use Prim.Native.Nat.{ℕ, zero, suc, ◌+◌, ◌≤◌, ◌<◌}
use native.Mathlib.Omega.{arith}
use native.Mathlib.Nat.{le_refl}
use mathlib.Core.Path.{◌≡◌, refl, ap, sym, ◌∙◌}
use mathlib.Core.Logic.{◌↔◌}
use mathlib.Core.List.{List}
use mathlib.Core.Bool.{Bool, true, false, cond, ◌&&◌}
use borrow.Author.Tests.{ltb-true, lt-ltb, leb-true, le-leb, lt-leb, eqb-true, eqb-false}
use lib.Dec.{eqb, leb, ltb}
use lib.ListN.{length, get_or}
use Rattle.numbers.specs.Caps as cap
use Rattle.numbers.proofs.Laws.{none_of, arm}
use Rattle.fields.specs.Field.{holds, field_at, number_at}
use Rattle.std.specs.Prelude.{Some, None, Ok}
use Rattle.fields.proofs.Laws.{there, is-there, field_is, at_there, then_is}
use Rattle.utf8.specs.Inner.Check.{Plain}
use Rattle.utf8.proofs.Laws.{ascii_good}
use Rattle.rows.specs.Row.{bytes, name, sized, counted}
use Rattle.numbers.specs.Allowed.{Allowed}
use Rattle.rows.specs.Layout.{leaf_at, row_at}
use Rattle.shortcut.specs.Inner.Short.{plain, short_name, short_binary, short_by, short_end}
use Rattle.rows.proofs.Laws.{bytes-there, name-good, count_in, counted_is, plain-leaf}
use Rattle.rows.proofs.Ends.{row_within}

module _ (b : List ℕ) where
  -- bytes of ASCII, by a test and by what it says
  plain_by : (p n : ℕ) → Plain b p (p + n) → plain b p n ≡ true
  unfolding plain
  plain_by p zero h = refl
  plain_by p (suc n) h =
      rw (lt-ltb (get_or b p 0) 0x80 (h.low p (le_refl p) (omega arith)))
      (plain_by (p + 1) n (record { order = omega arith; within = omega (arith, h.within); low = λ k i l. h.low k (omega arith) (omega arith) }))

  plain-low : (p n : ℕ) → plain b p n ≡ true → (k : ℕ) → p ≤ k → k < p + n → get_or b k 0 < 0x80
  unfolding plain
  plain-low p zero h k i l = absurd (omega arith)
  plain-low p (suc n) h k i l = go (plain-low (p + 1) n) (ltb (get_or b p 0) 0x80) refl h (eqb k p) refl
    where
      go : (plain b (p + 1) n ≡ true → (k : ℕ) → p + 1 ≤ k → k < p + 1 + n → get_or b k 0 < 0x80) →
          (x : Bool) → ltb (get_or b p 0) 0x80 ≡ x → (x && plain b (p + 1) n) ≡ true → (y : Bool) → eqb k p ≡ y → get_or b k 0 < 0x80
      go rest true e f true g = rw (eqb-true k p g) (ltb-true _ _ e)
      go rest true e f false g = rest f k (omega (arith, eqb-false k p g)) (omega arith)
      go rest false e f y g = absurd cc

  plain-there : (p n : ℕ) → holds n b p ≡ true → plain b p n ≡ true → Plain b p (p + n)
  plain-there p n h k = record { order = omega arith; within = there n b p h; low = plain-low p n k }

  -- what is true just where they are ASCII is the test
  plain-is : (p n : ℕ) (x : Bool) → (x ≡ true) ↔ Plain b p (p + n) → x ≡ (holds n b p && plain b p n)
  plain-is p n true f = let q = f.0 refl in rw (is-there n b p q.within, plain_by p n q)
  plain-is p n false f = go (holds n b p) refl (plain b p n) refl
    where
      go : (y : Bool) → holds n b p ≡ y → (z : Bool) → plain b p n ≡ z → false ≡ (y && z)
      go true h true k = f.1 (plain-there p n h k)
      go true h false k = refl
      go false h z k = refl

module _ (b : List ℕ) (p : ℕ) where
  pub short_tag : (tag : ℕ) → p + 10 ≤ length b → get_or b p 0 ≡ tag → short_by b p tag ≡ short_end b p
  unfolding short_end
  short_tag tag h e = rw (le-leb (p + 10) (length b) h, e)

  -- any other tag
  pub other : p + 10 ≤ length b → None ≡ short_by b p (get_or b p 0) → None ≡ short_end b p
  other h e = e ∙ short_tag _ h refl

  pub short_far : length b < p + 10 → None ≡ short_end b p
  unfolding short_end
  short_far h = rw (lt-leb (p + 10) (length b) h)

  -- by the test that is made of so many bytes
  pub name_by : {n : ℕ} → n ≡ number_at 1 b (p + 1) → {x : Bool} → (x ≡ true) ↔ Plain b (p + 2) (p + 2 + n) → (y : Bool) → x ≡ y → cond y (Some (p + 2 + n)) None ≡ short_name b p
  unfolding short_name
  name_by {n} e {x} f y g =
      ap (λ (z : Bool). cond z (Some (p + 2 + n)) None) (sym g ∙ plain-is b (p + 2) n x f)
      ∙ ap (λ (m : ℕ). cond (holds m b (p + 2) && plain b (p + 2) m) (Some (p + 2 + m)) None) e

  pub binary_by : {n : ℕ} → n ≡ number_at 4 b (p + 1) → (y : Bool) → holds n b (p + 5) ≡ y → cond y (Some (p + 5 + n)) None ≡ short_binary b p
  unfolding short_binary
  binary_by {n} e y g = ap (λ (z : Bool). cond z (Some (p + 5 + n)) None) (sym g) ∙ ap (λ (m : ℕ). cond (holds m b (p + 5)) (Some (p + 5 + m)) None) e

  -- the rows
  module _ (room : p + 10 ≤ length b) (size : length b ≤ cap.input) where
    some : (k x e : ℕ) → k ≤ 8 → p + 1 + k ≡ x → Some x ≡ Some e → bytes b k (p + 1) ≡ Ok e
    some k x e h i j = let q : x ≡ e = cc in sym (bytes-there b k (p + 1) (is-there k b (p + 1) (omega arith))) ∙ ap Ok (i ∙ q)

    whole : (k : ℕ) → k ≤ 8 → field_at k b (p + 1) ≡ Some (number_at k b (p + 1))
    whole k h = sym (field_is k b (p + 1) (is-there k b (p + 1) (omega arith)) (at_there k b (p + 1) (omega arith)))

    name-row : (e : ℕ) → short_name b p ≡ Some e → sized 1 b (name b) (p + 1) ≡ Ok e
    unfolding short_name
    name-row e = go (holds n b (p + 2)) refl (plain b (p + 2) n) refl
      where
        n : ℕ
        n = number_at 1 b (p + 1)

        go : (x : Bool) → holds n b (p + 2) ≡ x → (y : Bool) → plain b (p + 2) n ≡ y → cond (x && y) (Some (p + 2 + n)) None ≡ Some e → sized 1 b (name b) (p + 1) ≡ Ok e
        go true i true f h =
            let q : p + 1 + 1 ≡ p + 2 = omega arith in
            let z : p + 2 + n ≡ e = cc in
            then_is 1 b (p + 1) _ _ (whole 1 (omega arith)) ∙ rw q (sym (name-good b n (p + 2) i (ascii_good (plain-there b (p + 2) n i f))) ∙ ap Ok z)
        go true i false f h = absurd cc
        go false i y f h = absurd cc

    binary-row : (e : ℕ) → short_binary b p ≡ Some e → counted cap.binary b (bytes b) (p + 1) ≡ Ok e
    unfolding short_binary
    binary-row e = go (holds n b (p + 5)) refl
      where
        n : ℕ
        n = number_at 4 b (p + 1)

        go : (x : Bool) → holds n b (p + 5) ≡ x → cond x (Some (p + 5 + n)) None ≡ Some e → counted cap.binary b (bytes b) (p + 1) ≡ Ok e
        go true i h =
            let q : p + 1 + 4 ≡ p + 5 = omega arith in
            let z : p + 5 + n ≡ e = cc in
            counted_is cap.binary b (p + 1) _ _ (count_in cap.binary b (p + 1) (whole 4 (omega arith)) (omega (arith, there n b (p + 5) i))) ∙ rw q (sym (bytes-there b n (p + 5) i) ∙ ap Ok z)
        go false i h = absurd cc

    abbrev Row : ℕ → Type 0
    Row t = (e : ℕ) → short_by b p t ≡ Some e → (allow : Allowed) → leaf_at allow b t (p + 1) ≡ Ok e

    by_tags : (t : ℕ) → Row t
    unfolding short_by leaf_at row_at
    by_tags t =
        arm Row t 97 (λ e h _. some 1 _ e (omega arith) (omega arith) h)
        (arm Row t 98 (λ e h _. some 4 _ e (omega arith) (omega arith) h)
        (arm Row t 70 (λ e h _. some 8 _ e (omega arith) (omega arith) h)
        (arm Row t 106 (λ e h _. let z : p + 1 ≡ e = cc in ap Ok z)
        (arm Row t 119 (λ e h _. name-row e h)
        (arm Row t 109 (λ e h _. binary-row e h)
        (λ n e h. let z : short_by b p t ≡ None = search none_of in absurd cc)))))) (tt {0})

-- the row whose tag stands at p ends at e, whatever is allowed
pub record ShortRow (b : List ℕ) (p e : ℕ) : Type 0 where
  pub same : (allow : Allowed) → leaf_at allow b (get_or b p 0) (p + 1) ≡ Ok e
  pub after : p < e
  pub inside : e ≤ length b

pub short_row : (b : List ℕ) (p : ℕ) {e : ℕ} → length b ≤ cap.input → short_end b p ≡ Some e → ShortRow b p e
unfolding short_end
short_row b p {e} size = go (leb (p + 10) (length b)) refl
  where
    go : (x : Bool) → leb (p + 10) (length b) ≡ x → cond x (short_by b p (get_or b p 0)) None ≡ Some e → ShortRow b p e
    go true i h =
        let room = leb-true _ _ i in
        let s = by_tags b p room size (get_or b p 0) e h in
        let w = row_within b (get_or b p 0) (p + 1) (sym (plain-leaf b (get_or b p 0) (p + 1)) ∙ s _) (omega arith) in
        record { same = s; after = omega arith; inside = w.1 }
    go false i h = absurd cc
