-- Over the definition alone: a reading that ends at e is the same over every list that has the same first e bytes. Assumes nothing.
use Prim.Native.Nat.{ℕ, zero, suc, ◌+◌, ◌-◌, ◌≤◌, ◌<◌}
use native.Mathlib.Omega.{arith}
use native.Mathlib.Nat.{le_trans, le_refl}
use mathlib.Core.Path.{◌≡◌, refl, ap, sym, ◌∙◌}
use mathlib.Core.List.{List, []}
use mathlib.Core.Bool.{Bool, true, false, cond}
use borrow.Author.Tests.{ltb-true, ltb-false, lt-ltb, eqb-true}
use lib.Dec.{ltb, leb, eqb}
use lib.ListN.{length, get_or, take}
use Rattle.fields.specs.Be.{be_at}
use Rattle.fields.specs.Field.{field_at, number_at}
use Rattle.std.specs.Prelude.{Option, Some, None, Ok, Err}
use Rattle.std.specs.Prelude as std
use Rattle.numbers.specs.declared.Refusal.{Refusal}
use Rattle.fields.proofs.Laws.{is-there, field_is, is_whole}
use Rattle.fields.proofs.Laws as field
use Rattle.numbers.specs.Numbers as number
use Rattle.numbers.specs.Refusal.{number_of, extra_of}
use Rattle.numbers.specs.Allowed.{Allowed}
use Rattle.rows.specs.Row.{count_at}
use Rattle.rows.specs.Row as row
use Rattle.rows.proofs.Laws.{count_in, count-is}
use Rattle.rows.specs.Layout.{leaf_at, row_at}
use Rattle.rows.specs.Row.{Row}
use Rattle.reading.specs.declared.Kind.{Kind}
use Rattle.reading.specs.Reading.{State, Result, done, no, and_then, entered, moved, reach, begin, refused, fields, pass, sized, counted}
use Rattle.reading.specs.Terms.{required, is_atom, is_natural, is_pid, body, term}
use Rattle.rows.proofs.Ends.{Agree, agree_less, agree_length, agree_byte, agree_field, Near, bytes-to, near_bytes, near_leaf}
use Rattle.reading.proofs.Keeps.{Judge, atom, natural, process, fits, Alike, of_body}
use Rattle.reading.proofs.Families.{sized-is, sized_eof, counted_is, counted-no}
use Rattle.reading.proofs.Bounds.{started, ends}

module _ (allow : Allowed) (b c : List ℕ) where
  -- reading from s that goes on from t goes on so over c, if the two lists agree up to t
  abbrev Beside : State → Result → Result → Type 0
  Beside s (done t) q = (s.at ≤ t.at) × (t.at ≤ length b) × (Agree b c t.at → q ≡ done t)
  Beside s (no n x t p) q = Unit {0}

  -- and a child that is there is judged so too
  abbrev Judged : State → Result → Type 0
  Judged s (done t) = (j : Judge) → Agree b c t.at → fits j b s.at ≡ fits j c s.at
  Judged s (no n x t p) = Unit {0}

  abbrev From : State → Result → Result → Type 0
  From s o q = s.at ≤ length b → Beside s o q

  abbrev Child : State → Result → Result → Type 0
  Child s o q = s.at ≤ length b → Beside s o q × Judged s o

  -- a reading that starts later
  later : (s t : State) (o q r : Result) → s.at ≤ t.at → (Agree b c t.at → r ≡ q) → Beside t o q → Beside s o r
  later s t (done u) q r h k n = (le_trans h n.0, n.1, λ a. k (agree_less a n.0) ∙ n.2 a)
  later s t (no m x u p) q r h k n = tt

  enters : (k : Kind) (i : ℕ) (s : State) (o q : Result) → Child s o q → From s (entered k i o) (entered k i q)
  unfolding entered
  enters k i s (done t) q h l = let (m, n, p) = (h l).0 in (m, n, λ a. ap (entered k i) (p a))
  enters k i s (no n x t p) q h l = tt

  joins : (s : State) (o q : Result) (f g : State → Result) → From s o q → ((t : State) → From t (f t) (g t)) → From s (and_then o f) (and_then q g)
  unfolding and_then
  joins s (done t) q f g h k l = let (m, n, p) = h l in later s t (f t) (g t) (and_then q g) m (λ a. ap (λ (r : Result). and_then r g) (p a)) (k t n)
  joins s (no n x t p) q f g h k l = tt

  judges : (j : Judge) (s : State) (o q : Result) → Child s o q →
      From s (and_then o (λ t. cond (fits j b s.at) (done t) (refused number.Tag t))) (and_then q (λ t. cond (fits j c s.at) (done t) (refused number.Tag t)))
  unfolding and_then
  judges j s (no n x t p) q h l = tt
  judges j s (done t) q h l = go (fits j b s.at) refl
    where
      go : (x : Bool) → fits j b s.at ≡ x → Beside s (cond x (done t) (refused number.Tag t)) (and_then q (λ t. cond (fits j c s.at) (done t) (refused number.Tag t)))
      go true e = ((h l).0.0, (h l).0.1, λ a. rw ((h l).0.2 a, ← (h l).1 j a, e))
      go false e = tt

  reads : (s : State) (r q : Row) → Near b c s.at r q → From s (fields r s) (fields q s)
  unfolding fields
  reads s (Ok e) q h l = (h.0, h.1 l, λ a. ap (λ (r : Row). fields r s) (h.2 a))
  reads s (Err r) q h l = tt

  counts : (k : ℕ) (s : State) (f g : ℕ → State → Result) → ((n : ℕ) (t : State) → From t (f n t) (g n t)) → From s (sized k b f s) (sized k c g s)
  counts k s f g h l = go (field_at k b s.at) refl
    where
      go : (x : Option ℕ) → field_at k b s.at ≡ x → Beside s (sized k b f s) (sized k c g s)
      go (Some n) e =
          let t = moved (s.at + k) s in
          rw (sized-is k b f s e) (later s t (f n t) (g n t) (sized k c g s) (omega arith) (λ a. sized-is k c g s (agree_field k s.at a e)) (h n t (is_whole k b s.at e).0))
      go None e = rw (sized_eof k b f s e) tt

  caps : (most : ℕ) (s : State) (f g : ℕ → State → Result) → ((n : ℕ) (t : State) → From t (f n t) (g n t)) → From s (counted most b f s) (counted most c g s)
  caps most s f g h l = go (count_at most b s.at) refl
    where
      go : (x : std.Result ℕ Refusal) → count_at most b s.at ≡ x → Beside s (counted most b f s) (counted most c g s)
      go (Ok n) e =
          let t = moved (s.at + 4) s in
          let (i, k) = count-is most b s.at e in
          rw (counted_is most b f s e) (later s t (f n t) (g n t) (counted most c g s) (omega arith)
          (λ a. counted_is most c g s (count_in most c s.at (agree_field 4 s.at a i) k)) (h n t (is_whole 4 b s.at i).0))
      go (Err n) e = rw (counted-no most b f s e) tt

  alike : Alike allow b c Child From
  unfolding pass required
  alike = record {
    enters = enters;
    joins = joins;
    judges = λ j s f g h. judges j s (f s) (g s) (h s);
    ends = λ s l. (le_refl s.at, l, λ a. refl);
    caps = caps;
    counts = counts;
    passes = λ n s. reads s (row.bytes b n s.at) (row.bytes c n s.at) (near_bytes b c n s.at);
    leaves = λ tag s. reads s (leaf_at allow b tag s.at) (leaf_at allow c tag s.at) (near_leaf b c allow tag s.at);
  }

  -- what a child is judged by lies within it

  same_number : (k p e : ℕ) → p + k ≤ e → e ≤ length b → Agree b c e → number_at k b p ≡ number_at k c p
  same_number k p e h l a =
      let i : field_at k b p ≡ Some (be_at k b p) = sym (field_is k b p (is-there k b p (le_trans h l)) refl) in
      field.number_of k b p i ∙ sym (field.number_of k c p (agree_field k p (agree_less a h) i))

  module _ (p e : ℕ) (h : p < e) (l : e ≤ length b) (a : Agree b c e) (m : get_or b p 0 ≡ 97 → p + 1 + 1 ≤ e) (n : get_or b p 0 ≡ 98 → p + 1 + 4 ≤ e) where
    same_natural : (most : ℕ) → is_natural most b p ≡ is_natural most c p
    unfolding is_natural
    same_natural most = rw (← agree_byte a h) (go (eqb (get_or b p 0) 97) (eqb (get_or b p 0) 98) refl refl)
      where
        judge : Bool → Bool → List ℕ → Bool
        judge x y d = cond x (leb (number_at 1 d (p + 1)) most) (cond y (leb (number_at 4 d (p + 1)) most) false)

        go : (x y : Bool) → eqb (get_or b p 0) 97 ≡ x → eqb (get_or b p 0) 98 ≡ y → judge x y b ≡ judge x y c
        go true y f g = ap (λ (n : ℕ). leb n most) (same_number 1 (p + 1) e (m (eqb-true _ _ f)) l a)
        go false true f g = ap (λ (n : ℕ). leb n most) (same_number 4 (p + 1) e (n (eqb-true _ _ g)) l a)
        go false false f g = refl

    same-fits : (j : Judge) → fits j b p ≡ fits j c p
    unfolding is_atom is_pid
    same-fits atom = rw (agree_byte a h)
    same-fits (natural most) = same_natural most
    same-fits process = rw (agree_byte a h)

  -- a term that is only so many bytes
  plain : (tag k limit left : ℕ) (s t : State) → ((f : State → Result) (u : State) → body allow f b tag u ≡ pass b k u) → get_or b s.at 0 ≡ tag →
      term allow b limit (suc left) s ≡ done t → s.at + 1 + k ≤ t.at
  unfolding term pass fields
  plain tag k limit left s t h e d = go (ltb s.at (length b)) refl (row.bytes b k (s.at + 1)) refl
    where
      place : Result → ℕ
      place (done u) = u.at
      place (no n x u p) = 0

      go : (x : Bool) → ltb s.at (length b) ≡ x → (r : Row) → row.bytes b k (s.at + 1) ≡ r → s.at + 1 + k ≤ t.at
      go true f (Ok q) g =
          let i : done (moved q (begin (limit - left) s)) ≡ done t = rw (f, e, h (term allow b limit left) (begin (limit - left) s), g) at d in
          omega (arith, ap place i, bytes-to b k (s.at + 1) g)
      go true f (Err r) g =
          let i : no (number_of r) (extra_of r) (begin (limit - left) s) [] ≡ done t = rw (f, e, h (term allow b limit left) (begin (limit - left) s), g) at d in
          absurd cc
      go false f r g = absurd (omega (arith, started allow b limit (suc left) s t d, ltb-false s.at (length b) f))

  judged : (limit left : ℕ) (s : State) → Judged s (term allow b limit (suc left) s)
  unfolding body leaf_at row_at pass
  judged limit left s = go (term allow b limit (suc left) s) refl
    where
      go : (o : Result) → term allow b limit (suc left) s ≡ o → Judged s o
      go (done t) e = λ j a.
          let (h, l) = ends allow b limit (suc left) s t e in
          same-fits s.at t.at h l a (λ f. plain 97 1 limit left s t (λ g u. refl) f e) (λ f. plain 98 4 limit left s t (λ g u. refl) f e) j
      go (no n x t p) e = tt

  near : (limit left : ℕ) (s : State) → Child s (term allow b limit left s) (term allow c limit left s)
  unfolding term
  near limit zero s l = go (ltb s.at (length b))
    where
      go : (x : Bool) → let o = cond x (refused number.Deep (reach s)) (refused number.Eof (reach s)) in Beside s o (term allow c limit zero s) × Judged s o
      go true = (tt, tt)
      go false = (tt, tt)
  near limit (suc left) s l = (go (near limit left) (ltb s.at (length b)) refl, judged limit left s)
    where
      u : State
      u = begin (limit - left) s

      step : s.at < length b → Agree b c (s.at + 1) → term allow c limit (suc left) s ≡ body allow (term allow c limit left) c (get_or b s.at 0) u
      step h a =
          let k : s.at < length c = omega (arith, agree_length a (omega arith)) in
          let e : get_or b s.at 0 ≡ get_or c s.at 0 = agree_byte a (omega arith) in
          rw (lt-ltb s.at (length c) k, e)

      go : ((t : State) → Child t (term allow b limit left t) (term allow c limit left t)) → (x : Bool) → ltb s.at (length b) ≡ x →
          Beside s (cond x (body allow (term allow b limit left) b (get_or b s.at 0) u) (refused number.Eof (reach s))) (term allow c limit (suc left) s)
      go kids true e =
          let h = ltb-true s.at (length b) e in
          later s u (body allow (term allow b limit left) b (get_or b s.at 0) u) (body allow (term allow c limit left) c (get_or b s.at 0) u) (term allow c limit (suc left) s) (omega arith) (step h)
          (of_body alike (term allow b limit left) (term allow c limit left) kids (get_or b s.at 0) u (omega arith))
      go kids false e = tt

-- a reading that ends is unchanged by the bytes behind its end
pub local : (allow : Allowed) (b c : List ℕ) (limit left : ℕ) (s t : State) → term allow b limit left s ≡ done t → take t.at c ≡ take t.at b → term allow c limit left s ≡ done t
local allow b c limit left s t e h =
    let l = started allow b limit left s t e in
    let n : Beside allow b c s (done t) (term allow c limit left s) = rw e at (near allow b c limit left s (omega arith)).0 in
    n.2 (record { same = sym h })
