-- What the readings of children have in common, the readings of a term have: the definition's families gone through once, for every law of
-- it. First two readings side by side, then what one reading keeps. Assumes nothing.
use Prim.Native.Nat.{ℕ, zero, suc, ◌+◌, ◌-◌, ◌*◌, ◌≤◌, ◌<◌}
use native.Mathlib.Omega.{arith}
use mathlib.Core.Path.{◌≡◌, refl}
use mathlib.Core.List.{List, [], ◌∷◌}
use mathlib.Core.Bool.{Bool, true, false, cond, ◌||◌}
use borrow.Author.Tests.{ltb-true}
use lib.Dec.{ltb, eqb}
use lib.ListN.{length, get_or}
use Rattle.numbers.specs.Caps as cap
use Rattle.numbers.specs.Allowed.{Allowed}
use Rattle.fields.specs.Field.{field_at}
use Rattle.std.specs.Prelude.{Option, Some, None, Ok, Err}
use Rattle.fields.proofs.Laws.{is_whole}
use Rattle.numbers.specs.Numbers as number
use Rattle.numbers.specs.Numbers.{among, Listed}
use Rattle.numbers.specs.Refusal.{number_of}
use Rattle.numbers.proofs.Laws.{refusal_listed}
use Rattle.rows.specs.Row as row
use Rattle.rows.specs.Layout.{leaf_at}
use Rattle.rows.specs.Row.{Row}
use Rattle.reading.specs.declared.Kind.{Kind}
use Rattle.reading.specs.declared.Kind.TheVariants as kind
use Rattle.reading.specs.declared.Segment.{Segment}
use Rattle.reading.specs.Reading.{State, Result, done, no, and_then, entered, moved, reach, begin, fields, pass, sized, counted}
use Rattle.reading.specs.Terms.{elems, pair, pairs, required, is_atom, is_natural, is_pid}
use Rattle.reading.specs.Terms.{small_tuple, large_tuple, list, map, pid, reference, export, captured, function, body, term}
use Rattle.rows.proofs.Laws.{by_count, count_in, count-over, count_eof}
use Rattle.reading.proofs.Families.{sized-is, sized_eof, counted_is, counted-no}
use Rattle.rows.proofs.Ends.{Near, near_bytes, near_leaf}

-- what a required child is judged by
pub data Judge : Type 0 where
  atom : Judge
  natural : ℕ → Judge
  process : Judge

abbrev pub fits : Judge → List ℕ → ℕ → Bool
fits atom = is_atom
fits (natural most) = is_natural most
fits process = is_pid

-- two readings from a place, of a child (R) and of what stands behind a tag (S), over two lists: how S comes of R and of S
pub record Alike (allow : Allowed) (b c : List ℕ) (R S : State → Result → Result → Type 0) : Type 0 where
  pub enters : (k : Kind) (i : ℕ) (s : State) (o q : Result) → R s o q → S s (entered k i o) (entered k i q)
  pub joins : (s : State) (o q : Result) (f g : State → Result) → S s o q → ((t : State) → S t (f t) (g t)) → S s (and_then o f) (and_then q g)
  pub judges : (j : Judge) (s : State) (f g : State → Result) → ((t : State) → R t (f t) (g t)) → S s (required f (fits j b) s) (required g (fits j c) s)
  pub ends : (s : State) → S s (done s) (done s)
  pub caps : (most : ℕ) (s : State) (f g : ℕ → State → Result) → ((n : ℕ) (t : State) → S t (f n t) (g n t)) → S s (counted most b f s) (counted most c g s)
  pub counts : (k : ℕ) (s : State) (f g : ℕ → State → Result) → ((n : ℕ) (t : State) → S t (f n t) (g n t)) → S s (sized k b f s) (sized k c g s)
  pub passes : (n : ℕ) (s : State) → S s (pass b n s) (pass c n s)
  pub leaves : (tag : ℕ) (s : State) → S s (fields (leaf_at allow b tag s.at) s) (fields (leaf_at allow c tag s.at) s)

module _ {allow : Allowed} {b c : List ℕ} {R S : State → Result → Result → Type 0} (a : Alike allow b c R S) (f g : State → Result) (kids : (s : State) → R s (f s) (g s)) where
  picks : (x : Bool) (s : State) (o q u v : Result) → S s o q → S s u v → S s (cond x o u) (cond x q v)
  picks true s o q u v h k = h
  picks false s o q u v h k = k

  of_elems : (k : Kind) (i n : ℕ) (s : State) → S s (elems f k i n s) (elems g k i n s)
  unfolding elems
  of_elems k i zero s = a.ends s
  of_elems k i (suc n) s = a.joins s _ _ _ _ (a.enters k i s _ _ (kids s)) (of_elems k (i + 1) n)

  of_pairs : (n : ℕ) (s : State) → S s (pairs f n s) (pairs g n s)
  unfolding pairs pair
  of_pairs zero s = a.ends s
  of_pairs (suc n) s =
      a.joins s _ _ _ _ (a.joins s _ _ _ _ (a.enters kind.Key 0 s _ _ (kids s)) (λ t. a.enters kind.Value s.at t _ _ (kids t))) (of_pairs n)

  needs : (j : Judge) (s : State) → S s (required f (fits j b) s) (required g (fits j c) s)
  needs j s = a.judges j s f g kids

  of_captured : (n : ℕ) (s : State) → S s (captured f b n s) (captured g c n s)
  unfolding captured
  of_captured n s =
      a.joins s _ _ _ _ (needs atom s) (λ t.
      a.joins t _ _ _ _ (needs (natural 2147483647) t) (λ u.
      a.joins u _ _ _ _ (needs (natural 2147483647) u) (λ v.
      a.joins v _ _ _ _ (needs process v) (of_elems kind.Free 0 n))))

  pub of_body : (tag : ℕ) (s : State) → S s (body allow f b tag s) (body allow g c tag s)
  unfolding body small_tuple large_tuple list map pid reference export function
  of_body tag s =
      picks (eqb tag 104) s _ _ _ _ (a.counts 1 s _ _ (of_elems kind.Tuple 0))
      (picks (eqb tag 105) s _ _ _ _ (a.caps cap.elements s _ _ (of_elems kind.Tuple 0))
      (picks (eqb tag 108) s _ _ _ _
      (a.caps cap.elements s _ _ (λ n t. a.joins t _ _ _ _ (of_elems kind.List 0 n t) (λ u. a.enters kind.Tail 0 u _ _ (kids u))))
      (picks (eqb tag 116) s _ _ _ _ (a.caps cap.pairs s _ _ of_pairs)
      (picks (eqb tag 88 || eqb tag 120) s _ _ _ _ (a.joins s _ _ _ _ (needs atom s) (a.passes 12))
      (picks (eqb tag 90) s _ _ _ _ (a.counts 2 s _ _ (λ n t. a.joins t _ _ _ _ (needs atom t) (a.passes (4 + 4 * n))))
      (picks (eqb tag 113) s _ _ _ _ (a.joins s _ _ _ _ (needs atom s) (λ t. a.joins t _ _ _ _ (needs atom t) (needs (natural 255))))
      (picks (eqb tag 112) s _ _ _ _ (a.joins s _ _ _ _ (a.passes 25 s) (λ t. a.counts 4 t _ _ of_captured))
      (a.leaves tag s))))))))

-- what one reading keeps

-- P of where reading goes on, Q of the levels left, the number, the path and the place of a refusal
pub record Keeps (b : List ℕ) (limit : ℕ) (P : State → Type 0) (Q : ℕ → ℕ → List Segment → State → Type 0) : Type 0 where
  pub inside : (s : State) → P s → s.at ≤ length b
  pub moves : (s : State) (p : ℕ) → P s → s.at ≤ p → p ≤ length b → P (moved p s)
  pub begins : (s : State) (n : ℕ) → n ≤ limit → P s → s.at < length b → P (begin n s)
  pub stops : (l n : ℕ) (s : State) → Listed n → P s → Q l n [] s
  pub reaches : (l n : ℕ) (s : State) → Listed n → P s → Q l n [] (reach s)
  pub wide : (l n : ℕ) (p : List Segment) (s : State) → Q l n p s → Q (suc l) n p s
  pub enters : (l n : ℕ) (g : Segment) (p : List Segment) (s : State) → Q l n p s → Q (suc l) n (g ∷ p) s

abbrev pub Held : (State → Type 0) → (ℕ → ℕ → List Segment → State → Type 0) → ℕ → Result → Type 0
Held P Q l (done t) = P t
Held P Q l (no n x t p) = Q l n p t

module _ (allow : Allowed) {b : List ℕ} {limit : ℕ} {P : State → Type 0} {Q : ℕ → ℕ → List Segment → State → Type 0} (k : Keeps b limit P Q) where
  abbrev From : ℕ → State → Result → Result → Type 0
  From l s o q = P s → Held P Q l o

  held-cond : (l : ℕ) (x : Bool) (o q : Result) → (x ≡ true → Held P Q l o) → Held P Q l q → Held P Q l (cond x o q)
  held-cond l true o q h n = h refl
  held-cond l false o q h n = n

  held-wide : (l : ℕ) (s : State) (o q : Result) → From l s o q → From (suc l) s o q
  held-wide l s (done t) q h p = h p
  held-wide l s (no n x t r) q h p = k.wide l n r t (h p)

  held_enters : (l : ℕ) (j : Kind) (i : ℕ) (s : State) (o q : Result) → From l s o q → From (suc l) s (entered j i o) (entered j i q)
  unfolding entered
  held_enters l j i s (done t) q h p = h p
  held_enters l j i s (no n x t r) q h p = k.enters l n _ r t (h p)

  held_joins : (l : ℕ) (s : State) (o q : Result) (f g : State → Result) → From l s o q → ((t : State) → From l t (f t) (g t)) → From l s (and_then o f) (and_then q g)
  unfolding and_then
  held_joins l s (done t) q f g h n p = n t (h p)
  held_joins l s (no m x t r) q f g h n p = h p

  held-fields : (l : ℕ) (s : State) (r : Row) → Near b b s.at r r → P s → Held P Q l (fields r s)
  unfolding fields
  held-fields l s (Ok e) n p = k.moves s e p n.0 (n.1 (k.inside s p))
  held-fields l s (Err r) n p = k.stops l (number_of r) s (refusal_listed r) p

  held_counts : (l j : ℕ) (s : State) (f g : ℕ → State → Result) → ((n : ℕ) (t : State) → From l t (f n t) (g n t)) → From l s (sized j b f s) (sized j b g s)
  unfolding among
  held_counts l j s f g h p = go (field_at j b s.at) refl
    where
      go : (x : Option ℕ) → field_at j b s.at ≡ x → Held P Q l (sized j b f s)
      go (Some n) e = rw (sized-is j b f s e) (h n (moved (s.at + j) s) (k.moves s (s.at + j) p (omega arith) (is_whole j b s.at e).0))
      go None e = rw (sized_eof j b f s e) (k.stops l number.Eof s refl p)

  held_caps : (l most : ℕ) (s : State) (f g : ℕ → State → Result) → ((n : ℕ) (t : State) → From l t (f n t) (g n t)) → From l s (counted most b f s) (counted most b g s)
  unfolding among
  held_caps l most s f g h p =
      by_count most b s.at
      (λ n e i. rw (counted_is most b f s (count_in most b s.at e i)) (h n (moved (s.at + 4) s) (k.moves s (s.at + 4) p (omega arith) (is_whole 4 b s.at e).0)))
      (λ n e i. rw (counted-no most b f s (count-over most b s.at e i)) (k.stops l number.Size s refl p))
      (λ e. rw (counted-no most b f s (count_eof most b s.at e)) (k.stops l number.Eof s refl p))

  alike : (l : ℕ) → Alike allow b b (From l) (From (suc l))
  unfolding pass required among
  alike l = record {
    enters = held_enters l;
    joins = held_joins (suc l);
    judges = λ j s f g h. held_joins (suc l) s (f s) (g s) _ g (held-wide l s (f s) (g s) (h s)) (λ t p. held-cond (suc l) (fits j b s.at) (done t) _ (λ e. p) (k.stops (suc l) number.Tag t refl p));
    ends = λ s p. p;
    caps = held_caps (suc l);
    counts = held_counts (suc l);
    passes = λ n s p. held-fields (suc l) s (row.bytes b n s.at) (near_bytes b b n s.at) p;
    leaves = λ tag s p. held-fields (suc l) s (leaf_at allow b tag s.at) (near_leaf b b allow tag s.at) p;
  }

  -- a term that is begun keeps it, if its place behind the tag has it and the terms inside keep it
  begun_by : (left : ℕ) → ((s : State) → P s → Held P Q left (term allow b limit left s)) → (s : State) → (s.at < length b → P (begin (limit - left) s)) → Q (suc left) number.Eof [] (reach s) →
      Held P Q (suc left) (term allow b limit (suc left) s)
  unfolding term
  begun_by left h s p q =
      held-cond (suc left) (ltb s.at (length b)) _ _
      (λ e. of_body (alike left) (term allow b limit left) (term allow b limit left) h (get_or b s.at 0) (begin (limit - left) s) (p (ltb-true s.at (length b) e))) q

  pub keeps : (left : ℕ) (s : State) → P s → Held P Q left (term allow b limit left s)
  unfolding term among
  keeps zero s p = held-cond zero (ltb s.at (length b)) _ _ (λ e. k.reaches zero number.Deep s refl p) (k.reaches zero number.Eof s refl p)
  keeps (suc left) s p = begun_by left (keeps left) s (k.begins s (limit - left) (omega arith) p) (k.reaches (suc left) number.Eof s refl p)

  pub keeps_begun : (left : ℕ) (s : State) → (s.at < length b → P (begin (limit - left) s)) → Q (suc left) number.Eof [] (reach s) → Held P Q (suc left) (term allow b limit (suc left) s)
  keeps_begun left = begun_by left (keeps left)
