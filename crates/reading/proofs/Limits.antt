-- Over the definition alone: a larger limit changes no answer but Deep. Assumes nothing.
use Prim.Native.Nat.{ℕ, zero, suc, ◌+◌, ◌-◌, ◌≤◌, ◌<◌}
use native.Mathlib.Omega.{arith}
use mathlib.Core.Path.{◌≡◌, refl, ap, ◌∙◌}
use mathlib.Core.List.{List}
use mathlib.Core.Bool.{Bool, true, false, cond}
use borrow.Author.Tests.{ltb-false, le-ltb, ne_eqb}
use lib.Dec.{ltb}
use lib.ListN.{length, get_or}
use Rattle.numbers.specs.Caps as cap
use Rattle.numbers.specs.Allowed.{Allowed}
use Rattle.fields.specs.Field.{field_at}
use Rattle.std.specs.Prelude.{Option, Some, None, Ok, Err}
use Rattle.std.specs.Prelude as std
use Rattle.numbers.specs.declared.Refusal.{Refusal}
use Rattle.numbers.specs.declared.Refusal.TheVariants as why
use Rattle.numbers.specs.Numbers as number
use Rattle.rows.specs.Row.{count_at}
use Rattle.reading.specs.Told.{Told}
use Rattle.reading.specs.declared.Kind.{Kind}
use Rattle.reading.specs.Reading.{State, Result, done, no, and_then, entered, moved, reach, begin, refused, sized, counted}
use Rattle.reading.specs.Terms.{required, body, term}
use Rattle.reading.specs.Answer.{answer, starts, started, read_by}
use Rattle.reading.proofs.Families.{sized-is, sized_eof, counted_is, counted-no}
use Rattle.reading.proofs.Keeps.{Alike, of_body}
use Rattle.reading.proofs.Bounds.{at-end}

-- not refused as too deep
abbrev pub Shallow : Result → Type 0
Shallow (done t) = Unit {0}
Shallow (no n x t p) = ¬ (n ≡ number.Deep)

-- an answer that isn't Deep is the other too
abbrev Same : State → Result → Result → Type 0
Same s o q = Shallow o → q ≡ o

enters : (k : Kind) (i : ℕ) (s : State) (o q : Result) → Same s o q → Same s (entered k i o) (entered k i q)
unfolding entered
enters k i s (done t) q h z = ap (entered k i) (h z)
enters k i s (no n x t p) q h z = ap (entered k i) (h z)

joins : (s : State) (o q : Result) (f g : State → Result) → Same s o q → ((t : State) → Same t (f t) (g t)) → Same s (and_then o f) (and_then q g)
unfolding and_then
joins s (done t) q f g h k z = ap (λ (r : Result). and_then r g) (h tt) ∙ k t z
joins s (no n x t p) q f g h k z = ap (λ (r : Result). and_then r g) (h z)

module _ (allow : Allowed) (b : List ℕ) where
  counts : (k : ℕ) (s : State) (f g : ℕ → State → Result) → ((n : ℕ) (t : State) → Same t (f n t) (g n t)) → Same s (sized k b f s) (sized k b g s)
  counts k s f g h = go (field_at k b s.at) refl
    where
      go : (x : Option ℕ) → field_at k b s.at ≡ x → Same s (sized k b f s) (sized k b g s)
      go (Some n) e = rw (sized-is k b f s e, sized-is k b g s e) (h n (moved (s.at + k) s))
      go None e = rw (sized_eof k b f s e, sized_eof k b g s e) (λ z. refl)

  caps : (most : ℕ) (s : State) (f g : ℕ → State → Result) → ((n : ℕ) (t : State) → Same t (f n t) (g n t)) → Same s (counted most b f s) (counted most b g s)
  caps most s f g h = go (count_at most b s.at) refl
    where
      go : (x : std.Result ℕ Refusal) → count_at most b s.at ≡ x → Same s (counted most b f s) (counted most b g s)
      go (Ok n) e = rw (counted_is most b f s e, counted_is most b g s e) (h n (moved (s.at + 4) s))
      go (Err n) e = rw (counted-no most b f s e, counted-no most b g s e) (λ z. refl)

  alike : Alike allow b b Same Same
  unfolding required
  alike = record {
    enters = enters;
    joins = joins;
    judges = λ j s f g h. joins s (f s) (g s) _ _ (h s) (λ t z. refl);
    ends = λ s z. refl;
    caps = caps;
    counts = counts;
    passes = λ n s z. refl;
    leaves = λ tag s z. refl;
  }

  more : (d limit left : ℕ) (s : State) → Same s (term allow b limit left s) (term allow b (limit + d) (left + d) s)
  unfolding term
  more d limit zero s = go (ltb s.at (length b)) refl
    where
      go : (x : Bool) → ltb s.at (length b) ≡ x → Same s (cond x (refused number.Deep (reach s)) (refused number.Eof (reach s))) (term allow b (limit + d) (zero + d) s)
      go true e z = absurd (z refl)
      go false e z = at-end allow b (limit + d) (zero + d) s (ltb-false s.at (length b) e)
  more d limit (suc left) s =
      let e : suc left + d ≡ suc (left + d) = omega arith in
      let n : limit + d - (left + d) ≡ limit - left = omega arith in
      rw (e, n) (go (more d limit left) (ltb s.at (length b)))
    where
      u : State
      u = begin (limit - left) s

      go : ((t : State) → Same t (term allow b limit left t) (term allow b (limit + d) (left + d) t)) → (x : Bool) →
          Same s (cond x (body allow (term allow b limit left) b (get_or b s.at 0) u) (refused number.Eof (reach s))) (cond x (body allow (term allow b (limit + d) (left + d)) b (get_or b s.at 0) u) (refused number.Eof (reach s)))
      go kids true z = of_body alike (term allow b limit left) (term allow b (limit + d) (left + d)) kids (get_or b s.at 0) u z
      go kids false z = refl

  -- with more levels, and a limit as much larger, the answer is the same
  pub wider : (limit left left' : ℕ) (s : State) → left ≤ left' → Shallow (term allow b limit left s) → term allow b (limit + (left' - left)) left' s ≡ term allow b limit left s
  wider limit left left' s h z =
      let e : left + (left' - left) ≡ left' = omega arith in
      rw e at (more (left' - left) limit left s z)

  pub read_wider : (at limit limit' : ℕ) → 0 < limit → limit ≤ limit' → limit' ≤ cap.nesting → ¬ ((read_by allow b at limit).number ≡ number.Deep) → read_by allow b at limit' ≡ read_by allow b at limit
  unfolding read_by starts answer
  read_wider at limit limit' h k l =
      rw (ne_eqb limit 0 (λ e. omega arith), le-ltb cap.nesting limit (omega arith), ne_eqb limit' 0 (λ e. omega arith), le-ltb cap.nesting limit' l) (go (ltb cap.input (length b)))
    where
      begins : State
      begins = record { at = at; last = 0; begun = 0; deepest = 0 }

      shallow : (o : Result) → ¬ ((answer o).number ≡ number.Deep) → Shallow o
      shallow (done t) z = tt
      shallow (no n x t p) z = z

      -- the answer, where the input may be too long
      told : Bool → Result → Told
      told x o = started (cond x (Err why.Long) (Ok tt)) (answer o)

      go : (x : Bool) → ¬ ((told x (term allow b limit limit begins)).number ≡ number.Deep) → told x (term allow b limit' limit' begins) ≡ told x (term allow b limit limit begins)
      go true z = refl
      go false z =
          let e : limit + (limit' - limit) ≡ limit' = omega arith in
          ap answer (rw e at (wider limit limit limit' begins k (shallow (term allow b limit limit begins) z)))
