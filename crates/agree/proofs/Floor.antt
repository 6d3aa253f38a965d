-- Over reading's definition alone: once children are read from a place on, the floor, a refusal's offset is that place or one behind it.
-- Assumes nothing.
use Prim.Native.Nat.{ℕ, zero, suc, ◌+◌, ◌≤◌, ◌<◌}
use native.Mathlib.Omega.{arith}
use mathlib.Core.List.{List}
use mathlib.Core.Bool.{Bool, true, false, cond}
use lib.ListN.{length}
use Rattle.numbers.specs.Allowed.{plain}
use Rattle.numbers.proofs.Laws.{listed_some}
use Rattle.numbers.specs.Numbers as number
use Rattle.reading.specs.declared.Kind.{Kind}
use Rattle.reading.specs.declared.Kind.TheVariants as kind
use Rattle.reading.specs.declared.Segment.{Segment}
use Rattle.reading.specs.Reading.{State, Result, done, no, and_then, entered, reach, refused}
use Rattle.reading.specs.Terms.{elems, pair, pairs, required, term}
use Rattle.reading.proofs.Keeps.{Keeps, Held, keeps}

module _ (b : List ℕ) (floor : ℕ) where
  -- a place from the floor on
  pub record Above (t : State) : Type 0 where
    pub above : floor ≤ t.at
    pub inside : t.at ≤ length b

  -- the same, and the last term reached starts there too
  record Reached (t : State) : Type 0 where
    place : Above t
    reached : floor ≤ t.last

  -- a refusal with a number, from the floor on
  pub record Refused (n : ℕ) (t : State) : Type 0 where
    pub some : 0 < n
    pub reached : floor ≤ t.last

  abbrev Stops : ℕ → ℕ → List Segment → State → Type 0
  Stops l n p t = Refused n t

  -- reading goes on above the floor, or is refused from there on
  abbrev pub Kept : Result → Type 0
  Kept = Held Above Stops 0

  floors : (limit : ℕ) → Keeps b limit Reached Stops
  floors limit = record {
    inside = λ s h. h.place.inside;
    moves = λ s p h k l. record { place = record { above = omega arith; inside = l }; reached = h.reached };
    begins = λ s n m h k. record { place = record { above = omega arith; inside = omega arith }; reached = h.place.above };
    stops = λ l n s m h. record { some = listed_some n m; reached = h.reached };
    reaches = λ l n s m h. record { some = listed_some n m; reached = h.place.above };
    wide = λ l n p s h. h;
    enters = λ l n g p s h. h;
  }

  pub then_kept : (o : Result) (f : State → Result) → Kept o → ((t : State) → Above t → Kept (f t)) → Kept (and_then o f)
  unfolding and_then
  then_kept (done t) f h k = k t h
  then_kept (no n x t p) f h k = h

  entered-kept : (k : Kind) (i : ℕ) (o : Result) → Kept o → Kept (entered k i o)
  unfolding entered
  entered-kept k i (done t) h = h
  entered-kept k i (no n x t p) h = h

  module _ (limit left : ℕ) where
    -- a child: whatever was reached before it, it is now the last
    begun : (s : State) → Above s → Reached (reach s)
    begun s h = record { place = record { above = h.above; inside = h.inside }; reached = h.above }

    child : (left : ℕ) (s : State) → Above s → Held Reached Stops left (term plain b limit left s)
    unfolding term
    child zero s h = keeps plain (floors limit) zero (reach s) (begun s h)
    child (suc l) s h = keeps plain (floors limit) (suc l) (reach s) (begun s h)

    abbrev read : State → Result
    read = term plain b limit left

    pub kept : (s : State) → Above s → Kept (read s)
    kept s h = go (read s) (child left s h)
      where
        go : (o : Result) → Held Reached Stops left o → Kept o
        go (done t) k = k.place
        go (no n x t p) k = k

    pub elems-kept : (k : Kind) (i n : ℕ) (s : State) → Above s → Kept (elems read k i n s)
    unfolding elems
    elems-kept k i zero s h = h
    elems-kept k i (suc n) s h = then_kept (entered k i (read s)) _ (entered-kept k i (read s) (kept s h)) (elems-kept k (i + 1) n)

    pub tailed_kept : (n : ℕ) (s : State) → Above s → Kept (and_then (elems read kind.List 0 n s) (λ t. entered kind.Tail 0 (read t)))
    tailed_kept n s h = then_kept (elems read kind.List 0 n s) _ (elems-kept kind.List 0 n s h) (λ t k. entered-kept kind.Tail 0 (read t) (kept t k))

    pub pairs-kept : (n : ℕ) (s : State) → Above s → Kept (pairs read n s)
    unfolding pairs pair
    pairs-kept zero s h = h
    pairs-kept (suc n) s h =
        then_kept (pair read s) _
        (then_kept (entered kind.Key 0 (read s)) _ (entered-kept kind.Key 0 (read s) (kept s h)) (λ t k. entered-kept kind.Value s.at (read t) (kept t k)))
        (pairs-kept n)

    pub required-kept : (fits : ℕ → Bool) (s : State) → Above s → Kept (required read fits s)
    unfolding required and_then
    required-kept fits s h = go (read s) (child left s h)
      where
        judged : (x : Bool) (t : State) → Reached t → Kept (cond x (done t) (refused number.Tag t))
        judged true t r = r.place
        judged false t r = record { some = omega arith; reached = r.reached }

        go : (o : Result) → Held Reached Stops left o → Kept (and_then o (λ t. cond (fits s.at) (done t) (refused number.Tag t)))
        go (done t) r = judged (fits s.at) t r
        go (no n x t p) r = r
