-- The rows that have no atom of their own, each held against reading's: a refusal of the fields is the same in both, and one inside a child,
-- which no head reads, lies further on. Assumes nothing.
use Prim.Native.Nat.{ℕ, ◌+◌, ◌≤◌, ◌<◌}
use native.Mathlib.Omega.{arith}
use mathlib.Core.Path.{◌≡◌, refl, ap, ◌∙◌}
use mathlib.Core.List.{List}
use mathlib.Core.Bool.{Bool}
use lib.ListN.{length}
use Rattle.std.specs.Prelude.{Option, Some, None, Ok, Err}
use Rattle.numbers.specs.Allowed.{plain}
use Rattle.numbers.specs.Caps as cap
use Rattle.numbers.specs.declared.Refusal.TheVariants as refusal
use Rattle.fields.specs.Field.{field_at}
use Rattle.fields.proofs.Laws.{is_whole, then_is, then_eof}
use Rattle.rows.specs.Row.{Row}
use Rattle.rows.specs.Layout as layout
use Rattle.rows.proofs.Laws.{count_in, count-over, count_eof, by_count, count-there}
use Rattle.reading.specs.declared.Kind.TheVariants as kind
use Rattle.reading.specs.Reading as step
use Rattle.reading.specs.Reading.{State, Result, and_then, moved, fields}
use Rattle.reading.specs.Terms as reading
use Rattle.reading.specs.Terms.{is_atom, is_natural, is_pid, required, term}
use Rattle.reading.proofs.Families as way
use Rattle.heads.specs.Inner.Head as head
use Rattle.heads.specs.declared.Value.{Value}
use Rattle.heads.specs.declared.Value.TheVariants as value
use Rattle.agree.specs.Head.{has_atom}
use Rattle.agree.proofs.Ways.{sized-there, sized-missing, counted-there, counted-refused, leaf-to, leaf-no}
use Rattle.agree.proofs.Floor.{Above, Kept, then_kept, elems-kept, tailed_kept, pairs-kept, required-kept}
use Rattle.agree.proofs.Agrees.{Agrees, Plain, by, done-value, not-at_once, stopped, valued, behind_tag, sized}

module _ (b : List ℕ) (at begun deepest : ℕ) where
  abbrev s : State
  s = behind_tag at begun deepest

  above : (k : ℕ) → at + 1 + k ≤ length b → Above b (at + 1) (moved (at + 1 + k) s)
  above k h = record { above = omega arith; inside = h }

  -- a count that has a cap, and children behind it
  counted : {tag : ℕ} (most : ℕ) (f : ℕ → State → Result) (v : ℕ → Value) → Plain tag → ((n : ℕ) (t : State) → Above b (at + 1) t → Kept b (at + 1) (f n t)) →
      Agrees b at tag (step.counted most b f s) (head.counted most b at v)
  counted {tag} most f v plain k =
      by_count most b (at + 1)
      (λ n e l.
      let c = count_in most b (at + 1) e l in
      by (way.counted_is most b f s c) (counted-there most b at v c) (valued b at plain _ (k n _ (above 4 (count-there most b (at + 1) c)))))
      (λ n e l. let c = count-over most b (at + 1) e l in by (way.counted-no most b f s c) (counted-refused most b at v c) (stopped b at plain refusal.Size s refl))
      (λ e. let c = count_eof most b (at + 1) e in by (way.counted-no most b f s c) (counted-refused most b at v c) (stopped b at plain refusal.Eof s refl))

  module _ (limit left : ℕ) (here : at < length b) where
    abbrev read : State → Result
    read = term plain b limit left

    pub small_tuple : Agrees b at 104 (reading.small_tuple read b s) (head.small_tuple b at)
    unfolding reading.small_tuple head.small_tuple has_atom
    small_tuple =
        let plain : Plain 104 = record { none = refl } in
        sized begun deepest 1 _ _ (λ e. not-at_once b at plain) (λ n e. valued b at plain _ (elems-kept b (at + 1) limit left kind.Tuple 0 n _ (above 1 (is_whole 1 b (at + 1) e).0)))

    pub large_tuple : Agrees b at 105 (reading.large_tuple read b s) (head.counted cap.elements b at value.Tuple)
    unfolding reading.large_tuple has_atom
    large_tuple = counted cap.elements _ _ (record { none = refl }) (elems-kept b (at + 1) limit left kind.Tuple 0)

    pub list : Agrees b at 108 (reading.list read b s) (head.counted cap.elements b at value.List)
    unfolding reading.list has_atom
    list = counted cap.elements _ _ (record { none = refl }) (tailed_kept b (at + 1) limit left)

    pub map : Agrees b at 116 (reading.map read b s) (head.counted cap.pairs b at value.Map)
    unfolding reading.map has_atom
    map = counted cap.pairs _ _ (record { none = refl }) (pairs-kept b (at + 1) limit left)

    required_then : (fits : ℕ → Bool) (f : State → Result) (t : State) → ((u : State) → Above b (at + 1) u → Kept b (at + 1) (f u)) → Above b (at + 1) t → Kept b (at + 1) (and_then (required read fits t) f)
    required_then fits f t k h = then_kept b (at + 1) (required read fits t) f (required-kept b (at + 1) limit left fits t h) k

    pub export : Agrees b at 113 (reading.export read b s) (Ok value.Export)
    unfolding reading.export has_atom
    export =
        valued b at (record { none = refl }) _
        (required_then (is_atom b) _ s (λ t. required_then (is_atom b) _ t (required-kept b (at + 1) limit left (is_natural 255 b))) (record { above = omega arith; inside = omega arith }))

    captured-kept : (n : ℕ) (t : State) → Above b (at + 1) t → Kept b (at + 1) (reading.captured read b n t)
    unfolding reading.captured
    captured-kept n t =
        required_then (is_atom b) _ t (λ u. required_then (is_natural 2147483647 b) _ u (λ v.
        required_then (is_natural 2147483647 b) _ v (λ w. required_then (is_pid b) _ w (elems-kept b (at + 1) limit left kind.Free 0 n))))

    -- the four numbers of a function are there where the last of them is
    pub function : Agrees b at 112 (reading.function read b s) (head.or_eof (head.function b (at + 1)) at)
    unfolding head.function has_atom
    function = go (field_at 4 b (at + 1 + 25)) refl
      where
        plain : Plain 112
        plain = record { none = refl }

        go : (x : Option ℕ) → field_at 4 b (at + 1 + 25) ≡ x → Agrees b at 112 (reading.function read b s) (head.or_eof (head.function b (at + 1)) at)
        go (Some n) e =
            let w = (is_whole 4 b (at + 1 + 25) e).0 in
            by (way.function-is read b s e)
            (ap (λ (v : Option Value). head.or_eof v at) (sized-there 4 b (at + 1) _ (omega arith) ∙ sized-there 1 b (at + 1 + 4) _ (omega arith)
            ∙ sized-there 4 b (at + 1 + 21) _ (omega arith) ∙ then_is 4 b (at + 1 + 25) _ _ e))
            (valued b at plain _ (captured-kept n _ (above 29 (omega arith))))
        go None e =
            let w = way.function_eof read b s e in
            by w.1
            (ap (λ (v : Option Value). head.or_eof v at) (sized-missing 4 b (at + 1) _ (λ i. sized-missing 1 b (at + 1 + 4) _ (λ j. sized-missing 4 b (at + 1 + 21) _ (λ k. then_eof 4 b (at + 1 + 25) _ _ e)))))
            (stopped b at plain refusal.Eof (moved w.0 s) refl)

  -- a row without children, and a tag that has none
  pub leaf : {tag : ℕ} → Plain tag → at < length b → Agrees b at tag (fields (layout.row_at b tag (at + 1)) s) (head.row_value b tag at)
  leaf {tag} plain here = go (layout.row_at b tag (at + 1)) refl
    where
      go : (r : Row) → layout.row_at b tag (at + 1) ≡ r → Agrees b at tag (fields (layout.row_at b tag (at + 1)) s) (head.row_value b tag at)
      go (Ok e) h = by (way.fields-to s h) (leaf-to b tag at h) (done-value (not-at_once b at plain))
      go (Err r) h = by (way.fields-no s h) (leaf-no b tag at h) (stopped b at plain r s refl)
