-- A head and a reading agree: what that takes for each way that both can go, of which the rows make their proofs. Assumes nothing.
use Prim.Native.Nat.{ℕ, ◌+◌, ◌≤◌}
use native.Mathlib.Omega.{arith}
use mathlib.Core.Path.{◌≡◌, refl}
use mathlib.Core.List.{List}
use mathlib.Core.Bool.{Bool, true, false, cond, not, ◌&&◌}
use borrow.Author.Tests.{eq-eqb, ne_eqb}
use lib.Dec.{ltb}
use lib.ListN.{length}
use Rattle.fields.specs.Field.{field_at, number_then}
use Rattle.std.specs.Prelude.{Option, Some, None, Ok, Err}
use Rattle.std.specs.Prelude as std
use Rattle.fields.proofs.Laws.{then_is, then_eof}
use Rattle.numbers.specs.Refusal.{number_of, extra_of}
use Rattle.numbers.specs.declared.Refusal.{Refusal}
use Rattle.numbers.specs.declared.Refusal.TheVariants as refusal
use Rattle.numbers.proofs.Laws.{listed_some, refusal_listed}
use Rattle.reading.specs.declared.Segment.{Segment}
use Rattle.reading.specs.Reading as reading
use Rattle.reading.specs.Reading.{State, Result, done, no, moved}
use Rattle.reading.specs.Terms.{is_atom}
use Rattle.reading.specs.Answer.{answer}
use Rattle.reading.proofs.Families as way
use Rattle.heads.specs.Inner.Head as head
use Rattle.heads.specs.declared.Value.{Value}
use Rattle.heads.specs.declared.Refused.{Refused}
use Rattle.agree.specs.Head.{has_atom, atom_at, at_once, own_offset}
use Rattle.agree.specs.Inner.Refusals.{a_value, said_by_head, said_by_reading, by_tag}
use Rattle.agree.proofs.Floor.{Kept}

-- a head that says v, of a term with this tag, agrees with a reading that comes to o
pub record Agrees (b : List ℕ) (at tag : ℕ) (o : Result) (v : std.Result Value Refused) : Type 0 where
  pub agrees : said_by_head v ≡ by_tag b tag at (answer o)

-- a tag without an atom
pub record Plain (tag : ℕ) : Type 0 where
  pub none : has_atom tag ≡ false

module _ {b : List ℕ} {at tag : ℕ} where
  -- a reading and a head that are found to be others
  pub by : {o q : Result} {v w : std.Result Value Refused} → o ≡ q → v ≡ w → Agrees b at tag q w → Agrees b at tag o v
  by e f a = rw (e, f) a

  -- a refusal at an offset of the head's own
  pub same : (r : Refusal) (t : State) {p : List Segment} → at_once b tag at ≡ false → own_offset tag at t.last ≡ true → Agrees b at tag (no (number_of r) (extra_of r) t p) (head.no r t.last)
  unfolding by_tag answer said_by_reading
  same r t h o = record { agrees = rw (h, o, ne_eqb (number_of r) 0 (λ e. omega (arith, listed_some _ (refusal_listed r)))) }

  -- Done, and a value
  pub done-value : {t : State} {v : Value} → at_once b tag at ≡ false → Agrees b at tag (done t) (Ok v)
  unfolding by_tag answer said_by_reading
  done-value h = record { agrees = rw h (go (own_offset tag at 0)) }
    where
      go : (x : Bool) → a_value ≡ cond x a_value a_value
      go true = refl
      go false = refl

  -- Tag at once, whatever reading says
  pub tag_at_once : {o : Result} → at_once b tag at ≡ true → Agrees b at tag o (head.no refusal.Tag (atom_at tag at))
  unfolding by_tag
  tag_at_once h = record { agrees = rw h }

pub own_start : (tag at : ℕ) → own_offset tag at at ≡ true
unfolding own_offset
own_start tag at = rw (eq-eqb at at refl)

module _ (b : List ℕ) (at : ℕ) {tag : ℕ} (plain : Plain tag) where
  pub not-at_once : at_once b tag at ≡ false
  unfolding at_once
  not-at_once = rw plain.none (go (ltb (atom_at tag at) (length b)))
    where
      go : (x : Bool) → (x && false && not (is_atom b (atom_at tag at))) ≡ false
      go true = refl
      go false = refl

  further : {o : ℕ} → at + 1 ≤ o → own_offset tag at o ≡ false
  unfolding own_offset
  further {o} h = rw (ne_eqb o at (λ e. omega arith), plain.none)

  -- a refusal before any child is reached, and whatever comes of the children
  pub stopped : (r : Refusal) (t : State) {p : List Segment} → t.last ≡ at → Agrees b at tag (no (number_of r) (extra_of r) t p) (head.no r at)
  stopped r t e = by refl (rw e) (same r t not-at_once (rw e (own_start tag at)))

  pub valued : (o : Result) {v : Value} → Kept b (at + 1) o → Agrees b at tag o (Ok v)
  unfolding by_tag answer
  valued (done t) k = done-value not-at_once
  valued (no n x t p) k = record { agrees = rw (not-at_once, further k.reached) }

-- where reading stands behind the tag
abbrev pub behind_tag : (at begun deepest : ℕ) → State
behind_tag at begun deepest = record { at = at + 1; last = at; begun = begun; deepest = deepest }

-- a number, and what it says of what stands behind it
pub sized : {b : List ℕ} {at tag : ℕ} (begun deepest k : ℕ) (f : ℕ → State → Result) (v : ℕ → std.Result Value Refused) → (field_at k b (at + 1) ≡ None → at_once b tag at ≡ false) →
    ((n : ℕ) → field_at k b (at + 1) ≡ Some n → Agrees b at tag (f n (moved (at + 1 + k) (behind_tag at begun deepest))) (v n)) →
    Agrees b at tag (reading.sized k b f (behind_tag at begun deepest)) (number_then (head.no refusal.Eof at) k b (λ n q. v n) (at + 1))
sized {b} {at} {tag} begun deepest k f v g h = go (field_at k b (at + 1)) refl
  where
    s : State
    s = behind_tag at begun deepest

    go : (x : Option ℕ) → field_at k b (at + 1) ≡ x → Agrees b at tag (reading.sized k b f s) (number_then (head.no refusal.Eof at) k b (λ n q. v n) (at + 1))
    go (Some n) e = by (way.sized-is k b f s e) (then_is k b (at + 1) _ _ e) (h n e)
    go None e = by (way.sized_eof k b f s e) (then_eof k b (at + 1) _ _ e) (same refusal.Eof s (g e) (own_start tag at))
