-- What the promise of a lookup means: it leaves one answer, whose path has 64 segments at most and whose number is Done or of the list, and
-- what is found is the value of the last equal key. Assumes nothing.
use Prim.Native.Nat.{ℕ, ◌+◌, ◌≤◌}
use native.Mathlib.Omega.{arith}
use mathlib.Core.Path.{◌≡◌, refl, ap, sym, ◌∙◌}
use mathlib.Core.List.{List, []}
use mathlib.Core.Bool.{Bool, true, false}
use lib.Dec.{eqb}
use lib.ListN.{length}
use borrow.Author.Tests.{eqb-true, eqb-false}
use Rattle.std.specs.Prelude.{Option, Some, None}
use Rattle.numbers.specs.Allowed.{plain}
use Rattle.numbers.specs.Caps as cap
use Rattle.numbers.specs.Numbers as number
use Rattle.numbers.specs.Numbers.{among, Listed}
use Rattle.numbers.proofs.Laws.{outcome, Shown, listed_shown, by_test}
use Rattle.reading.specs.Told.{Told}
use Rattle.reading.specs.Answer.{refusal, read_at}
use Rattle.reading.proofs.Bounds as bounds
use Rattle.reading.proofs.Outcomes.{read_shown}
use Rattle.layouts.specs.Tree.{Tree, Forest, node, bytes, Stands}
use Rattle.layouts.specs.Layout.{Laid}
use Rattle.accepts.proofs.Accepts.{read_sound}
use Rattle.lookup.specs.Lookup.{Key, Looked}
use Rattle.lookup.specs.Inner.Found.{found, Says, told, looked}
use Rattle.lookup.proofs.Says.{says_found, one-looked}

-- two answers that the promise allows are one
pub one_answer : {b : List ℕ} {at limit : ℕ} {k : Key} {r r' : Told} → Looked b at limit k r → Looked b at limit k r' → r ≡ r'
one_answer {b} {at} {limit} {k} {r} {r'} l l' = go (eqb (read_at b at limit).number 0) refl
  where
    go : (x : Bool) → eqb (read_at b at limit).number 0 ≡ x → r ≡ r'
    go false h = let n = eqb-false (read_at b at limit).number 0 h in l.refused n ∙ sym (l'.refused n)
    go true h =
        let e = eqb-true (read_at b at limit).number 0 h in
        let f = read_sound plain b at limit e in
        one-looked k at _ (l.done e f.tree f.laid f.stands) ∙ sym (one-looked k at _ (l'.done e f.tree f.laid f.stands))

-- what the reading's answer has, at whatever offset, and a refusal behind it with its counts, every answer that the promise allows has
answers : {b : List ℕ} {at limit : ℕ} {k : Key} {r : Told} → Looked b at limit k r → (P : Told → Type 0) → P (read_at b at limit) →
    ((q : ℕ) → P (told at (read_at b at limit) (Some q))) →
    ((n x : ℕ) → Listed n → P (refusal n at x (read_at b at limit).begun (read_at b at limit).deepest [])) → P r
unfolding looked among
answers {b} {at} {limit} {k} {r} l P read finds refuses = go (eqb (read_at b at limit).number 0) refl
  where
    tells : (o : Option ℕ) → P (told at (read_at b at limit) o)
    tells (Some q) = finds q
    tells None = refuses number.Absent 0 refl

    looks : (t : Tree) → P (looked k at t (read_at b at limit))
    looks (node tag front kids back) = by_test P (eqb tag 116) _ _ (tells (found k (at + 1 + length front) kids)) (refuses number.Kind tag refl)

    go : (x : Bool) → eqb (read_at b at limit).number 0 ≡ x → P r
    go false h = rw (l.refused (eqb-false (read_at b at limit).number 0 h)) read
    go true h =
        let e = eqb-true (read_at b at limit).number 0 h in
        let f = read_sound plain b at limit e in
        rw (one-looked k at _ (l.done e f.tree f.laid f.stands)) (looks f.tree)

module _ {b : List ℕ} {at limit : ℕ} {k : Key} {r : Told} (l : Looked b at limit k r) where
  -- its path is the reading's, or empty
  pub few-segments : r.len ≤ cap.nesting
  few-segments = let read = bounds.few-segments plain b at limit in answers l (λ a. a.len ≤ cap.nesting) read (λ q. read) (λ n x h. omega arith)

  -- it is Done, or refused by a number of the list
  pub answer-shown : Shown (outcome r.number)
  answer-shown = let read = read_shown plain b limit at in answers l (λ a. Shown (outcome a.number)) read (λ q. read) (λ n x. listed_shown n)

-- every answer about a map that was read tells what the words say of its entries
pub map-answer : (k : Key) {b : List ℕ} {at limit : ℕ} {r : Told} {front back : List ℕ} {kids : Forest} (o : Option ℕ) → Looked b at limit k r → (read_at b at limit).number ≡ 0 →
    Laid plain (node 116 front kids back) → Stands b at (bytes (node 116 front kids back)) → Says k (at + 1 + length front) kids o → r ≡ told at (read_at b at limit) o
unfolding looked
map-answer k {b} {at} {limit} {front = front} {kids = kids} o l e a s w = one-looked k at _ (l.done e _ a s) ∙ ap (told at (read_at b at limit)) (says_found k o (at + 1 + length front) kids w)
