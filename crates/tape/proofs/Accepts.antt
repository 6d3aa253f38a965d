-- What a promise of reading says, behind whatever stands before the term: which inputs are accepted, by the layouts alone; what the tape of an
-- accepted one is; and that the promise leaves no choice. Then the same of a record. Assumes nothing.
use Prim.Native.Nat.{ℕ, ◌+◌, ◌-◌, ◌*◌, ◌≤◌}
use native.Mathlib.Omega.{arith}
use mathlib.Core.Path.{◌≡◌, refl, ap, sym, subst, ◌∙◌}
use mathlib.Core.Logic.{◌↔◌}
use mathlib.Core.List.{List, [], ◌++◌}
use mathlib.Core.Bool.{Bool, true, false, cond}
use lib.Dec.{ltb, eqb}
use lib.ListN.{length, take, drop, length-append, length-take, length-drop, take-append-drop}
use lib.Seq.{take_all, take-length, take-append_seam, drop-append_seam, drop_at}
use borrow.Author.Tests.{ltb-false, eqb-true, eqb-false, eq-eqb}
use Rattle.numbers.specs.Caps as cap
use Rattle.numbers.specs.Numbers as number
use Rattle.numbers.specs.Numbers.{among, Listed}
use Rattle.numbers.specs.Allowed.{Allowed}
use Rattle.numbers.proofs.Laws.{outcome, Shown, listed_some, listed_shown, by_test}
use Rattle.reading.specs.Told.{Told}
use Rattle.reading.specs.Answer.{refusal, read_by}
use Rattle.reading.proofs.Answers.{read_short}
use Rattle.reading.proofs.Bounds.{bounded}
use Rattle.reading.proofs.Bounds as bounds
use Rattle.reading.proofs.Outcomes.{read_shown}
use Rattle.layouts.specs.Tree.{Tree, Stands, bytes, size, depth}
use Rattle.accepts.proofs.Accepts.{read_sound, read_complete}
use Rattle.tape.specs.Cells.{cell_words, words, taped}
use Rattle.tape.specs.Read.{Before, refuses, opens, ended, whole_from, read_behind, Accepted, Promised}
use Rattle.tape.specs.Spans.{Nested, OnePerTerm, start_at, end_at}
use Rattle.tape.proofs.Words.{words-length}
use Rattle.tape.proofs.Reading.{whole-done}
use Rattle.tape.proofs.Spans as spans

-- a test on the way to a Done answer: what it must have said, and what is left
passed : (x : Bool) (r o : Told) → ¬ (r.number ≡ 0) → (cond x r o).number ≡ 0 → (x ≡ false) × ((cond x r o ≡ o) × (o.number ≡ 0))
passed true r o h e = absurd (h e)
passed false r o h e = (refl, (refl, e))

taken : (x : Bool) (r o : Told) → (o.number ≡ 0 → x ≡ true) → (cond x r o).number ≡ 0 → (x ≡ true) × ((cond x r o ≡ r) × (r.number ≡ 0))
taken true r o h e = (refl, (refl, e))
taken false r o h e = let t : false ≡ true = h e in absurd (omega (arith, ap {B = ℕ} (λ (y : Bool). cond y 1 0) t))

-- what stands before a term is its front, and the term stands behind it
pub behind-front : {b l : List ℕ} {from : ℕ} → from ≤ length b → b ≡ take from b ++ l → Stands b from l
behind-front {b} {l} {from} h e =
    let n : length (take from b) ≡ from = omega (arith, length-take from b) in
    subst (λ (x : List ℕ). Stands x from l) (sym e) (subst (λ (k : ℕ). Stands (take from b ++ l) k l) n (seam (take from b) l))
  where
    seam : (front l : List ℕ) → Stands (front ++ l) (length front) l
    seam front l = record { inside = omega (arith, length-append front l); same = ap (take (length l)) (drop-append_seam front l) ∙ take-length l }

all : (b l : List ℕ) (from : ℕ) → Stands b from l → length b ≤ from + length l → b ≡ take from b ++ l
all b l from s h =
    let r : drop from b ≡ l = sym (take_all (length l) (drop from b) (omega (arith, length-drop from b))) ∙ s.same in
    sym (take-append-drop from b) ∙ ap (λ (x : List ℕ). take from b ++ x) r

-- the term from a place on
module _ (allow : Allowed) (b : List ℕ) (from limit room : ℕ) where
  abbrev a : Told
  a = read_by allow b from limit

  -- an accepted input is read, and its terms are counted
  pub complete : from ≤ length b → 1 ≤ limit → limit ≤ cap.nesting → length b ≤ cap.input → (x : Accepted allow (take from b) b limit room) →
      ((whole_from allow b from limit room).number ≡ 0) × ((whole_from allow b from limit room).begun ≡ size x.tree)
  complete i h k l x =
      let s = behind-front i x.is in
      let (n, e, c) = read_complete allow b from limit x.tree x.laid h x.nested k l s in
      let len : length b ≡ from + length (bytes x.tree) = ap length x.is ∙ simp length-append (omega (arith, length-take from b)) in
      rw (sym (whole-done allow b from limit room refl n (omega arith) (omega (arith, x.room)))) (n, c)

  -- what a Done answer says: it is the reading's, all of the input was read, and there was room
  record Read (r : Told) : Type 0 where
    done : a.number ≡ 0
    ends : length b ≤ a.end
    fits : cell_words * a.begun ≤ room
    is : r ≡ a

  reads : (whole_from allow b from limit room).number ≡ 0 → Read (whole_from allow b from limit room)
  unfolding whole_from ended
  reads e =
      let (x₅, (p₅, e₅)) = taken (eqb a.number 0) _ a (λ z. eq-eqb a.number 0 z) e in
      let (x₆, (p₆, e₆)) = passed (ltb a.end (length b)) (refusal number.Trailing a.end (length b - a.end) a.begun a.deepest []) _ (λ z. omega arith) e₅ in
      let (x₇, (p₇, _)) = passed (ltb room (cell_words * a.begun)) (refusal number.Room 0 a.begun a.begun a.deepest []) a (λ z. omega arith) e₆ in
      record {
        done = eqb-true a.number 0 x₅;
        ends = ltb-false a.end (length b) x₆;
        fits = ltb-false room (cell_words * a.begun) x₇;
        is = p₅ ∙ p₆ ∙ p₇;
      }

  -- an input that is read is accepted
  pub sound : (whole_from allow b from limit room).number ≡ 0 → Accepted allow (take from b) b limit room
  sound e =
      let r = reads e in
      let f = read_sound allow b from limit r.done in
      record { tree = f.tree; laid = f.laid; is = all b (bytes f.tree) from f.stands (omega (arith, r.ends, f.ends)); nested = f.shallow; room = omega (arith, r.fits, f.counted) }

  pub stands-is : (e : (whole_from allow b from limit room).number ≡ 0) → Stands b from (bytes (sound e).tree)
  unfolding sound
  stands-is e = (read_sound allow b from limit (reads e).done).stands

  pub begun-is : (e : (whole_from allow b from limit room).number ≡ 0) → (whole_from allow b from limit room).begun ≡ size (sound e).tree
  unfolding sound
  begun-is e = let r = reads e in ap (λ (x : Told). x.begun) r.is ∙ (read_sound allow b from limit r.done).counted

  pub deepest-is : (e : (whole_from allow b from limit room).number ≡ 0) → (whole_from allow b from limit room).deepest ≡ depth (sound e).tree
  unfolding sound
  deepest-is e = let r = reads e in ap (λ (x : Told). x.deepest) r.is ∙ (read_sound allow b from limit r.done).nested

  -- what every answer has: the reading's, and a refusal behind it with its counts
  answers : (P : Told → Type 0) → P a → ((n o x : ℕ) → Listed n → P (refusal n o x a.begun a.deepest [])) → P (whole_from allow b from limit room)
  unfolding whole_from ended among
  answers P k l = by_test P (eqb a.number 0) _ a (by_test P (ltb a.end (length b)) _ _ (l _ _ _ refl) (by_test P (ltb room (cell_words * a.begun)) _ a (l _ _ _ refl) k)) k

  -- "accepted exactly when it is .. and one whole term"
  pub accepts : from ≤ length b → 1 ≤ limit → limit ≤ cap.nesting → length b ≤ cap.input → ((whole_from allow b from limit room).number ≡ 0) ↔ Accepted allow (take from b) b limit room
  accepts i h k l = (sound, λ x. (complete i h k l x).0)

-- what stands before a term lies in the input, a byte of it at least; and a refusal there bears a number of the list
abbrev pub Inside : Before → List ℕ → Type 0
Inside (refuses n x) b = Unit {0}
Inside (opens from allow) b = (1 ≤ from) × (from ≤ length b)

abbrev pub Sure : Before → Type 0
Sure (refuses n x) = Listed n
Sure (opens from allow) = Unit {0}

-- a term that was read behind it
pub record Opened (o : Before) (b : List ℕ) (limit room : ℕ) : Type 0 where
  pub from : ℕ
  pub allow : Allowed
  pub is : o ≡ opens from allow
  pub accepted : Accepted allow (take from b) b limit room
  pub stands : Stands b from (bytes accepted.tree)

-- no answer reports more terms than bytes behind the first, or has a path of more than 64 segments, and each is Done, or refused by a number of
-- the list
few : (o : Before) (b : List ℕ) (limit room : ℕ) → Inside o b → (read_behind o b limit room).begun ≤ length b - 1
unfolding read_behind
few (refuses n x) b limit room f = omega arith
few (opens from allow) b limit room f =
    let h : (read_by allow b from limit).begun ≤ length b - 1 = omega (arith, (bounded allow b from limit f.1).counted, f.0) in
    answers allow b from limit room (λ r. r.begun ≤ length b - 1) h (λ n o x k. h)

short : (o : Before) (b : List ℕ) (limit room : ℕ) → (read_behind o b limit room).len ≤ cap.nesting
unfolding read_behind
short (refuses n x) b limit room = omega arith
short (opens from allow) b limit room = answers allow b from limit room (λ r. r.len ≤ cap.nesting) (bounds.few-segments allow b from limit) (λ n o x k. omega arith)

shown : (o : Before) (b : List ℕ) (limit room : ℕ) → Sure o → Shown (outcome (read_behind o b limit room).number)
unfolding read_behind
shown (refuses n x) b limit room f = listed_shown n f
shown (opens from allow) b limit room f = answers allow b from limit room (λ r. Shown (outcome r.number)) (read_shown allow b limit from) (λ n o x. listed_shown n)

-- one that was Done: its term, and its counts
pub done-opened : (o : Before) (b : List ℕ) (limit room : ℕ) → Sure o → (read_behind o b limit room).number ≡ 0 →
    (x : Opened o b limit room) × (((read_behind o b limit room).begun ≡ size x.accepted.tree) × (((read_behind o b limit room).deepest ≡ depth x.accepted.tree) × (length b ≤ cap.input)))
unfolding read_behind
done-opened (refuses n x) b limit room f e = absurd (omega (arith, listed_some n f))
done-opened (opens from allow) b limit room f e = (
  record { from = from; allow = allow; is = refl; accepted = sound allow b from limit room e; stands = stands-is allow b from limit room e },
  (begun-is allow b from limit room e, (deepest-is allow b from limit room e, read_short allow b from limit (reads allow b from limit room e).done)),
)

-- a tape that was written: its words at the front, and the old ones behind them
module _ (from : ℕ) (t : Tree) (old : List ℕ) {new : List ℕ} (e : new ≡ taped from t old) where
  pub at_front : Stands new 0 (words t from 0 0)
  unfolding taped
  at_front =
      let m = drop (cell_words * size t) old in
      rw e (record { inside = omega (arith, length-append (words t from 0 0) m); same = take-append_seam (words t from 0 0) m })

  behind-cells : drop (cell_words * size t) new ≡ drop (cell_words * size t) old
  unfolding taped
  behind-cells = rw e (drop_at (words t from 0 0) (drop (cell_words * size t) old) (cell_words * size t) (words-length t from 0 0))

module _ {o : Before} {b : List ℕ} {limit : ℕ} {r : Told} {old new : List ℕ} (sure : Sure o) (p : Promised o b limit r old new) where
  -- "the reported count of terms begun .. at most the bytes after the first"
  pub counted : Inside o b → r.begun ≤ length b - 1
  counted i = rw p.answered (few o b limit (length old) i)

  -- "at most 64 segments"
  pub few-segments : r.len ≤ cap.nesting
  few-segments = rw p.answered (short o b limit (length old))

  -- "A refusal bears a number from document 01 or 02"
  pub answer-shown : Shown (outcome r.number)
  answer-shown = rw p.answered (shown o b limit (length old) sure)

  -- a refused read leaves the tape
  pub untouched : ¬ (r.number ≡ 0) → new ≡ old
  untouched h = p.refused h

  -- the tape of a read that was Done
  module _ (d : r.number ≡ 0) where
    is-done : (read_behind o b limit (length old)).number ≡ 0
    is-done = ap (λ (a : Told). a.number) (sym p.answered) ∙ d

    -- its term
    pub opened : Opened o b limit (length old)
    opened = (done-opened o b limit (length old) sure is-done).0

    abbrev tree : Tree
    tree = opened.accepted.tree

    abbrev from : ℕ
    from = opened.from

    wrote : new ≡ taped from tree old
    wrote = p.done d from opened.allow opened.is tree opened.accepted.laid opened.stands

    -- as many terms were begun as there are
    pub cells : r.begun ≡ size tree
    unfolding opened
    cells = ap (λ (a : Told). a.begun) p.answered ∙ (done-opened o b limit (length old) sure is-done).1.0

    -- the deepest nesting is the term's
    pub deepest : r.deepest ≡ depth tree
    unfolding opened
    deepest = ap (λ (a : Told). a.deepest) p.answered ∙ (done-opened o b limit (length old) sure is-done).1.1.0

    -- it has no more cells than there is room for
    pub in_room : cell_words * r.begun ≤ length old
    in_room = omega (arith, cells, opened.accepted.room)

    -- its words stand at the front
    pub front : Stands new 0 (words tree from 0 0)
    front = at_front from tree old wrote

    -- "Leftover words and cells past the last stay unchanged"
    pub rest : drop (cell_words * r.begun) new ≡ drop (cell_words * r.begun) old
    rest = rw cells (behind-cells from tree old wrote)

    -- the laws of demand 3, over the words as they lie in the lent run
    pub nested : Nested new r.begun
    nested = rw cells (spans.nested tree from new front)

    -- "one cell per term": the cells are the tree's terms in pre-order, each with its own bytes' place
    pub nodes : OnePerTerm new opened.allow b from tree r.begun
    nodes = spans.one_per_term tree from b new opened.accepted.laid opened.stands front cells

    pub whole : (start_at new 0 ≡ from) × (end_at new 0 ≡ length b)
    whole =
        let (h, k) = spans.whole tree from new front in
        (h, omega (arith, k, ap (length {A = ℕ}) opened.accepted.is, length-append (take from b) (bytes tree), length-take from b, opened.stands.inside))

-- two answers that the promise allows are one, with what they leave
pub determined : {o : Before} {b : List ℕ} {limit : ℕ} {r s : Told} {old new other : List ℕ} → Sure o → Promised o b limit r old new → Promised o b limit s old other → (r ≡ s) × (new ≡ other)
determined {o} {b} {limit} {r} {s} {old} {new} {other} sure p q = (e, go (eqb r.number 0) refl)
  where
    e : r ≡ s
    e = p.answered ∙ sym q.answered

    go : (x : Bool) → eqb r.number 0 ≡ x → new ≡ other
    go true h =
        let d = eqb-true r.number 0 h in
        let w = opened sure p d in
        wrote sure p d ∙ sym (q.done (ap (λ (a : Told). a.number) (sym e) ∙ d) w.from w.allow w.is w.accepted.tree w.accepted.laid w.stands)
    go false h =
        let n = eqb-false r.number 0 h in
        p.refused n ∙ sym (q.refused (λ z. n (ap (λ (a : Told). a.number) e ∙ z)))
