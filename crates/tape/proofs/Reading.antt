-- The definition of reading a term to the input's end by cases, what a read leaves on the tape, and what stands before a record's term. Assumes
-- nothing.
use Prim.Native.Nat.{ℕ, ◌+◌, ◌-◌, ◌*◌, ◌≤◌, ◌<◌}
use native.Mathlib.Omega.{arith}
use mathlib.Core.Path.{◌≡◌, refl, ap, sym, ◌∙◌}
use mathlib.Core.List.{List, [], ◌∷◌, ◌++◌}
use lib.ListN.{length, get_or, drop}
use Rattle.std.specs.Prelude.{Ok, Err}
use lib.Seq.{take-length, sets-eq}
use mathlib.Core.Bool.{Bool, true, false, cond}
use lib.Dec.{ltb}
use borrow.Author.Tests.{lt-ltb, le-ltb, ltb-false, eq-eqb, ne_eqb}
use Rattle.numbers.specs.Caps as cap
use Rattle.numbers.specs.Numbers as number
use Rattle.numbers.specs.Allowed.{Allowed, plain}
use Rattle.reading.specs.Told.{Told}
use Rattle.numbers.specs.Refusal.{number_of, extra_of}
use Rattle.numbers.specs.declared.Refusal.{Refusal}
use Rattle.numbers.specs.declared.Refusal.TheVariants as why
use Rattle.reading.specs.Answer.{refusal, starts, read_by}
use Rattle.reading.proofs.Told.{refused_some}
use Rattle.reading.proofs.Answers.{starts-on, read_short}
use Rattle.layouts.specs.Tree.{Tree, Stands, bytes, size}
use Rattle.accepts.proofs.Accepts.{read_sound}
use Rattle.layouts.proofs.Shapes.{unique}
use Rattle.tape.specs.Cells.{cell_words, words, taped}
use Rattle.tape.specs.Inner.Fill.{Good, lay}
use Rattle.tape.specs.Inner.End.{Ended, ended_by, Came, Leaves}
use Rattle.tape.specs.Read as read
use Rattle.tape.specs.Read.{Before, refuses, opens, whole_from, read_behind, starts_before, version, record_before, Promised}
use Rattle.tape.proofs.Words.{words-length}
use Rattle.tape.proofs.Filling.{size-bytes}

-- the answer by what became of a term that was read
abbrev pub answered : Told → Ended → Told
answered a (Ok x) = a
answered a (Err (r, o)) = refusal (number_of r) o (extra_of r) a.begun a.deepest []

-- what stands before a record's term, and the answer by it
module _ (b : List ℕ) (limit : ℕ) where
  pub before-no : {r : Refusal} → starts limit (length b) ≡ Err r → record_before b limit ≡ refuses (number_of r) (extra_of r)
  unfolding record_before starts_before
  before-no e = rw e

  module _ (h : (1 ≤ limit) × ((limit ≤ cap.nesting) × (length b ≤ cap.input))) where
    begins : record_before b limit ≡ version b
    unfolding record_before starts_before
    begins = rw (starts-on limit (length b) (λ z. omega arith) h.1.0 h.1.1)

    pub before_empty : length b ≡ 0 → record_before b limit ≡ refuses number.Eof 0
    unfolding version
    before_empty m = begins ∙ rw m

    module _ (m : ¬ (length b ≡ 0)) where
      pub before-other : ¬ (get_or b 0 0 ≡ 131) → record_before b limit ≡ refuses number.Tag 0
      unfolding version
      before-other n = begins ∙ rw (ne_eqb (length b) 0 m, ne_eqb (get_or b 0 0) 131 n)

      pub before-term : get_or b 0 0 ≡ 131 → record_before b limit ≡ opens 1 plain
      unfolding version
      before-term n = begins ∙ rw (ne_eqb (length b) 0 m, n)

module _ (b : List ℕ) (limit room : ℕ) where
  pub behind-no : {o : Before} {n x : ℕ} → o ≡ refuses n x → refusal n 0 x 0 0 [] ≡ read_behind o b limit room
  unfolding read_behind
  behind-no e = rw e

  pub behind-term : {o : Before} {s : ℕ} {allow : Allowed} → o ≡ opens s allow → whole_from allow b s limit room ≡ read_behind o b limit room
  unfolding read_behind
  behind-term e = rw e

-- the term from a place on, by its answer
module _ (allow : Allowed) (b : List ℕ) (from limit room : ℕ) {a : Told} (e : a ≡ read_by allow b from limit) where
  pub whole-refused : ¬ (a.number ≡ 0) → a ≡ whole_from allow b from limit room
  unfolding whole_from
  whole-refused h = rw (← e, ne_eqb a.number 0 h)

  module _ (h : a.number ≡ 0) where
    pub whole_trailing : a.end < length b → refusal number.Trailing a.end (length b - a.end) a.begun a.deepest [] ≡ whole_from allow b from limit room
    unfolding whole_from read.ended
    whole_trailing k = rw (← e, eq-eqb a.number 0 h, lt-ltb a.end (length b) k)

    module _ (k : length b ≤ a.end) where
      pub whole_room : room < cell_words * a.begun → refusal number.Room 0 a.begun a.begun a.deepest [] ≡ whole_from allow b from limit room
      unfolding whole_from read.ended
      whole_room l = rw (← e, eq-eqb a.number 0 h, le-ltb a.end (length b) k, lt-ltb room (cell_words * a.begun) l)

      pub whole-done : cell_words * a.begun ≤ room → a ≡ whole_from allow b from limit room
      unfolding whole_from read.ended
      whole-done l = rw (← e, eq-eqb a.number 0 h, le-ltb a.end (length b) k, le-ltb room (cell_words * a.begun) l)

    -- by what becomes of it
    whole-ended : whole_from allow b from limit room ≡ answered a (ended_by (length b) a.end a.begun room)
    unfolding whole_from read.ended ended_by
    whole-ended = rw (← e, eq-eqb a.number 0 h) (go (ltb a.end (length b)) (ltb room (cell_words * a.begun)))
      where
        go : (x y : Bool) → cond x (refusal number.Trailing a.end (length b - a.end) a.begun a.deepest []) (cond y (refusal number.Room 0 a.begun a.begun a.deepest []) a) ≡
            answered a (cond x (Err (why.Trailing (length b - a.end), a.end)) (cond y (Err (why.Room a.begun, 0)) (Ok tt)))
        go true y = refl
        go false true = refl
        go false false = refl

    -- the term that was read
    pub came : Came b from a.end a.begun
    came =
        let z : (read_by allow b from limit).number ≡ 0 = ap (λ (x : Told). x.number) (sym e) ∙ h in
        let f = read_sound allow b from limit z in
        record {
          short = read_short allow b from limit z;
          allow = allow;
          tree = f.tree;
          laid = f.laid;
          stands = f.stands;
          ends = ap (λ (x : Told). x.end) e ∙ f.ends;
          counted = ap (λ (x : Told). x.begun) e ∙ f.counted;
        }

-- with room for its cells it is good; and it has no more terms than the input may have bytes
pub good : {b : List ℕ} {from end begun room : ℕ} → Came b from end begun → cell_words * begun ≤ room → Good b from room
good w l = record { short = w.short; allow = w.allow; tree = w.tree; laid = w.laid; stands = w.stands; fits = omega (arith, w.counted) }

pub few : {b : List ℕ} {from end begun : ℕ} → Came b from end begun → begun ≤ cap.input
few w = omega (arith, w.counted, w.short, w.stands.inside, size-bytes w.tree)

-- what becomes of a term, by its tests
module _ (len end begun words : ℕ) where
  pub ended_trailing : end < len → Err (why.Trailing (len - end), end) ≡ ended_by len end begun words
  unfolding ended_by
  ended_trailing h = rw (lt-ltb end len h)

  pub ended-room : len ≤ end → words < cell_words * begun → Err (why.Room begun, 0) ≡ ended_by len end begun words
  unfolding ended_by
  ended-room h k = rw (le-ltb end len h, lt-ltb words (cell_words * begun) k)

  pub ended-done : len ≤ end → cell_words * begun ≤ words → Ok tt ≡ ended_by len end begun words
  unfolding ended_by
  ended-done h k = rw (le-ltb end len h, le-ltb words (cell_words * begun) k)

  pub done-room : ended_by len end begun words ≡ Ok tt → cell_words * begun ≤ words
  unfolding ended_by
  done-room = go (ltb end len) (ltb words (cell_words * begun)) refl
    where
      never : {e : Refusal × ℕ} → Err e ≡ Ok (tt {0}) → cell_words * begun ≤ words
      never e = absurd (let z : ◌≡◌ {A = ℕ} 0 1 = cc in omega arith)

      go : (x y : Bool) → ltb words (cell_words * begun) ≡ y → cond {A = Ended} x (Err (why.Trailing (len - end), end)) (cond y (Err (why.Room begun, 0)) (Ok tt)) ≡ Ok tt → cell_words * begun ≤ words
      go true y h e = never e
      go false true h e = never e
      go false false h e = ltb-false words (cell_words * begun) h

pub behind_131 : {b : List ℕ} (t : Tree) → b ≡ 131 ∷ bytes t → Stands b 1 (bytes t)
behind_131 t e = rw e (record { inside = omega arith; same = take-length (bytes t) })

-- words that were stored from the front on
pub laid-front : (from : ℕ) (t : Tree) (tape : List ℕ) → cell_words * size t ≤ length tape → lay tape 0 (words t from 0 0) ≡ taped from t tape
unfolding taped
laid-front from t tape h =
    let n = words-length t from 0 0 in
    let z : 0 + length (words t from 0 0) ≡ cell_words * size t = omega arith in
    sets-eq (words t from 0 0) tape 0 (omega arith) ∙ ap (λ (k : ℕ). words t from 0 0 ++ drop k tape) z

-- a call that meets the promise, by what became of its term: Done, and it has written its term's words; or refused behind it
pub closes : {allow : Allowed} {b old new : List ℕ} {from limit : ℕ} {a r : Told} {x : Ended} → a ≡ read_by allow b from limit → a.number ≡ 0 → x ≡ ended_by (length b) a.end a.begun (length old) →
    Leaves x b from old new → r ≡ answered a x → Promised (opens from allow) b limit r old new
unfolding read_behind
closes {allow} {b} {old} {new} {from} {limit} {a} {r} {x} e z = go x
  where
    start_of : Before → ℕ
    start_of (opens p w) = p
    start_of (refuses n x) = 0

    is : {y : Ended} → y ≡ ended_by (length b) a.end a.begun (length old) → answered a y ≡ whole_from allow b from limit (length old)
    is f = ap (answered a) f ∙ sym (whole-ended allow b from limit (length old) e z)

    go : (x : Ended) → x ≡ ended_by (length b) a.end a.begun (length old) → Leaves x b from old new → r ≡ answered a x → Promised (opens from allow) b limit r old new
    go (Err (c, o)) f w h =
        record { answered = h ∙ is f; refused = λ _. w; done = λ d. absurd (refused_some c (ap (λ (m : Told). m.number) (sym h) ∙ d)) }
    go (Ok x) f w h =
        let g = good (came allow b from limit (length old) e z) (done-room (length b) a.end a.begun (length old) (sym f)) in
        record {
          answered = h ∙ is f;
          refused = λ n. absurd (n (ap (λ (m : Told). m.number) h ∙ z));
          done = λ _ p v o t l s.
              let q : p ≡ from = ap start_of (sym o) in
              let s' : Stands b from (bytes t) = rw q at s in
              let u : t ≡ g.tree = unique b from t g.tree g.short l g.laid s' g.stands in
              rw q (w.same v t l s' ∙ laid-front from t old (rw u g.fits));
        }

pub refuse : {o : Before} {b tape : List ℕ} {limit : ℕ} {r a : Told} → r ≡ a → a ≡ read_behind o b limit (length tape) → ¬ (a.number ≡ 0) → Promised o b limit r tape tape
refuse e f h = record { answered = e ∙ f; refused = λ _. refl; done = λ z. absurd (h (rw e at z)) }

-- a call behind what stands before its term
pub go_on : {o : Before} {allow : Allowed} {b old new : List ℕ} {from limit : ℕ} {r : Told} → o ≡ opens from allow → Promised (opens from allow) b limit r old new → Promised o b limit r old new
go_on e p = rw e p
