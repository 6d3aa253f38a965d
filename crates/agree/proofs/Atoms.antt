-- A pid, a reference and a port, held against reading's: the atom child is a row without children, or missing, or Tag at once; and the numbers
-- behind it are refused at its start. Assumes nothing.
use Prim.Native.Nat.{ℕ, suc, ◌+◌, ◌-◌, ◌*◌, ◌≤◌, ◌<◌}
use native.Mathlib.Omega.{arith}
use mathlib.Core.Path.{◌≡◌, refl, ◌∙◌}
use mathlib.Core.List.{List}
use mathlib.Core.Bool.{Bool, true, false, not, ◌||◌}
use borrow.Author.Tests.{ltb-true, ltb-false, lt-ltb, le-ltb, eq-eqb}
use lib.Dec.{eqb, ltb}
use lib.ListN.{length, get_or}
use Rattle.std.specs.Prelude.{Option, Some, None, Ok, Err}
use Rattle.numbers.specs.Allowed.{plain}
use Rattle.numbers.specs.declared.Refusal.TheVariants as refusal
use Rattle.fields.specs.Be.{be_at}
use Rattle.fields.specs.Field.{holds}
use Rattle.fields.proofs.Laws.{there, is-there, is_gone}
use Rattle.rows.specs.Row.{Row}
use Rattle.rows.specs.Layout as layout
use Rattle.reading.specs.declared.Segment.{Segment}
use Rattle.reading.specs.Reading.{State, Result, done, no, and_then, moved, reach, begin, fields, pass}
use Rattle.reading.specs.Terms as reading
use Rattle.reading.specs.Terms.{is_atom, required, term}
use Rattle.reading.proofs.Families as way
use Rattle.heads.specs.Inner.Head as head
use Rattle.heads.specs.declared.Value.{Value}
use Rattle.heads.specs.declared.Value.TheVariants as value
use Rattle.heads.specs.declared.Run.{Run}
use Rattle.agree.specs.Head.{has_atom, atom_at, at_once, own_offset}
use Rattle.agree.proofs.Ways.{not_there, eof_gone, sized-missing, sized-there, sized_gone, named-atom, named-no, node_eof, node-other, AtomTag, atom_tag}
use Rattle.agree.proofs.Agrees.{Agrees, by, same, done-value, tag_at_once, behind_tag, sized}

module _ (b : List ℕ) (at : ℕ) where
  -- of the m bytes behind an atom's name the head makes a value where they are there, and none where one is missing
  record Numbers (m : ℕ) (f : Run → Option Value) : Type 0 where
    value : (r : Run) → r.at + r.len + m ≤ length b → Value
    there : (r : Run) (h : r.at + r.len + m ≤ length b) → f r ≡ Some (value r h)
    gone : (r : Run) → length b < r.at + r.len + m → f r ≡ None

  pid-numbers : Numbers 12 (head.pid_numbers b)
  unfolding head.pid_numbers
  pid-numbers = record {
    value = λ r h. _;
    there = λ r h.
        sized-there 4 b (r.at + r.len) _ (omega arith) ∙ sized-there 4 b (r.at + r.len + 4) _ (omega arith) ∙ sized-there 4 b (r.at + r.len + 8) _ (omega arith);
    gone = λ r h. sized-missing 4 b (r.at + r.len) _ (λ i. sized-missing 4 b (r.at + r.len + 4) _ (λ j. sized_gone 4 b (r.at + r.len + 8) _ (omega arith)));
  }

  port-numbers : Numbers 12 (head.port_numbers b)
  unfolding head.port_numbers
  port-numbers = record {
    value = λ r h. _;
    there = λ r h. sized-there 8 b (r.at + r.len) _ (omega arith) ∙ sized-there 4 b (r.at + r.len + 8) _ (omega arith);
    gone = λ r h. sized-missing 8 b (r.at + r.len) _ (λ i. sized_gone 4 b (r.at + r.len + 8) _ (omega arith));
  }

  reference-numbers : (k : ℕ) → Numbers (4 + 4 * k) (head.reference_numbers b k)
  unfolding head.reference_numbers
  reference-numbers k = record {
    value = λ r h. value.Reference k r (be_at 4 b (r.at + r.len)) (r.at + r.len + 4);
    there = λ r h. sized-there 4 b (r.at + r.len) _ (omega arith) ∙ rw (is-there (k * 4) b (r.at + r.len + 4) (omega arith));
    gone = λ r h. sized-missing 4 b (r.at + r.len) _ (λ i. rw (is_gone (k * 4) b (r.at + r.len + 4) (omega arith)));
  }

  -- a tag that has an atom, which starts at c
  record Atomic (tag c : ℕ) : Type 0 where
    some : has_atom tag ≡ true
    starts : atom_at tag at ≡ c

  module _ {tag c : ℕ} (a : Atomic tag c) where
    own_atom : own_offset tag at c ≡ true
    unfolding own_offset
    own_atom = rw (a.some, a.starts, eq-eqb c c refl) (go (eqb c at))
      where
        go : (x : Bool) → (x || true) ≡ true
        go true = refl
        go false = refl

    missing : length b ≤ c → at_once b tag at ≡ false
    unfolding at_once
    missing h = rw (a.starts, le-ltb c (length b) h)

    judged : (x : Bool) → c < length b → is_atom b c ≡ x → at_once b tag at ≡ not x
    unfolding at_once
    judged x h e = rw (a.starts, a.some, lt-ltb c (length b) h, e)

    -- behind the atom's name, where reading stands at e
    behind : (u : State) (m e : ℕ) (r : Run) (f : Run → Option Value) → u.last ≡ c → r.at + r.len ≡ e → at_once b tag at ≡ false → Numbers m f → Agrees b at tag (pass b m (moved e u)) (head.or_eof (f r) c)
    behind u m e r f l q h w = go (holds m b e) refl
      where
        go : (x : Bool) → holds m b e ≡ x → Agrees b at tag (pass b m (moved e u)) (head.or_eof (f r) c)
        go true k = let i : r.at + r.len + m ≤ length b = omega (arith, there m b e k) in by (way.pass_on b m (moved e u) k) (rw (w.there r i)) (done-value {v = w.value r i} h)
        go false k = by (way.pass_eof b m (moved e u) k) (rw (w.gone r (omega (arith, not_there m b e k)), ← l)) (same refusal.Eof (moved e u) h (rw l own_atom))

  module _ (limit left : ℕ) where
    abbrev child : State → Result
    child = term plain b limit (suc left)

    -- an atom child that is refused, and one that is read
    child_no : (t : State) (m : ℕ) {n x : ℕ} {u : State} {p : List Segment} → child t ≡ no n x u p → and_then (required child (is_atom b) t) (pass b m) ≡ no n x u p
    child_no t m e = way.then_no _ (pass b m) (way.required-is child (is_atom b) t ∙ way.then_no (child t) _ e)

    child_done : (t : State) (m : ℕ) {u : State} → child t ≡ done u → is_atom b t.at ≡ true → and_then (required child (is_atom b) t) (pass b m) ≡ pass b m u
    child_done t m e i = way.then_done _ (pass b m) (way.required-good child (is_atom b) t e i)

    module _ {tag : ℕ} (t : State) (m : ℕ) (f : Run → Option Value) (a : Atomic tag t.at) (w : Numbers m f) where
      abbrev c : ℕ
      c = t.at

      abbrev Atoms : Type 0
      Atoms = Agrees b at tag (and_then (required child (is_atom b) t) (pass b m)) (head.and_then (head.node b c) (λ r. head.or_eof (f r) c))

      -- the child is an atom: a row without children
      an_atom : c < length b → is_atom b c ≡ true → Atoms
      an_atom h i = go (layout.row_at b x (c + 1)) refl
        where
          x : ℕ
          x = get_or b c 0

          u : State
          u = begin (limit - (suc left - 1)) t

          one : AtomTag b x
          one = atom_tag b c i

          once : at_once b tag at ≡ false
          once = judged a true h i

          reads : child t ≡ fields (layout.row_at b x (c + 1)) u
          reads = way.term-body plain b limit (suc left) t u h (λ z. omega arith) refl ∙ one.body_is _ u

          go : (r : Row) → layout.row_at b x (c + 1) ≡ r → Atoms
          go (Ok e) q =
              let n = one.name c e q in
              by (child_done t m (reads ∙ way.fields-to u q) i) (named-atom _ (n.node h refl)) (behind a u m e n.name f refl n.ends once w)
          go (Err r) q = by (child_no t m (reads ∙ way.fields-no u q)) (named-no _ (one.refused c h refl q)) (same r u once (own_atom a))

      atomic : Atoms
      atomic = go (ltb c (length b)) (is_atom b c) refl refl
        where
          go : (y z : Bool) → ltb c (length b) ≡ y → is_atom b c ≡ z → Atoms
          go true true h i = an_atom (ltb-true c (length b) h) i
          go true false h i =
              let l = ltb-true c (length b) h in
              by refl (named-no _ (node-other b c l i) ∙ rw a.starts) (tag_at_once (judged a false l i))
          go false z h i =
              let l = ltb-false c (length b) h in
              by (child_no t m (way.term_eof plain b limit (suc left) t (reach t) l refl)) (named-no _ (node_eof b c l)) (same refusal.Eof (reach t) (missing a l) (own_atom a))

  module _ (begun deepest limit left : ℕ) where
    abbrev start : State
    start = behind_tag at begun deepest

    pub pid : Agrees b at 88 (reading.pid (child limit left) b start) (head.pid b at)
    unfolding reading.pid head.pid has_atom atom_at
    pid = atomic limit left start 12 _ (record { some = refl; starts = refl }) pid-numbers

    pub port : Agrees b at 120 (reading.pid (child limit left) b start) (head.port b at)
    unfolding reading.pid head.port has_atom atom_at
    port = atomic limit left start 12 _ (record { some = refl; starts = refl }) port-numbers

    pub reference : Agrees b at 90 (reading.reference (child limit left) b start) (head.reference b at)
    unfolding reading.reference head.reference has_atom atom_at
    reference =
        let q : at + 1 + 2 ≡ at + 3 = omega arith in
        let a : Atomic 90 (at + 3) = record { some = refl; starts = refl } in
        sized begun deepest 2 _ _ (λ e. missing a (omega (arith, eof_gone 2 b (at + 1) e)))
        (λ n e. rw q (atomic limit left (moved (at + 3) start) (4 + 4 * n) _ a (reference-numbers n)))
