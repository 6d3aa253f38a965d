-- Readers that document 01 shuts out by name, each on an input where its answer or its tape breaks the promise of `read`
-- (specs/Read.antt, `Recorded`), and the record that document 01 prints. Assumes nothing.
use Prim.Native.Nat.{ℕ, suc, ◌-◌, ◌*◌, ◌≤◌, ◌<◌}
use native.Mathlib.Omega.{arith}
use mathlib.Core.Path.{◌≡◌, refl, ap, sym, ◌∙◌}
use mathlib.Core.Bool.{true}
use mathlib.Core.Option.{some}
use mathlib.Core.List.{List, [], ◌∷◌, flat_map}
use lib.ListN.{length, get_or, get_elem?, take, drop}
use Rattle.numbers.specs.Caps as cap
use Rattle.numbers.specs.Allowed.{plain}
use Rattle.fields.specs.Be.{be}
use Rattle.utf8.specs.Unicode.{scalar, encode}
use Rattle.utf8.specs.Good as good
use Rattle.numbers.specs.Numbers as number
use Rattle.reading.specs.Told.{Told}
use Rattle.reading.specs.declared.Kind.TheVariants as kind
use Rattle.reading.specs.declared.Segment.{Segment}
use Rattle.reading.specs.Reading.{State, Result, done, no}
use Rattle.reading.specs.Answer.{refusal, answer, read_at}
use Rattle.reading.proofs.Examples.{behind, stands, segment, nil, second_missing}
use Rattle.reading.proofs.Answers as answers
use Rattle.layouts.specs.Tree.{Tree, node, none, more, leaf, bytes, bytes_all, size, sizes, count}
use Rattle.layouts.specs.Layout as layout
use Rattle.layouts.specs.Layout.{Laid, Number, row, small_tuple, list, no_more, one_more}
use Rattle.layouts.specs.Nodes.{Node, nodes, nodes_all}
use Rattle.layouts.proofs.Shapes.{unique}
use Rattle.tape.specs.Cells.{cell_words, cell_of, words, taped}
use Rattle.tape.specs.Read.{whole_from, Recorded}
use Rattle.tape.specs.Spans.{OnePerTerm, tag_at}
use Rattle.tape.proofs.Reading.{before-term, behind-term, whole-refused, whole_trailing, whole_room, whole-done, behind_131}
use Rattle.tape.proofs.Records.{written}

-- what a promised call answers and leaves, by what the reading behind byte 131 comes to
module _ {l : List ℕ} {r : Told} {old new : List ℕ} (short : suc (length l) ≤ cap.input) (p : Recorded (131 ∷ l) 64 r old new) where
  whole : {a : Told} → a ≡ whole_from plain (131 ∷ l) 1 64 (length old) → r ≡ a
  whole e = p.answered ∙ sym (behind-term (131 ∷ l) 64 (length old) (before-term (131 ∷ l) 64 (omega arith, (omega arith, short)) (λ z. omega arith) refl)) ∙ sym e

  reads : {o : Result} → behind (131 ∷ l) 64 ≡ o → answer o ≡ read_at (131 ∷ l) 1 64
  unfolding behind
  reads {o} e = sym (answers.read-on plain (131 ∷ l) 1 64 o (λ z. omega arith) (omega arith) short (sym e))

  left_alone : {a : Told} → ¬ (a.number ≡ 0) → a ≡ whole_from plain (131 ∷ l) 1 64 (length old) → (r ≡ a) × (new ≡ old)
  left_alone h e = (whole e, p.refused (rw (whole e) h))

  refused : {n x : ℕ} {s : State} {way : List Segment} → behind (131 ∷ l) 64 ≡ no n x s way → ¬ (n ≡ 0) → (r ≡ answer (no n x s way)) × (new ≡ old)
  unfolding answer
  refused e h = left_alone h (whole-refused plain (131 ∷ l) 1 64 (length old) (reads e) h)

  module _ {s : State} (e : behind (131 ∷ l) 64 ≡ done s) where
    trailing : s.at < suc (length l) → (r ≡ refusal number.Trailing s.at (suc (length l) - s.at) s.begun s.deepest []) × (new ≡ old)
    unfolding answer
    trailing h = left_alone (λ z. omega arith) (whole_trailing plain (131 ∷ l) 1 64 (length old) (reads e) refl h)

    no_room : suc (length l) ≤ s.at → length old < cell_words * s.begun → (r ≡ refusal number.Room 0 s.begun s.begun s.deepest []) × (new ≡ old)
    unfolding answer
    no_room h k = left_alone (λ z. omega arith) (whole_room plain (131 ∷ l) 1 64 (length old) (reads e) refl h k)

    goes : suc (length l) ≤ s.at → cell_words * s.begun ≤ length old → r ≡ answer (done s)
    unfolding answer
    goes h k = whole (whole-done plain (131 ∷ l) 1 64 (length old) (reads e) refl h k)

-- a number as its bytes
exact : {l : List ℕ} → Number (length l) l (be l)
exact = record { wide = refl; is = refl }

-- an atom whose name is a letter
named : (x : ℕ) → scalar x ≡ true → encode x ≡ x ∷ [] → Laid plain (leaf 119 (1 ∷ x ∷ []))
unfolding be good.spelled
named x h e = row (layout.small_atom (1 ∷ []) (x ∷ []) exact (record { chars = x ∷ []; scalars = good.more h good.none; is = rw e }))

-- 131 106, with room for its cell
module _ {r : Told} {old new : List ℕ} (h : 5 ≤ length old) (p : Recorded (131 ∷ 106 ∷ []) 64 r old new) where
  nil-done : r ≡ answer (done (stands 2 1 1 1))
  nil-done = goes (omega arith) p nil (omega arith) h

  nil_tape : new ≡ 106 ∷ 1 ∷ 2 ∷ 0 ∷ 1 ∷ drop 5 old
  unfolding answer bytes bytes_all size sizes words nodes nodes_all flat_map taped
  nil_tape = written p (rw nil-done refl) (leaf 106 []) (row layout.nil) refl

-- 131 104 1 106: its reading, and with room for its cells
tuple : behind (131 ∷ 104 ∷ 1 ∷ 106 ∷ []) 64 ≡ done (stands 4 3 2 2)
unfolding behind
tuple = refl

module _ {r : Told} {old new : List ℕ} (h : 10 ≤ length old) (p : Recorded (131 ∷ 104 ∷ 1 ∷ 106 ∷ []) 64 r old new) where
  tuple-done : r ≡ answer (done (stands 4 3 2 2))
  tuple-done = goes (omega arith) p tuple (omega arith) h

  tuple_tape : new ≡ 104 ∷ 1 ∷ 4 ∷ 0 ∷ 2 ∷ 106 ∷ 3 ∷ 4 ∷ 0 ∷ 1 ∷ drop 10 old
  unfolding answer be bytes bytes_all count size sizes words nodes nodes_all flat_map taped
  tuple_tape =
      written p (rw tuple-done refl) (node 104 (1 ∷ []) (more (leaf 106 []) none) [])
      (small_tuple exact (one_more (row layout.nil) no_more)) refl

-- "a reader that refuses everything": where there is room, 131 106 isn't refused
pub refuses_everything : {r : Told} {old new : List ℕ} → 5 ≤ length old → ¬ (r.number ≡ 0) → ¬ Recorded (131 ∷ 106 ∷ []) 64 r old new
unfolding answer
refuses_everything h n p = n (rw (nil-done h p) refl)

-- "or says Done with one fixed tape": no tape is that of 131 106 and of 131 104 1 106
pub one-fixed_tape : {r s : Told} {old tape : List ℕ} → 10 ≤ length old → Recorded (131 ∷ 106 ∷ []) 64 r old tape →
    ¬ Recorded (131 ∷ 104 ∷ 1 ∷ 106 ∷ []) 64 s old tape
one-fixed_tape h p q = omega (arith, ap (λ (t : List ℕ). tag_at t 0) (sym (nil_tape (omega arith) p) ∙ tuple_tape h q))

-- "one that returns Done and writes no cell": the tape of 131 106 isn't left as it was
pub no_cell : {r : Told} {old : List ℕ} → 5 ≤ length old → ¬ (tag_at old 0 ≡ 106) → ¬ Recorded (131 ∷ 106 ∷ []) 64 r old old
no_cell h n p = n (ap (λ (t : List ℕ). tag_at t 0) (nil_tape h p))

-- "or the root only": the second cell of 131 104 1 106 isn't left as it was
pub root-only : {r : Told} {old new : List ℕ} → 10 ≤ length old → ¬ (tag_at old 1 ≡ 106) → tag_at new 1 ≡ tag_at old 1 →
    ¬ Recorded (131 ∷ 104 ∷ 1 ∷ 106 ∷ []) 64 r old new
root-only h n e p = n (sym e ∙ ap (λ (t : List ℕ). tag_at t 1) (tuple_tape h p))

-- "a count of terms taken from the input's length": 131 119 1 97 and 131 104 1 106 have four bytes each, and one term and two
pub count_from_length : (f : ℕ → ℕ) {r s : Told} {old new other : List ℕ} → 10 ≤ length old →
    Recorded (131 ∷ 119 ∷ 1 ∷ 97 ∷ []) 64 r old new → r.begun ≡ f 4 → Recorded (131 ∷ 104 ∷ 1 ∷ 106 ∷ []) 64 s old other → ¬ (s.begun ≡ f 4)
unfolding answer behind
count_from_length f h p d q e =
    omega (arith, d, e, ap (λ (a : Told). a.begun) (goes (omega arith) p refl (omega arith) (omega arith)), ap (λ (a : Told). a.begun) (tuple-done h q))

-- "Stopping quietly at the last cell": 131 104 1 106 with less than two cells lent is Room, extra 2, offset 0, and nothing is written
pub quiet_stop : {r : Told} {old new : List ℕ} → length old < 10 → Recorded (131 ∷ 104 ∷ 1 ∷ 106 ∷ []) 64 r old new →
    (r ≡ refusal number.Room 0 2 2 2 []) × (new ≡ old)
quiet_stop h p = no_room (omega arith) p tuple (omega arith) h

-- a list of one small integer and a tail
abbrev one_then : ℕ → Tree → Tree
one_then x tail = node 108 (0 ∷ 0 ∷ 0 ∷ 1 ∷ []) (more (leaf 97 (x ∷ [])) (more tail none)) []

one-laid : {x : ℕ} {tail : Tree} → Laid plain tail → Laid plain (one_then x tail)
unfolding be count
one-laid l = list {m = 1} exact (omega arith) refl (one_more (row (layout.small_integer refl)) (one_more l no_more))

-- "Folding a list whose tail is a list into one": 131 108 0 0 0 1 97 1 108 0 0 0 1 97 2 106 has five cells, of which the third is the tail's,
-- and the fourth and fifth are the tail's own children
pub folded_tail : {r : Told} {old new : List ℕ} → 25 ≤ length old →
    Recorded (131 ∷ 108 ∷ 0 ∷ 0 ∷ 0 ∷ 1 ∷ 97 ∷ 1 ∷ 108 ∷ 0 ∷ 0 ∷ 0 ∷ 1 ∷ 97 ∷ 2 ∷ 106 ∷ []) 64 r old new →
    (r.begun ≡ 5)
    × (new ≡ 108 ∷ 1 ∷ 16 ∷ 0 ∷ 5 ∷ 97 ∷ 6 ∷ 8 ∷ 0 ∷ 1 ∷ 108 ∷ 8 ∷ 16 ∷ 0 ∷ 3 ∷ 97 ∷ 13 ∷ 15 ∷ 2 ∷ 1 ∷ 106 ∷ 15 ∷ 16 ∷ 2 ∷ 1 ∷ drop 25 old)
unfolding answer behind be bytes bytes_all count size sizes words nodes nodes_all flat_map taped
folded_tail {r} h p =
    let e : r ≡ answer (done (stands 16 15 5 3)) = goes (omega arith) p refl (omega arith) h in
    (rw e refl, written p (rw e refl) (one_then 1 (one_then 2 (leaf 106 []))) (one-laid (one-laid (row layout.nil))) refl)

-- "Only a Done read writes the tape": a reader that writes cells before it knows of the refusal. 131 104 2 97 5 is Eof at 5, path tuple:1,
-- and nothing is written, whatever is lent
pub early_tape : {r : Told} {old new : List ℕ} → Recorded (131 ∷ 104 ∷ 2 ∷ 97 ∷ 5 ∷ []) 64 r old new →
    (r ≡ refusal number.Eof 5 0 2 2 (segment kind.Tuple 1 ∷ [])) × (new ≡ old)
unfolding answer
early_tape p = refused (omega arith) p second_missing (λ z. omega arith)

-- ".. then Trailing .., then Room": a reader that asks for room first. 131 106 0 is Trailing, extra 1, offset 2, though nothing is lent
pub room-first : {r : Told} {new : List ℕ} → Recorded (131 ∷ 106 ∷ 0 ∷ []) 64 r [] new → (r ≡ refusal number.Trailing 2 1 1 1 []) × (new ≡ [])
unfolding behind
room-first p = trailing (omega arith) p refl (omega arith)

-- 131 104 2 97 5 119 1 97, which document 01 prints
pub printed : {r : Told} {old new : List ℕ} → 15 ≤ length old → Recorded (131 ∷ 104 ∷ 2 ∷ 97 ∷ 5 ∷ 119 ∷ 1 ∷ 97 ∷ []) 64 r old new →
    (r.number ≡ 0) × (r.begun ≡ 3) × (r.deepest ≡ 2)
    × (new ≡ 104 ∷ 1 ∷ 8 ∷ 0 ∷ 3 ∷ 97 ∷ 3 ∷ 5 ∷ 0 ∷ 1 ∷ 119 ∷ 5 ∷ 8 ∷ 0 ∷ 1 ∷ drop 15 old)
unfolding answer behind scalar encode be bytes bytes_all count size sizes words nodes nodes_all flat_map taped
printed {r} h p =
    let e : r ≡ answer (done (stands 8 5 3 2)) = goes (omega arith) p refl (omega arith) h in (
      rw e refl,
      rw e refl,
      rw e refl,
      written p (rw e refl) (node 104 (2 ∷ []) (more (leaf 97 (5 ∷ [])) (more (leaf 119 (1 ∷ 97 ∷ [])) none)) [])
          (small_tuple exact (one_more (row (layout.small_integer refl)) (one_more (named 97 refl refl) no_more)))
          refl,
    )

-- the cell that number i of a record's terms must have, whatever tree the record is taken for: it is one tree's
must_be : {b tape : List ℕ} {n : ℕ} (x t : Tree) → length b ≤ cap.input → Laid plain x → b ≡ 131 ∷ bytes x → Laid plain t → b ≡ 131 ∷ bytes t → OnePerTerm tape plain b 1 t n →
    (i : ℕ) → i < n → {m : Node} → get_elem? (nodes x 1 0 0) i ≡ some m → take cell_words (drop (cell_words * i) tape) ≡ cell_of m
must_be {b} x t h l e l' e' w i k {m} f =
    let u : x ≡ t = unique b 1 x t h l l' (behind_131 x e) (behind_131 t e') in
    let c = w.each i k in
    let g : some m ≡ some c.node = sym f ∙ ap (λ (y : Tree). get_elem? (nodes y 1 0 0) i) u ∙ c.numbered in
    let j : c.node ≡ m = cc in
    c.cell.same ∙ ap cell_of j

-- "one cell per term": a reader that looks for tags byte by byte, and so finds a term inside a binary. 131 104 2 109 0 0 0 1 106 106 has
-- the binary's cell, and none for the byte 106 in it
pub inside_a_binary : (t : Tree) → Laid plain t → 131 ∷ 104 ∷ 2 ∷ 109 ∷ 0 ∷ 0 ∷ 0 ∷ 1 ∷ 106 ∷ 106 ∷ [] ≡ 131 ∷ bytes t → {rest : List ℕ} →
    ¬ OnePerTerm (104 ∷ 1 ∷ 10 ∷ 0 ∷ 3 ∷ 106 ∷ 8 ∷ 9 ∷ 0 ∷ 1 ∷ 106 ∷ 9 ∷ 10 ∷ 0 ∷ 1 ∷ rest) plain (131 ∷ 104 ∷ 2 ∷ 109 ∷ 0 ∷ 0 ∷ 0 ∷ 1 ∷ 106 ∷ 106 ∷ []) 1 t 3
unfolding be bytes count nodes
inside_a_binary t l e w =
    let x : Tree = node 104 (2 ∷ []) (more (leaf 109 (0 ∷ 0 ∷ 0 ∷ 1 ∷ 106 ∷ [])) (more (leaf 106 []) none)) [] in
    let k : Laid plain x = small_tuple exact (one_more (row (layout.binary (0 ∷ 0 ∷ 0 ∷ 1 ∷ []) (106 ∷ []) exact (omega arith))) (one_more (row layout.nil) no_more)) in
    omega (arith, ap (λ (c : List ℕ). get_or c 0 0) (must_be x t (omega arith) k refl l e w 1 (omega arith) refl))

-- or inside a name: 131 104 1 119 1 106 has the atom's cell, and none for the byte 106 in it
pub inside_a_name : (t : Tree) → Laid plain t → 131 ∷ 104 ∷ 1 ∷ 119 ∷ 1 ∷ 106 ∷ [] ≡ 131 ∷ bytes t → {rest : List ℕ} →
    ¬ OnePerTerm (104 ∷ 1 ∷ 6 ∷ 0 ∷ 2 ∷ 106 ∷ 5 ∷ 6 ∷ 0 ∷ 1 ∷ rest) plain (131 ∷ 104 ∷ 1 ∷ 119 ∷ 1 ∷ 106 ∷ []) 1 t 2
unfolding be bytes count nodes scalar encode
inside_a_name t l e w =
    let x : Tree = node 104 (1 ∷ []) (more (leaf 119 (1 ∷ 106 ∷ [])) none) [] in
    let k : Laid plain x = small_tuple exact (one_more (named 106 refl refl) no_more) in
    omega (arith, ap (λ (c : List ℕ). get_or c 0 0) (must_be x t (omega arith) k refl l e w 1 (omega arith) refl))

-- a reader that writes one child's cell for its sibling too: the third cell of 131 104 2 106 106 starts at 4 and not at 3
pub child_twice : (t : Tree) → Laid plain t → 131 ∷ 104 ∷ 2 ∷ 106 ∷ 106 ∷ [] ≡ 131 ∷ bytes t → {rest : List ℕ} →
    ¬ OnePerTerm (104 ∷ 1 ∷ 5 ∷ 0 ∷ 3 ∷ 106 ∷ 3 ∷ 4 ∷ 0 ∷ 1 ∷ 106 ∷ 3 ∷ 4 ∷ 0 ∷ 1 ∷ rest) plain (131 ∷ 104 ∷ 2 ∷ 106 ∷ 106 ∷ []) 1 t 3
unfolding be bytes count nodes
child_twice t l e w =
    let x : Tree = node 104 (2 ∷ []) (more (leaf 106 []) (more (leaf 106 []) none)) [] in
    let k : Laid plain x = small_tuple exact (one_more (row layout.nil) (one_more (row layout.nil) no_more)) in
    omega (arith, ap (λ (c : List ℕ). get_or c 1 0) (must_be x t (omega arith) k refl l e w 2 (omega arith) refl))

-- a reader that writes a cell when its term ends: the cells of 131 104 1 106 are all there, and the child's stands before its parent's
pub children_first : (t : Tree) → Laid plain t → 131 ∷ 104 ∷ 1 ∷ 106 ∷ [] ≡ 131 ∷ bytes t → {rest : List ℕ} →
    ¬ OnePerTerm (106 ∷ 3 ∷ 4 ∷ 1 ∷ 1 ∷ 104 ∷ 1 ∷ 4 ∷ 1 ∷ 2 ∷ rest) plain (131 ∷ 104 ∷ 1 ∷ 106 ∷ []) 1 t 2
unfolding be bytes count nodes
children_first t l e w =
    let x : Tree = node 104 (1 ∷ []) (more (leaf 106 []) none) [] in
    let k : Laid plain x = small_tuple exact (one_more (row layout.nil) no_more) in
    omega (arith, ap (λ (c : List ℕ). get_or c 0 0) (must_be x t (omega arith) k refl l e w 0 (omega arith) refl))
