-- What is written, read back, returns the row. It is stated of any call that keeps the promise of reading a record, so that a second reader has it
-- too. Assumes nothing.
use Prim.Native.Nat.{ℕ, ◌≤◌}
use native.Mathlib.Nat.{le-max_left}
use native.Mathlib.Omega.{arith}
use mathlib.Core.Path.{◌≡◌, ap, ◌∙◌}
use mathlib.Core.Bool.{true, false}
use mathlib.Core.List.{List}
use lib.ListN.{length, take}
use Rattle.std.specs.Prelude.{Ok}
use Rattle.layouts.specs.Tree.{Tree, node, none, more, size, sizes, depth, depths}
use Rattle.reading.specs.Told.{Told}
use Rattle.tape.specs.Read.{Recorded}
use Rattle.tape.proofs.Reading.{behind_131}
use Rattle.tape.proofs.Accepts.{at_front}
use Rattle.tape.proofs.Records.{complete, written as wrote}
use Rattle.measure.specs.Item.{Item}
use Rattle.measure.specs.Term.{written, accepted}
use Rattle.measure.proofs.Laid as measure
use Rattle.writer.specs.Write.{write_over}
use Rattle.writer.proofs.Writes.{done_writes}
use Rattle.roundtrip.specs.RoundTrip.{Enough, Returns}
use Rattle.roundtrip.proofs.Says.{Says}
use Rattle.roundtrip.proofs.Rows.{same}
use Rattle.roundtrip.proofs.Cells.{whole}
use Rattle.roundtrip.proofs.Counts.{counted}

one_deep : (t : Tree) → 1 ≤ depth t
unfolding depth
one_deep (node tag front ts back) = omega arith

-- "What is written, read back with enough cells and limit, gives the same items in order, tail Nils left out and a tag 110 taken as its number"
pub returns : {s : List Item} {limit : ℕ} {r : Told} {old new : List ℕ} → accepted s ≡ true → Enough s limit (length old) → Recorded (written s) limit r old new →
    Returns (written s) s r new
unfolding depths sizes
returns {s} {limit} {r} {old} {new} e h p =
    let a = measure.accepted-is s e in
    let w = measure.whole s e in
    let t = w.tree in
    let says : Says false (more t none) s = rw w.only at (same s a.goes) in
    let n = counted says in
    let nested : depth t ≤ limit = omega (arith, h.nested, ap depths w.only, le-max_left (depth t) 0) in
    let (d, c) = complete (written s) limit (length old) (omega (arith, one_deep t)) h.legal a.short (record { tree = t; laid = w.laid; is = w.is; nested = nested; room = omega (arith, h.room) }) in
    let done : r.number ≡ 0 = ap (λ (x : Told). x.number) p.answered ∙ d in
    let begun : r.begun ≡ size t = ap (λ (x : Told). x.begun) p.answered ∙ c in
    record {
      done = done;
      cells = omega arith;
      items = rw begun (whole (written s) new says (at_front 1 t old (wrote p done t w.laid w.is)) (behind_131 t w.is));
    }

-- the same of a write that was Done: the bytes that it says it wrote, the front of what was lent, return the row
pub round_trip : (s : List Item) (lent : List ℕ) {n : ℕ} → (write_over s lent).answer ≡ Ok n → {limit : ℕ} {r : Told} {old new : List ℕ} → Enough s limit (length old) →
    Recorded (take n (write_over s lent).bytes) limit r old new → Returns (take n (write_over s lent).bytes) s r new
round_trip s lent e h p =
    let (a, b) = done_writes s lent e in
    rw b (returns a h (rw b at p))
