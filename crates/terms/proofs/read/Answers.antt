-- `terms::read` meets its contract: what the readers leave behind is the answer. Assumes nothing.
use mathlib.Core.Path.{◌≡◌, refl, sym, ◌∙◌}
use native.Mathlib.Omega.{arith}
use lib.ListN.{length}
use Prim.Native.Nat.{ℕ}
use borrow.Author.Rules.{rules}
use Rattle.reading.specs.Answer.{answer}
use Rattle.reading.proofs.Answers.{starts-reads, read_no, read-on, read_past}
use Rattle.std.specs.Prelude.{Err}
use Rattle.reading.specs.Told.{padded, told}
use Rattle.reading.specs.Reading.{Result}
use Rattle.terms.specs.declared.Left.{Left}
use Rattle.terms.specs.Inner.Lent.{path_of, Stops}
use Rattle.terms.proofs.read.Goals as goal

pub returns-in-Err : goal.returns-in-Err
returns-in-Err c = c.refused.ensures ∙ sym (read_no _ _ _ _ _ (sym c.in-Err.ensures))

pub returns-then-b-at : goal.returns-then-b-at
returns-then-b-at c =
    let (l, (m, n)) = starts-reads _ _ (sym c.starts.ensures ∙ c.in_default.is) in
    c.refused-then-b-at.ensures ∙ sym (read_past _ _ _ _ (λ e. omega arith) m n (omega arith))

pub term-found-requires : goal.term-found-requires
term-found-requires c = let s = starts-reads _ _ (sym c.starts.ensures ∙ c.in_default.is) in search rules

pub outwards-requires : goal.outwards-requires
outwards-requires c =
    let (l, (m, n)) = starts-reads _ _ (sym c.starts.ensures ∙ c.in_default.is) in
    omega (arith, c.in-None.ensures.shown.few)

pub returns-in-Some : goal.returns-in-Some
unfolding answer
returns-in-Some c =
    let (l, (m, n)) = starts-reads _ _ (sym c.starts.ensures ∙ c.in_default.is) in
    sym (read-on _ _ _ _ _ (λ e. omega arith) m n (sym c.in-Some.ensures.shown.same))

refused : {left : Left} {room : ℕ} {o : Result} → length (path_of left.fault) ≡ left.fault.len → Stops left room o →
    told (Err (record { why = left.fault.why; offset = left.seen.last; path = record { len = left.fault.len; segments = padded (path_of left.fault) } })) left.seen.begun left.seen.deepest ≡ answer o
unfolding answer
refused l s = rw (s.same, l)

pub returns-in-None : goal.returns-in-None
returns-in-None c =
    let (l, (m, n)) = starts-reads _ _ (sym c.starts.ensures ∙ c.in_default.is) in
    rw c.outwards.ensures.path (refused c.outwards.ensures.len c.in-None.ensures.shown ∙ sym (read-on _ _ _ _ _ (λ e. omega arith) m n refl))
