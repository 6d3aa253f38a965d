-- `references::one_segment` meets its contract. The loop's invariant: each reference passed has segment number 0. Assumes nothing.
use native.Mathlib.Omega.{arith}
use mathlib.Core.Path.{sym, ◌∙◌}
use borrow.Author.Count.{below_more}
use Rattle.references.specs.Header.{segment, half_byte}
use Rattle.references.proofs.Reading.{first_byte, past-end}
use Rattle.references.proofs.OneSegment.{one-segment, other-segment, no_more}
use Rattle.references.proofs.one_segment.Goals as goal

pub returns-in_default : goal.returns-in_default
returns-in_default c = no_more _ _ c.loop-i.i c.loop-i.invariant (past-end _ _ (sym c.be_u8.ensures ∙ c.in_default.is))

pub returns-then-half-ne0 : goal.returns-then-half-ne0
unfolding segment half_byte
returns-then-half-ne0 c =
    let (_, flag) = first_byte _ _ (sym c.in-Some.ensures) in
    other-segment _ _ c.loop-i.i (omega arith) (rw flag (λ e. c.if-half-ne0.true (omega (arith, c.half.ensures))))

pub loop-i-preserved : goal.loop-i-preserved
unfolding segment half_byte
loop-i-preserved c =
    let (_, flag) = first_byte _ _ (sym c.in-Some.ensures) in
    below_more _ _ c.loop-i.invariant (rw flag (omega (arith, c.half.ensures)))

pub returns : goal.returns
returns c = sym ((one-segment _ _).1 (λ k h. c.loop-i.invariant k (omega arith)))
