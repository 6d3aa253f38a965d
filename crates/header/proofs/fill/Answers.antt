-- `header::fill` meets its contract. The loop's invariant: all references from the start over the slots as they were leave what the rest from here
-- leaves over the slots now (`Going`). Assumes nothing.
use native.Mathlib.Omega.{arith}
use mathlib.Core.Path.{refl, sym, ap, ◌∙◌}
use Rattle.std.specs.Prelude.{Ok}
use Rattle.numbers.proofs.Laws.{handed}
use Rattle.references.specs.Header.{is_new}
use Rattle.references.proofs.Reading.{found, old_there}
use Rattle.names.proofs.Going.{starts, stops, passes, refuses, completes, stopped}
use Rattle.header.proofs.Leaving.{fits, too_large}
use Rattle.header.proofs.fill.Goals as goal
use Rattle.header.proofs.fill.Goals.{in-Old, in-New+else-len-gt255}

pub loop-i-init : goal.loop-i-init
loop-i-init c = starts

pub returns-in_err-reference_at : goal.returns-in_err-reference_at
unfolding is_new
returns-in_err-reference_at c =
    rw (handed _ c.from_residual.ensures) (refuses c.loop-i-test.true c.loop-i.invariant c.is_new-new.ensures c.in_err-reference_at.ensures refl)

pub overflow_add-p : goal.overflow_add-p
overflow_add-p c = record { fits = omega (arith, old_there _ _ _ _ (sym c.in_ok-reference_at.ensures ∙ ap Ok c.in-Old.is)) }

pub returns-then-len-gt255 : goal.returns-then-len-gt255
unfolding is_new
returns-then-len-gt255 c =
    let i = (found _ _ _ _ (sym c.in_ok-reference_at.ensures ∙ ap Ok c.in-New.is)).inside in
    stopped c.loop-i-test.true c.loop-i.invariant c.is_new-new.ensures c.in_ok-reference_at.ensures (ap Ok c.in-New.is)
    (too_large _ _ _ _ _ _ i (omega (arith, c.if-len-gt255.true)))

pub overflow_add-p-in-New : goal.overflow_add-p-in-New
overflow_add-p-in-New c = record { fits = omega (arith, (found _ _ _ _ (sym c.in_ok-reference_at.ensures ∙ ap Ok c.in-New.is)).inside) }

pub slice_bounds-put-end : goal.slice_bounds-put-end
slice_bounds-put-end c = omega (arith, (found _ _ _ _ (sym c.in_ok-reference_at.ensures ∙ ap Ok c.in-New.is)).inside)

pub loop-i-preserved : goal.loop-i-preserved
unfolding is_new
loop-i-preserved c =
    elim c.match-branch-2.branch [
      | in-Old w ↦ rw (w.cache-is, w.store-is, w.p-is) (passes c.loop-i-test.true c.loop-i.invariant c.is_new-new.ensures c.in_ok-reference_at.ensures (ap Ok w.in-Old.is))
      | in-New+else-len-gt255 w ↦
          let i = (found _ _ _ _ (sym c.in_ok-reference_at.ensures ∙ ap Ok w.in-New.is)).inside in
          let e = fits _ _ _ _ _ _ i (omega (arith, w.if-len-gt255.false)) w.mark.ensures w.put.ensures in
          rw (w.cache-is, w.store-is, w.p-is) (completes c.loop-i-test.true c.loop-i.invariant c.is_new-new.ensures c.in_ok-reference_at.ensures (ap Ok w.in-New.is) e)
    ]

pub returns : goal.returns
returns c = stops c.loop-i-test.false c.loop-i.invariant
