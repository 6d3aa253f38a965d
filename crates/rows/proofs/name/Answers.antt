-- `rows::name` meets its contract: the part that is judged is the n bytes. Assumes nothing.
use native.Mathlib.Omega.{arith}
use mathlib.Core.Bool.{true, false}
use mathlib.Core.Path.{sym, ◌∙◌}
use Rattle.std.proofs.Common.{eq-eqb, ne_eqb}
use Rattle.numbers.proofs.Laws.{handed}
use Rattle.rows.specs.Row.{name}
use Rattle.rows.proofs.Ends.{bytes-within, name_is}
use Rattle.rows.proofs.name.Goals as goal

pub returns-in_err-end : goal.returns-in_err-end
unfolding name
returns-in_err-end c = handed _ c.from_residual.ensures ∙ rw (← c.in_err-end.ensures)

pub slice_bounds-good-count : goal.slice_bounds-good-count
slice_bounds-good-count c = (bytes-within _ _ _ (sym c.in_ok-end.ensures)).0

pub slice_bounds-good-start : goal.slice_bounds-good-start
slice_bounds-good-start c = omega (arith, bytes-within _ _ _ (sym c.in_ok-end.ensures))

pub slice_bounds-good-end : goal.slice_bounds-good-end
slice_bounds-good-end c = omega (arith, bytes-within _ _ _ (sym c.in_ok-end.ensures))

pub returns-then-good-n : goal.returns-then-good-n
returns-then-good-n c = name_is _ _ _ (sym c.in_ok-end.ensures) true (rw (← c.good.ensures) (eq-eqb _ _ c.if-good-n.true))

pub returns-else-good-n : goal.returns-else-good-n
returns-else-good-n c = name_is _ _ _ (sym c.in_ok-end.ensures) false (rw (← c.good.ensures) (ne_eqb _ _ c.if-good-n.false))
