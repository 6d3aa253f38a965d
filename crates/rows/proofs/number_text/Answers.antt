-- `rows::number_text` meets its contract: the text that is trimmed and judged is the 31 bytes. Assumes nothing.
use native.Mathlib.Omega.{arith}
use lib.Seq.{length-take-le}
use mathlib.Core.Bool.{true, false}
use mathlib.Core.Path.{sym, ◌∙◌}
use Rattle.numbers.proofs.Laws.{handed}
use Rattle.literal.proofs.Trims.{trimmed-is}
use Rattle.rows.specs.Layout.{number_text}
use Rattle.rows.proofs.Laws.{name-to, number_text-is}
use Rattle.rows.proofs.number_text.Goals as goal

pub returns-in_err-end : goal.returns-in_err-end
unfolding number_text
returns-in_err-end c = handed _ c.from_residual.ensures ∙ rw (← c.in_err-end.ensures)

pub slice_bounds-text-count : goal.slice_bounds-text-count
slice_bounds-text-count c = omega (arith, name-to _ 31 _ (sym c.in_ok-end.ensures))

pub slice_bounds-text-start : goal.slice_bounds-text-start
slice_bounds-text-start c = omega (arith, name-to _ 31 _ (sym c.in_ok-end.ensures))

pub slice_bounds-text-end : goal.slice_bounds-text-end
slice_bounds-text-end c = omega (arith, name-to _ 31 _ (sym c.in_ok-end.ensures))

pub slice_bounds-literal-end : goal.slice_bounds-literal-end
slice_bounds-literal-end c = sym (length-take-le _ _ (rw c.trim-n.ensures (trimmed-is _).inside))

pub returns-then-literal : goal.returns-then-literal
returns-then-literal c = number_text-is _ _ (sym c.in_ok-end.ensures) c.trim-n.ensures true (sym c.literal.ensures ∙ c.if-literal.true)

pub returns-else-literal : goal.returns-else-literal
returns-else-literal c = number_text-is _ _ (sym c.in_ok-end.ensures) c.trim-n.ensures false (sym c.literal.ensures ∙ c.if-literal.false)
