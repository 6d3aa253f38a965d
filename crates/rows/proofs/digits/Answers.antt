-- `rows::digits` meets its contract. Assumes nothing.
use mathlib.Core.Path.{◌∙◌}
use Rattle.numbers.proofs.Laws.{handed}
use Rattle.rows.specs.Layout.{digits}
use Rattle.rows.proofs.digits.Goals as goal

pub returns-in_err-digits : goal.returns-in_err-digits
unfolding digits
returns-in_err-digits c = handed _ c.from_residual.ensures ∙ rw (← c.in_err-digits.ensures)

pub returns : goal.returns
unfolding digits
returns c = c.bytes-2.ensures ∙ rw (← c.in_ok-digits.ensures)
