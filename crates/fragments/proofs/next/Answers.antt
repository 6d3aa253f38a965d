-- `fragments::next` meets its contract. Assumes nothing.
use mathlib.Core.Path.{sym, ◌∙◌}
use Rattle.numbers.proofs.Laws.{handed}
use Rattle.fragments.proofs.Laws as law
use Rattle.fragments.proofs.next.Goals as goal

pub returns-in_err-sequence : goal.returns-in_err-sequence
returns-in_err-sequence c = handed _ c.from_residual.ensures ∙ law.next-no _ (sym c.in_err-sequence.ensures)

pub returns : goal.returns
returns c = law.next-is _ (sym c.in_ok-sequence.ensures)
