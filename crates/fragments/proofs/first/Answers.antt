-- `fragments::first` meets its contract. Assumes nothing.
use mathlib.Core.Path.{sym, ◌∙◌}
use Rattle.numbers.proofs.Laws.{handed}
use Rattle.fragments.proofs.Laws as law
use Rattle.fragments.proofs.first.Goals as goal

pub returns-in_err-sequence : goal.returns-in_err-sequence
returns-in_err-sequence c = handed _ c.from_residual.ensures ∙ law.first-no _ (sym c.in_err-sequence.ensures)

pub returns-in_err-count : goal.returns-in_err-count
returns-in_err-count c =
    law.misses _ _ c.from_residual-in_err-count.ensures c.in_err-count.ensures.ok_part c.in_err-count.ensures.value
    ∙ law.no-count _ (sym c.in_ok-sequence.ensures) (sym c.be_u8.ensures ∙ c.in_err-count.ensures.ok_part)

pub returns : goal.returns
returns c = rw c.from.ensures (law.first-is _ (sym c.in_ok-sequence.ensures) (sym c.be_u8.ensures ∙ c.in_ok-count.ensures.ok_part))
