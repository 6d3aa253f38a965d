-- `positions::get_at` meets its contract. Assumes nothing.
use mathlib.Core.Path.{◌∙◌}
use Rattle.numbers.proofs.Laws.{handed}
use Rattle.positions.proofs.Asking.{cell-store, cell-asked}
use Rattle.positions.proofs.get_at.Goals as goal

pub returns-then-store-ne-STORE_BYTES : goal.returns-then-store-ne-STORE_BYTES
returns-then-store-ne-STORE_BYTES c = cell-store _ _ _ _ _ c.if-store-ne-STORE_BYTES.true

pub returns-in_err-position : goal.returns-in_err-position
returns-in_err-position c = handed _ c.from_residual.ensures ∙ cell-asked _ _ _ _ _ c.if-store-ne-STORE_BYTES.false c.in_err-position.ensures

pub returns : goal.returns
returns c = c.get.ensures ∙ cell-asked _ _ _ _ _ c.if-store-ne-STORE_BYTES.false c.in_ok-position.ensures
