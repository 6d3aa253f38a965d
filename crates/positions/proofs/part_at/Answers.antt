-- `positions::part_at` meets its contract. Assumes nothing.
use mathlib.Core.Path.{◌∙◌}
use Rattle.positions.proofs.Asking.{cell-part}
use Rattle.positions.proofs.part_at.Goals as goal

pub returns-in-Ok : goal.returns-in-Ok
returns-in-Ok c = c.part.ensures ∙ cell-part _ _ _ _ _ c.in-Ok.ensures

pub returns-in-Err : goal.returns-in-Err
returns-in-Err c = cell-part _ _ _ _ _ c.in-Err.ensures
