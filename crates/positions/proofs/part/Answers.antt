-- `positions::part` meets its contract. Assumes nothing.
use mathlib.Core.Path.{ap, ◌∙◌}
use Rattle.cache.specs.Names.{part_of}
use Rattle.positions.proofs.Asking.{in_slot, part_none}
use Rattle.positions.proofs.part.Goals as goal

pub returns-then-position-run : goal.returns-then-position-run
returns-then-position-run c = c.part.ensures ∙ (rw c.from.ensures (ap (part_of _) (in_slot _ _ _ _ c.if-position-run.true)))

pub returns-else-position-run : goal.returns-else-position-run
returns-else-position-run c = part_none _ _ _ _ c.if-position-run.false
