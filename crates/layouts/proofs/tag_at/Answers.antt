-- `layouts::tag_at` meets its contract. Assumes nothing.
use Rattle.layouts.proofs.Shapes.{tag-is, inside_long}
use Rattle.layouts.proofs.tag_at.Goals as goal

pub returns-then-b-le-INPUT : goal.returns-then-b-le-INPUT
returns-then-b-le-INPUT c = rw c.copied.ensures (tag-is _ _ _ c.if-b-le-INPUT.true c.get.ensures.lookup)

pub returns-else-b-le-INPUT : goal.returns-else-b-le-INPUT
returns-else-b-le-INPUT c = inside_long _ _ c.if-b-le-INPUT.false
