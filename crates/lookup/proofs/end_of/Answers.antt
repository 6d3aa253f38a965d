-- `lookup::end_of` meets its contract. Assumes nothing.
use Rattle.lookup.proofs.Passing.{leaf-ends}
use Rattle.lookup.proofs.end_of.Goals as goal

pub returns-then-s-eq0 : goal.returns-then-s-eq0
returns-then-s-eq0 c = leaf-ends c.requires.short c.shape_at-s.ensures c.if-s-eq0.true
