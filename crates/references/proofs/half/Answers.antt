-- `references::half` meets its contract. Assumes nothing.
use Rattle.references.proofs.Reading.{low_half, high_half}
use Rattle.references.proofs.half.Goals as goal

pub returns-then-i-eq0 : goal.returns-then-i-eq0
returns-then-i-eq0 c = low_half _ _ c.if-i-eq0.true

pub returns-else-i-eq0 : goal.returns-else-i-eq0
returns-else-i-eq0 c = high_half _ _ c.if-i-eq0.false
