-- `measure::tuple`. Assumes nothing.
use Rattle.std.proofs.Common.{◌∙◌, arith}
use Rattle.measure.proofs.Sizes as laws
use Rattle.measure.proofs.tuple.Goals as goal

pub returns-then-x-lt256 : goal.returns-then-x-lt256
returns-then-x-lt256 c = (laws.own_small-tuple _ c.if-x-lt256.true, omega arith)

pub returns : goal.returns
returns c = (c.within.ensures.0 ∙ laws.own_large_tuple _ c.if-x-lt256.false, c.within.ensures.1)
