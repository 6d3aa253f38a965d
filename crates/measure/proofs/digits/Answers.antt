-- `measure::digits`: the power of two in a number tells its power of 256. Assumes nothing.
use Rattle.std.proofs.Common.{arith}
use Rattle.measure.proofs.Items as laws
use Rattle.measure.proofs.digits.Goals as goal

pub returns : goal.returns
returns c = (laws.digits_by_log _ _ c.ilog2.ensures.power_le c.ilog2.ensures.next_power_gt c.ilog2.ensures.bound, omega arith)
