-- `utf8::within` meets its contract. Assumes nothing.
use Rattle.utf8.proofs.Tried.{too_low, from_low}
use Rattle.utf8.proofs.within.Goals as goal

pub returns-then-x-low : goal.returns-then-x-low
returns-then-x-low c = too_low c.args.low c.args.high c.args.x c.if-x-low.true

pub returns : goal.returns
returns c = from_low c.args.low c.args.high c.args.x c.if-x-low.false
