-- `measure::twos`. Assumes nothing.
use Rattle.std.proofs.Common.{arith, le-leb}
use borrow.Author.Tests.{lt-leb}
use Rattle.measure.specs.Inner.Own.{twos_of}
use Rattle.measure.proofs.twos.Goals as goal

pub returns-then-x-gt-ELEMENTS : goal.returns-then-x-gt-ELEMENTS
unfolding twos_of
returns-then-x-gt-ELEMENTS c = (rw (lt-leb _ _ c.if-x-gt-ELEMENTS.true), omega arith)

pub returns : goal.returns
unfolding twos_of
returns c = (rw (le-leb _ _ c.if-x-gt-ELEMENTS.false), omega (arith, c.if-x-gt-ELEMENTS.false))
