-- The invariant, in words, stands in Answers.antt.
use Rattle.std.proofs.Common.{◌+◌, ◌-◌, ◌*◌, length}
use Rattle.measure.proofs.Passing.{Going}
use Rattle.measure.proofs.needed.Given as goal

abbrev pub invariant-loop-left : goal.invariant-loop-left
invariant-loop-left l = Going l.texts l.row l.«open» l.depth l.left l.size l.i

abbrev pub decreases-loop-left : goal.decreases-loop-left
decreases-loop-left l = (length l.row - l.i) * 2 + l.depth
