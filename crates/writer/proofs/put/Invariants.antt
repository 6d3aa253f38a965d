-- The invariant, in words, stands in Answers.antt.
use Rattle.std.proofs.Common.{◌+◌, ◌-◌, ◌*◌, length}
use Rattle.writer.proofs.Going.{Going}
use Rattle.writer.proofs.put.Given as goal

abbrev pub invariant-loop-left : goal.invariant-loop-left
invariant-loop-left l = Going l.texts l.row l.initial.out l.end l.out l.«open» l.depth l.left l.i l.p

abbrev pub decreases-loop-left : goal.decreases-loop-left
decreases-loop-left l = (length l.row - l.i) * 2 + l.depth
