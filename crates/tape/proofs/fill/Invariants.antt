-- The invariant, in words, stands in Answers.antt.
use Prim.Native.Nat.{◌+◌, ◌-◌, ◌*◌}
use lib.ListN.{length}
use Rattle.tape.proofs.Filling.{Going}
use Rattle.tape.proofs.fill.Given as goal

abbrev pub invariant-loop-left : goal.invariant-loop-left
invariant-loop-left l = Going l.start l.b l.initial.tape l.up l.left l.at l.cell l.tape

abbrev pub decreases-loop-left : goal.decreases-loop-left
decreases-loop-left l = (length l.b - l.at) * 16777217 + l.up
