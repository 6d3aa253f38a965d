-- The invariant, in words, stands in Answers.antt.
use Rattle.std.proofs.Common.{◌-◌, length}
use Rattle.utf8.specs.Inner.Check.{Spells}
use Rattle.utf8.proofs.good.Given as goal

abbrev pub invariant-loop-i : goal.invariant-loop-i
invariant-loop-i l = Spells l.s l.i

abbrev pub decreases-loop-i : goal.decreases-loop-i
decreases-loop-i l = length l.s - l.i
