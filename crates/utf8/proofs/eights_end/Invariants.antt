-- The invariant, in words, stands in Answers.antt.
use Rattle.std.proofs.Common.{◌-◌, length}
use Rattle.utf8.specs.Inner.Check.{Plain}
use Rattle.utf8.proofs.eights_end.Given as goal

abbrev pub invariant-loop-eight : goal.invariant-loop-eight
invariant-loop-eight l = Plain l.s l.from l.i

abbrev pub decreases-loop-eight : goal.decreases-loop-eight
decreases-loop-eight l = length l.s - l.i
