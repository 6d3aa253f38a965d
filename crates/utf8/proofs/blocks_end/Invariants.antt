-- The invariant, in words, stands in Answers.antt.
use Rattle.std.proofs.Common.{◌-◌, length}
use Rattle.utf8.specs.Inner.Check.{Plain}
use Rattle.utf8.proofs.blocks_end.Given as goal

abbrev pub invariant-loop-block : goal.invariant-loop-block
invariant-loop-block l = Plain l.s l.from l.i

abbrev pub decreases-loop-block : goal.decreases-loop-block
decreases-loop-block l = length l.s - l.i
