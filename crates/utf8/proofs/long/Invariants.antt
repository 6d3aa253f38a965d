-- The invariant, in words, stands in Answers.antt.
use Rattle.std.proofs.Common.{◌+◌, ◌-◌, ◌≤◌}
use Rattle.utf8.specs.Inner.Check.{Plain}
use Rattle.utf8.proofs.long.Given as goal

abbrev pub invariant-loop-i : goal.invariant-loop-i
invariant-loop-i l = Plain l.b l.at l.i × (l.i ≤ l.end + 8)

abbrev pub decreases-loop-i : goal.decreases-loop-i
decreases-loop-i l = l.end - l.i
