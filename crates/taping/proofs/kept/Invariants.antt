-- No more words are as they were than were looked at.
use Rattle.std.proofs.Common.{◌≤◌}
use Rattle.taping.proofs.kept.Given as goal

abbrev pub invariant-loop-word : goal.invariant-loop-word
invariant-loop-word l = l.n ≤ l.word-index
