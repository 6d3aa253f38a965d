-- No more bytes are as they were than were looked at.
use Rattle.std.proofs.Common.{◌≤◌}
use Rattle.writing.proofs.kept.Given as goal

abbrev pub invariant-loop-byte : goal.invariant-loop-byte
invariant-loop-byte l = l.n ≤ l.byte-index
