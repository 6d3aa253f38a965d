-- The invariant, in words, stands in Answers.antt.
use Rattle.std.proofs.Common.{◌≡◌, length, drop}
use lib.Seq.{paste}
use Rattle.writer.proofs.copy.Given as goal

abbrev pub invariant-loop-i : goal.invariant-loop-i
invariant-loop-i l = (length l.out ≡ length l.initial.out) × (l.out ≡ paste l.initial.out l.p (drop l.at l.texts) l.i)
