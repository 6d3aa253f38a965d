-- A text is counted as it is judged.
use Rattle.std.proofs.Common.{◌≡◌}
use Rattle.sweep_literal.proofs.Word.cut.Given as goal

abbrev pub invariant-loop-pattern : goal.invariant-loop-pattern
invariant-loop-pattern l = l.tried ≡ l.pattern
