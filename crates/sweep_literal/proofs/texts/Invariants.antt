-- A text is counted as it is judged.
use Rattle.std.proofs.Common.{◌≡◌}
use Rattle.sweep_literal.proofs.texts.Given as goal

abbrev pub invariant-loop-number : goal.invariant-loop-number
invariant-loop-number l = l.count ≡ l.number
