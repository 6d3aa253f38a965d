-- A row has 256 texts, and keeps its length.
use Rattle.std.proofs.Common.{length, ◌*◌, ◌≡◌}
use Rattle.sweep_literal.proofs.Word.changed.Given as goal

abbrev pub invariant-loop-pattern : goal.invariant-loop-pattern
invariant-loop-pattern l = (l.tried ≡ 256 * l.pattern-counter) × (length l.row ≡ 256)
