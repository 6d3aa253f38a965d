-- As many texts are judged as turns were made. Row and text keep their lengths.
use Rattle.std.proofs.Common.{length, ◌≡◌}
use Rattle.sweep.proofs.renewed.Given as goal

abbrev pub invariant-loop-i : goal.invariant-loop-i
invariant-loop-i g l = (l.texts ≡ l.i) × ((length l.row ≡ length l.initial.row) × (length l.text ≡ length l.initial.text))
