-- The invariant, in words, stands in Answers.antt.
use Rattle.std.proofs.Common.{◌≡◌, ◌*◌}
use Rattle.std.proofs.Math.ListN.{drop}
use Rattle.std.proofs.lemmas.List.Edits.{sets}
use Rattle.jig.specs.Shown.{segment_words}
use Rattle.jig.proofs.trace.Given as goal

abbrev pub invariant-loop-i : goal.invariant-loop-i
invariant-loop-i l = sets l.path (l.i * 2) (segment_words (drop l.i l.segments)) ≡ sets l.initial.path 0 (segment_words l.segments)
