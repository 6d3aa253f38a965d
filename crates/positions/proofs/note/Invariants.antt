-- The invariant, in words, stands in Answers.antt.
use mathlib.Core.Bool.{cond}
use Rattle.references.specs.Header.{referred, slots_of}
use Rattle.positions.proofs.Noting.{Kept}
use Rattle.positions.proofs.note.Given as goal

abbrev pub invariant-loop-i : goal.invariant-loop-i
invariant-loop-i l =
    Kept l.b (slots_of (referred l.b l.opening).references) l.c.filled l.initial.run (cond l.opening.long 2 1) l.opening.count l.run l.known l.i l.p
