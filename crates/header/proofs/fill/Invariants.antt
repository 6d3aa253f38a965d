-- The invariant, in words, stands in Answers.antt.
use mathlib.Core.Bool.{cond}
use Rattle.names.proofs.Going.{Going}
use Rattle.cache.specs.Names.{slots}
use Rattle.header.specs.Header.{referred_over}
use Rattle.header.proofs.Leaving.{of}
use Rattle.header.proofs.fill.Given as goal

abbrev pub invariant-loop-i : goal.invariant-loop-i
invariant-loop-i l =
    Going slots (referred_over l.b l.opening l.initial.cache l.initial.store) l.b (cond l.opening.long 2 1) l.opening.count l.i l.p (of l.cache l.store)
