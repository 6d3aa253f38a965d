-- `heads::part` meets its contract: what a head names lies within the input. Assumes nothing.
use mathlib.Core.Path.{sym, ◌∙◌}
use Rattle.heads.specs.Inner.Run.{part_of}
use Rattle.heads.specs.Inner.Head.{part_at}
use Rattle.heads.proofs.Runs.{head-inside}
use Rattle.heads.proofs.part.Goals as goal

pub of-requires : goal.of-requires
of-requires c = (head-inside c.args.b.now c.args.at).runs c.in-Some.run' (rw (← c.head.ensures) (sym c.in-Some.ensures))

pub returns-in-Some : goal.returns-in-Some
unfolding part_at part_of
returns-in-Some c = c.of.ensures ∙ rw (← c.head.ensures, ← c.in-Some.ensures)

pub returns-in-None : goal.returns-in-None
unfolding part_at part_of
returns-in-None c = rw (← c.head.ensures, ← c.in-None.ensures)
