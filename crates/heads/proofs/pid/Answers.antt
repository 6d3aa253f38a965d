-- `heads::pid` meets its contract: the name of an atom child ends within the input. Assumes nothing.
use mathlib.Core.Path.{sym, ◌∙◌}
use Rattle.heads.specs.Inner.Head.{pid}
use Rattle.heads.proofs.Laws.{handed}
use Rattle.heads.proofs.Runs.{node-inside}
use Rattle.heads.proofs.pid.Goals as goal

pub returns-in_err-node : goal.returns-in_err-node
unfolding pid
returns-in_err-node c = handed _ c.from_residual.ensures ∙ rw (← c.in_err-node.ensures)

pub pid_numbers-requires : goal.pid_numbers-requires
pid_numbers-requires c = node-inside _ _ (sym c.in_ok-node.ensures)

pub returns : goal.returns
unfolding pid
returns c = c.ok_or.ensures.value ∙ rw (c.pid_numbers.ensures, c.eof.ensures, ← c.in_ok-node.ensures)
