-- `heads::port` meets its contract: the name of an atom child ends within the input. Assumes nothing.
use mathlib.Core.Path.{sym, ◌∙◌}
use Rattle.heads.specs.Inner.Head.{port}
use Rattle.heads.proofs.Laws.{handed}
use Rattle.heads.proofs.Runs.{node-inside}
use Rattle.heads.proofs.port.Goals as goal

pub returns-in_err-node : goal.returns-in_err-node
unfolding port
returns-in_err-node c = handed _ c.from_residual.ensures ∙ rw (← c.in_err-node.ensures)

pub port_numbers-requires : goal.port_numbers-requires
port_numbers-requires c = node-inside _ _ (sym c.in_ok-node.ensures)

pub returns : goal.returns
unfolding port
returns c = c.ok_or.ensures.value ∙ rw (c.port_numbers.ensures, c.eof.ensures, ← c.in_ok-node.ensures)
