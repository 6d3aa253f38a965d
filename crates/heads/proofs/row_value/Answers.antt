-- `heads::row_value` meets its contract: a row that is there has its fields. Assumes nothing.
use native.Mathlib.Omega.{arith}
use mathlib.Core.Path.{sym}
use Rattle.heads.specs.Inner.Head.{row_value}
use Rattle.heads.proofs.Runs.{text-there}
use Rattle.heads.proofs.row_value.Goals as goal

pub fixed-requires : goal.fixed-requires
fixed-requires c = (omega arith, text-there _ _ _ _ (sym c.in-Ok.ensures))

pub returns-in-Ok : goal.returns-in-Ok
unfolding row_value
returns-in-Ok c = rw (c.fixed.ensures, ← c.in-Ok.ensures)

pub returns-in-Err : goal.returns-in-Err
unfolding row_value
returns-in-Err c = rw (← c.in-Err.ensures)
