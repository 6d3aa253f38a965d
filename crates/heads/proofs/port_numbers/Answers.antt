-- `heads::port_numbers` meets its contract. Assumes nothing.
use mathlib.Core.Path.{sym}
use Rattle.fields.specs.Field.{number_then}
use Rattle.heads.specs.Inner.Head.{port_numbers}
use Rattle.heads.proofs.port_numbers.Goals as goal

pub returns-in_err-id : goal.returns-in_err-id
unfolding port_numbers number_then
returns-in_err-id c = rw (c.from_residual.ensures, sym c.in_err-id.ensures)

pub returns-in_err-creation : goal.returns-in_err-creation
unfolding port_numbers number_then
returns-in_err-creation c = rw (c.from_residual-in_err-creation.ensures, sym c.in_ok-id.ensures, sym c.in_err-creation.ensures)

pub returns : goal.returns
unfolding port_numbers number_then
returns c = rw (sym c.in_ok-id.ensures, sym c.in_ok-creation.ensures)
