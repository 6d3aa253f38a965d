-- `heads::reference_numbers` meets its contract. Assumes nothing.
use mathlib.Core.Path.{sym}
use Rattle.fields.specs.Field.{number_then}
use Rattle.heads.specs.Inner.Head.{reference_numbers}
use Rattle.heads.proofs.reference_numbers.Goals as goal

pub returns-in_err-creation : goal.returns-in_err-creation
unfolding reference_numbers number_then
returns-in_err-creation c = rw (c.from_residual.ensures, sym c.in_err-creation.ensures)

pub returns-then-has : goal.returns-then-has
unfolding reference_numbers number_then
returns-then-has c = rw (sym c.in_ok-creation.ensures, ← c.from.ensures, ← c.has.ensures, c.if-has.true)

pub returns : goal.returns
unfolding reference_numbers number_then
returns c = rw (sym c.in_ok-creation.ensures, ← c.from.ensures, ← c.has.ensures, c.if-has.false)
