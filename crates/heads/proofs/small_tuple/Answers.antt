-- `heads::small_tuple` meets its contract. Assumes nothing.
use mathlib.Core.Path.{sym}
use Rattle.fields.specs.Field.{number_then}
use Rattle.heads.specs.Inner.Head.{small_tuple}
use Rattle.heads.proofs.small_tuple.Goals as goal

pub returns-in-Some : goal.returns-in-Some
unfolding small_tuple number_then
returns-in-Some c = rw (c.from.ensures, sym c.in-Some.ensures)

pub returns-in-None : goal.returns-in-None
unfolding small_tuple number_then
returns-in-None c = rw (c.eof.ensures, sym c.in-None.ensures)
