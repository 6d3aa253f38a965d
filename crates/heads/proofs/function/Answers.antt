-- `heads::function` meets its contract. Assumes nothing.
use mathlib.Core.Path.{sym}
use Rattle.fields.specs.Field.{number_then}
use Rattle.heads.specs.Inner.Head.{function}
use Rattle.heads.proofs.function.Goals as goal

pub returns-in_err-size : goal.returns-in_err-size
unfolding function number_then
returns-in_err-size c = rw (c.from_residual.ensures, sym c.in_err-size.ensures)

pub returns-in_err-arity : goal.returns-in_err-arity
unfolding function number_then
returns-in_err-arity c = rw (c.from_residual-in_err-arity.ensures, sym c.in_ok-size.ensures, sym c.in_err-arity.ensures)

pub returns-in_err-index : goal.returns-in_err-index
unfolding function number_then
returns-in_err-index c = rw (c.from_residual-in_err-index.ensures, sym c.in_ok-size.ensures, sym c.in_ok-arity.ensures, sym c.in_err-index.ensures)

pub returns-in_err-free : goal.returns-in_err-free
unfolding function number_then
returns-in_err-free c = rw (c.from_residual-in_err-free.ensures, sym c.in_ok-size.ensures, sym c.in_ok-arity.ensures, sym c.in_ok-index.ensures, sym c.in_err-free.ensures)

pub returns : goal.returns
unfolding function number_then
returns c = rw (sym c.in_ok-size.ensures, sym c.in_ok-arity.ensures, sym c.in_ok-index.ensures, sym c.in_ok-free.ensures)
