-- `heads::reference` meets its contract: the name of an atom child ends within the input. Assumes nothing.
use mathlib.Core.Path.{sym, ◌∙◌}
use Rattle.fields.specs.Field.{number_then}
use Rattle.heads.specs.Inner.Head.{reference}
use Rattle.heads.proofs.Laws.{handed}
use Rattle.heads.proofs.Runs.{node-inside}
use Rattle.heads.proofs.reference.Goals as goal

pub returns-in_default : goal.returns-in_default
unfolding reference number_then
returns-in_default c = rw (c.eof.ensures, sym c.be_u16.ensures ∙ c.in_default.is)

pub returns-in_err-node : goal.returns-in_err-node
unfolding reference number_then
returns-in_err-node c = handed _ c.from_residual.ensures ∙ rw (sym c.in-Some.ensures, ← c.in_err-node.ensures)

pub reference_numbers-requires : goal.reference_numbers-requires
reference_numbers-requires c = node-inside _ _ (sym c.in_ok-node.ensures)

pub returns : goal.returns
unfolding reference number_then
returns c = c.ok_or.ensures.value ∙ rw (c.reference_numbers.ensures, c.eof-2.ensures, sym c.in-Some.ensures, ← c.in_ok-node.ensures)
