-- `tape::version` meets its contract: the refusals before the term, in their order. Assumes nothing.
use mathlib.Core.Path.{ap, sym, ◌∙◌}
use borrow.Author.Tests.{eqb-true, eqb-false}
use Rattle.numbers.proofs.Laws.{handed}
use Rattle.reading.proofs.Answers.{starts-reads}
use Rattle.tape.specs.Inner.End.{before_by}
use Rattle.tape.proofs.Reading as laws
use Rattle.tape.proofs.version.Goals as goal

pub returns-in_err-starts : goal.returns-in_err-starts
returns-in_err-starts c = ap before_by (handed _ c.from_residual.ensures) ∙ sym (laws.before-no _ _ (sym c.in_err-starts.ensures))

pub returns-then-is_empty : goal.returns-then-is_empty
returns-then-is_empty c = sym (laws.before_empty _ _ (starts-reads _ _ (sym c.in_ok-starts.ensures)) (eqb-true _ _ (sym c.is_empty.ensures ∙ c.if-is_empty.true)))

pub returns-then-b : goal.returns-then-b
returns-then-b c = sym (laws.before-other _ _ (starts-reads _ _ (sym c.in_ok-starts.ensures)) (eqb-false _ _ (sym c.is_empty.ensures ∙ c.if-is_empty.false)) c.if-b.true)

pub returns : goal.returns
returns c = sym (laws.before-term _ _ (starts-reads _ _ (sym c.in_ok-starts.ensures)) (eqb-false _ _ (sym c.is_empty.ensures ∙ c.if-is_empty.false)) c.if-b.false)
