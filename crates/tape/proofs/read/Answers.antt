-- `tape::read`: what stands before the term, and then as `behind`, asked plainly. Assumes nothing.
use mathlib.Core.Path.{refl, sym, ◌∙◌}
use Rattle.reading.proofs.Asks.{plain_read}
use Rattle.reading.proofs.Told.{refused_some, err_refused}
use Rattle.tape.proofs.Reading as laws
use Rattle.tape.proofs.read.Goals as goal

pub returns-in-Err : goal.returns-in-Err
returns-in-Err c = laws.refuse c.refused.ensures (laws.behind-no _ _ _ (sym c.in-Err.ensures)) (refused_some c.in-Err.why)

pub returns-in_default-outcome : goal.returns-in_default-outcome
returns-in_default-outcome c =
    let no = err_refused _ _ _ c.in_default-outcome.is in
    laws.refuse refl (laws.whole-refused _ _ _ _ _ (plain_read _ _ _ c.plainly.ensures c.read-a.ensures) no ∙ laws.behind-term _ _ _ (sym c.in_default.ensures)) no

pub ends-requires : goal.ends-requires
ends-requires c = laws.came _ _ _ _ 0 (rw c.in-Ok.is at (plain_read _ _ _ c.plainly.ensures c.read-a.ensures)) refl

pub returns-in-Ok-ends : goal.returns-in-Ok-ends
returns-in-Ok-ends c =
    rw c.in-Ok.is (laws.go_on (sym c.in_default.ensures) (laws.closes (rw c.in-Ok.is at (plain_read _ _ _ c.plainly.ensures c.read-a.ensures)) refl (sym c.in-Ok-ends.is ∙ c.ends.ensures.answer) (rw c.in-Ok-ends.is at c.ends.ensures.tape) refl))

pub returns-in-Err-ends : goal.returns-in-Err-ends
returns-in-Err-ends c =
    laws.go_on (sym c.in_default.ensures) (laws.closes (rw c.in-Ok.is at (plain_read _ _ _ c.plainly.ensures c.read-a.ensures)) refl (sym c.in-Err-ends.is ∙ c.ends.ensures.answer) (rw c.in-Err-ends.is at c.ends.ensures.tape) c.refused-in-Err-ends.ensures)
