-- `tape::behind`: as reading refuses; else by what becomes of the term. Assumes nothing.
use mathlib.Core.Path.{refl, sym, ◌∙◌}
use Rattle.reading.proofs.Told.{err_refused}
use Rattle.tape.proofs.Reading as laws
use Rattle.tape.proofs.behind.Goals as goal

pub returns-in_default : goal.returns-in_default
returns-in_default c =
    let no = err_refused _ _ _ c.in_default.is in
    laws.refuse refl (laws.whole-refused _ _ _ _ _ c.read-a.ensures no ∙ laws.behind-term _ _ _ refl) no

pub ends-requires : goal.ends-requires
ends-requires c = laws.came _ _ _ _ 0 (rw c.in-Ok.is at c.read-a.ensures) refl

pub returns-in-Ok-ends : goal.returns-in-Ok-ends
returns-in-Ok-ends c = rw c.in-Ok.is (laws.closes (rw c.in-Ok.is at c.read-a.ensures) refl (sym c.in-Ok-ends.is ∙ c.ends.ensures.answer) (rw c.in-Ok-ends.is at c.ends.ensures.tape) refl)

pub returns-in-Err : goal.returns-in-Err
returns-in-Err c = laws.closes (rw c.in-Ok.is at c.read-a.ensures) refl (sym c.in-Err.is ∙ c.ends.ensures.answer) (rw c.in-Err.is at c.ends.ensures.tape) c.refused.ensures
