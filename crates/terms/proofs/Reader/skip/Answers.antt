-- `terms::Reader::skip` meets its contract. Assumes nothing.
use native.Mathlib.Omega.{arith}
use mathlib.Core.Path.{sym, ◌∙◌}
use Rattle.fields.proofs.Laws.{there}
use Rattle.reading.proofs.Families as fam
use Rattle.terms.proofs.Laws as laws
use Rattle.terms.proofs.Reader.skip.Goals as goal

pub overflow_add-result : goal.overflow_add-result
overflow_add-result c = omega (arith, there c.args.n _ _ (sym c.has.ensures ∙ c.if-has.true))

pub returns-then-has : goal.returns-then-has
returns-then-has c = λ room.
    let w = there c.args.n c.args.self.now.b.now c.args.at (sym c.has.ensures ∙ c.if-has.true) in
    laws.went (laws.goes_by (fam.pass_on _ _ _ (sym c.has.ensures ∙ c.if-has.true)) (laws.ends _ c.args.left.now _ (omega arith) (omega arith) (omega arith)))

pub returns-else-has : goal.returns-else-has
returns-else-has c = λ room. laws.refused _ _ c.refuse.ensures.none c.refuse.ensures.told (fam.pass_eof _ _ _ (sym c.has.ensures ∙ c.if-has.false))
