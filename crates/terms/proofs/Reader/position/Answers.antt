-- `terms::Reader::position` meets its contract: each way it goes is a law of the row. Assumes nothing.
use native.Mathlib.Omega.{arith}
use mathlib.Core.Path.{◌∙◌, sym, ap}
use Rattle.std.specs.Prelude.{Some}
use Rattle.fields.proofs.Laws.{is_whole}
use Rattle.reading.proofs.Families as fam
use Rattle.terms.proofs.Laws as laws
use Rattle.terms.proofs.Positions as way
use Rattle.terms.proofs.Reader.position.Goals as goal

pub returns-then-not-self : goal.returns-then-not-self
returns-then-not-self c = λ room. laws.refused _ _ c.refuse.ensures.none c.refuse.ensures.told (fam.fields-no _ (way.no_tag _ _ _ c.if-not-self.true))

pub returns-in_default : goal.returns-in_default
returns-in_default c = λ room. laws.refused _ _ c.refuse-in_default.ensures.none c.refuse-in_default.ensures.told (fam.fields-no _ (way.no_byte _ _ _ c.if-not-self.false (sym c.in_default.ensures)))

pub returns-then-self-k-eq1 : goal.returns-then-self-k-eq1
returns-then-self-k-eq1 c = λ room.
    let there = sym c.in-Some.ensures ∙ ap Some (sym c.from-k.ensures) in
    let w = is_whole 1 _ _ there in
    laws.row-to _ (way.known _ _ _ c.if-not-self.false there c.if-self-k-eq1.true) (omega arith) (omega (arith, w.0)) (omega arith)

pub returns : goal.returns
returns c = λ room.
    let there = sym c.in-Some.ensures ∙ ap Some (sym c.from-k.ensures) in
    laws.refused _ _ c.refuse-2.ensures.none c.refuse-2.ensures.told (fam.fields-no _ (way.unknown _ _ _ c.if-not-self.false there c.if-self-k-eq1.false))
