-- `measure::parent`, kind by kind. Assumes nothing.
use Rattle.std.proofs.Common.{◌∙◌, arith}
use Rattle.measure.specs.Item.{item_of}
use Rattle.measure.proofs.Sizes as laws
use Rattle.measure.proofs.parent.Goals as goal

pub returns-then-kind-eq-TUPLE : goal.returns-then-kind-eq-TUPLE
unfolding item_of
returns-then-kind-eq-TUPLE c = laws.around 5 c.if-kind-eq-TUPLE.true _ (omega arith, omega arith) (λ texts y. c.tuple.ensures.0) (laws.looser _ (omega arith) c.tuple.ensures.1)

pub returns-then-kind-eq-LIST : goal.returns-then-kind-eq-LIST
unfolding item_of
returns-then-kind-eq-LIST c = laws.around 6 c.if-kind-eq-LIST.true _ (omega arith, omega arith) (λ texts y. c.within.ensures.0 ∙ laws.own_list _) c.within.ensures.1

pub returns-then-kind-eq-MAP : goal.returns-then-kind-eq-MAP
unfolding item_of
returns-then-kind-eq-MAP c = laws.around 7 c.if-kind-eq-MAP.true _ (omega arith, omega arith) (λ texts y. c.within-then-kind-eq-MAP.ensures.0 ∙ laws.own_map _) (laws.looser _ (omega arith) c.within-then-kind-eq-MAP.ensures.1)

pub returns : goal.returns
returns c = laws.no-parent _ _ c.if-kind-eq-TUPLE.false c.if-kind-eq-LIST.false c.if-kind-eq-MAP.false
