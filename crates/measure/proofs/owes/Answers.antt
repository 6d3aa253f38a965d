-- `measure::owes`, kind by kind. Assumes nothing.
use Rattle.std.proofs.Common.{arith, ne_eqb}
use Rattle.measure.specs.Inner.Own.{owes_of}
use Rattle.measure.proofs.owes.Goals as goal

pub returns-then-kind-eq-TUPLE : goal.returns-then-kind-eq-TUPLE
unfolding owes_of
returns-then-kind-eq-TUPLE c = rw c.if-kind-eq-TUPLE.true c.twos.ensures.0

pub returns-then-kind-eq-LIST : goal.returns-then-kind-eq-LIST
unfolding owes_of
returns-then-kind-eq-LIST c = rw c.if-kind-eq-LIST.true (omega (arith, c.twos-then-kind-eq-LIST.ensures.0))

pub returns-then-kind-eq-MAP : goal.returns-then-kind-eq-MAP
unfolding owes_of
returns-then-kind-eq-MAP c = rw c.if-kind-eq-MAP.true (omega (arith, c.twos-then-kind-eq-MAP.ensures.0))

pub returns : goal.returns
unfolding owes_of
returns c = rw (ne_eqb _ 5 c.if-kind-eq-TUPLE.false, ne_eqb _ 6 c.if-kind-eq-LIST.false, ne_eqb _ 7 c.if-kind-eq-MAP.false)
