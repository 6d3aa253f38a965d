-- `measure::leaf`, kind by kind. Assumes nothing.
use Rattle.std.proofs.Common.{inl, inr, arith}
use Rattle.measure.specs.Item.{item_of}
use Rattle.measure.proofs.Sizes as laws
use Rattle.measure.proofs.leaf.Goals as goal

pub returns-then-kind-lt-INTEGER : goal.returns-then-kind-lt-INTEGER
returns-then-kind-lt-INTEGER c = laws.alone 0 (omega arith) _ _ _ (inl (omega arith)) (laws.own_nothing _ _ _) (omega arith)

pub returns-then-kind-lt-DOUBLE : goal.returns-then-kind-lt-DOUBLE
unfolding item_of
returns-then-kind-lt-DOUBLE c = laws.alone 1 (omega (arith, c.if-kind-lt-INTEGER.false, c.if-kind-lt-DOUBLE.true)) _ _ _ (inl (omega arith)) c.integer.ensures.0 (omega (arith, c.integer.ensures.1))

pub returns-then-kind-lt-ATOM : goal.returns-then-kind-lt-ATOM
returns-then-kind-lt-ATOM c = laws.alone 2 (omega (arith, c.if-kind-lt-DOUBLE.false, c.if-kind-lt-ATOM.true)) _ _ _ (inl (omega arith)) (laws.own_double _ _ _ (omega arith)) (omega arith)

pub returns-then-kind-lt-BINARY : goal.returns-then-kind-lt-BINARY
unfolding item_of
returns-then-kind-lt-BINARY c = laws.alone 3 (omega (arith, c.if-kind-lt-ATOM.false, c.if-kind-lt-BINARY.true)) _ _ _ (inl (omega arith)) c.name.ensures.0 (laws.looser _ (omega arith) c.name.ensures.1)

pub returns-then-kind-lt-TUPLE : goal.returns-then-kind-lt-TUPLE
unfolding item_of
returns-then-kind-lt-TUPLE c = laws.alone 4 (omega (arith, c.if-kind-lt-BINARY.false, c.if-kind-lt-TUPLE.true)) _ _ _ (inl (omega arith)) c.binary.ensures.0 c.binary.ensures.1

pub returns-then-kind-eq-NIL : goal.returns-then-kind-eq-NIL
returns-then-kind-eq-NIL c = laws.alone 8 c.if-kind-eq-NIL.true _ _ _ (inr (omega arith)) (laws.own_nil _ _ _) (omega arith)

pub returns : goal.returns
returns c = laws.no-leaf _ _ _ _ c.if-kind-lt-TUPLE.false c.if-kind-eq-NIL.false
