-- `measure::binary`. Assumes nothing.
use Rattle.std.proofs.Common.{sym, ◌∙◌, arith}
use Rattle.measure.proofs.Sizes as laws
use Rattle.measure.proofs.binary.Goals as goal
use Rattle.measure.proofs.binary.Goals.{else-n-le-BINARY-via-then-n-le-BINARY+else-has, else-n-le-BINARY-via-else-n-le-BINARY}

pub returns-then-has : goal.returns-then-has
returns-then-has c = (laws.binary-good _ _ _ (sym c.has.ensures ∙ c.if-has.true) c.if-n-le-BINARY.true, omega (arith, c.if-n-le-BINARY.true))

pub returns : goal.returns
returns c = (
  elim c.else-n-le-BINARY.branch [
    | else-n-le-BINARY-via-then-n-le-BINARY+else-has w ↦ laws.binary_outside _ _ _ (sym w.has.ensures ∙ w.if-has.false)
    | else-n-le-BINARY-via-else-n-le-BINARY w ↦ laws.binary-long _ _ _ w.if-n-le-BINARY.false
  ],
  tt,
)
