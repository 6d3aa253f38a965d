-- `tape::ends`: by its two tests. Assumes nothing.
use native.Mathlib.Omega.{arith}
use mathlib.Core.Path.{refl}
use Rattle.tape.proofs.Reading as laws
use Rattle.tape.proofs.ends.Goals as goal

pub returns-then-end-b : goal.returns-then-end-b
returns-then-end-b c = record { answer = laws.ended_trailing _ _ _ _ (omega arith); tape = refl }

pub overflow_mul-begun : goal.overflow_mul-begun
overflow_mul-begun c = omega (arith, laws.few c.requires)

pub returns-then-tape-begun : goal.returns-then-tape-begun
returns-then-tape-begun c = record { answer = laws.ended-room _ _ _ _ (omega arith) (omega (arith, c.if-tape-begun.true)); tape = refl }

pub fill-requires : goal.fill-requires
fill-requires c = laws.good c.requires c.if-tape-begun.false

pub returns : goal.returns
returns c = record { answer = laws.ended-done _ _ _ _ (omega arith) c.if-tape-begun.false; tape = c.fill.ensures }
