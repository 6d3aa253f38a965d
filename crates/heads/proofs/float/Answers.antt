-- `heads::float` meets its contract: the pattern of a NaN is found by one comparison. Assumes nothing.
use native.Mathlib.Omega.{arith}
use mathlib.Core.Path.{sym, ◌∙◌}
use Rattle.heads.proofs.Nan.{is-nan, no_nan}
use Rattle.heads.proofs.float.Goals as goal

pub returns-then-bits-gt9218868437227405312 : goal.returns-then-bits-gt9218868437227405312
returns-then-bits-gt9218868437227405312 c = is-nan 0x7ff8000000000000 (omega arith) ∙ sym (is-nan c.args.bits (omega arith))

pub float_from_bits-result : goal.float_from_bits-result
float_from_bits-result c = no_nan c.args.bits (omega arith)
