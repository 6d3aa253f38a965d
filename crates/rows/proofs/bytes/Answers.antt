-- `rows::bytes` meets its contract. Assumes nothing.
use native.Mathlib.Omega.{arith}
use mathlib.Core.Path.{sym, ◌∙◌}
use Rattle.rows.proofs.Laws.{bytes-there, bytes_gone}
use Rattle.fields.proofs.Laws.{there}
use Rattle.rows.proofs.bytes.Goals as goal

pub overflow_add-result : goal.overflow_add-result
overflow_add-result c = omega (arith, there c.args.n _ _ (sym c.has.ensures ∙ c.if-has.true))

pub returns-then-has : goal.returns-then-has
returns-then-has c = bytes-there _ _ _ (sym c.has.ensures ∙ c.if-has.true)

pub returns-else-has : goal.returns-else-has
returns-else-has c = bytes_gone _ _ _ (sym c.has.ensures ∙ c.if-has.false)
