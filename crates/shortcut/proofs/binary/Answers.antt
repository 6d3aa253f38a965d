-- `shortcut::binary` meets its contract. Assumes nothing.
use native.Mathlib.Omega.{arith}
use mathlib.Core.Path.{sym, ◌∙◌}
use mathlib.Core.Bool.{true, false}
use Rattle.fields.proofs.Laws.{there}
use Rattle.shortcut.proofs.Shorts.{binary_by}
use Rattle.shortcut.proofs.binary.Goals as goal

pub overflow_add-result-then-has : goal.overflow_add-result-then-has
overflow_add-result-then-has c = omega (arith, there _ _ _ (sym c.has.ensures ∙ c.if-has.true))

pub returns-then-has : goal.returns-then-has
returns-then-has c = binary_by _ _ c.u32_at-n.ensures true (sym c.has.ensures ∙ c.if-has.true)

pub returns-else-has : goal.returns-else-has
returns-else-has c = binary_by _ _ c.u32_at-n.ensures false (sym c.has.ensures ∙ c.if-has.false)
