-- `shortcut::name` meets its contract. Assumes nothing.
use native.Mathlib.Omega.{arith}
use mathlib.Core.Path.{sym, ◌∙◌}
use mathlib.Core.Bool.{true, false}
use Rattle.fields.proofs.Laws.{byte_at}
use Rattle.shortcut.proofs.Shorts.{name_by}
use Rattle.shortcut.proofs.name.Goals as goal

pub overflow_add-result-then-ascii : goal.overflow_add-result-then-ascii
overflow_add-result-then-ascii c = let p = c.ascii.ensures.0 c.if-ascii.true in omega (arith, p.within)

pub returns-then-ascii : goal.returns-then-ascii
returns-then-ascii c = name_by _ _ (c.from-n.ensures ∙ sym (byte_at _ _)) c.ascii.ensures true c.if-ascii.true

pub returns-else-ascii : goal.returns-else-ascii
returns-else-ascii c = name_by _ _ (c.from-n.ensures ∙ sym (byte_at _ _)) c.ascii.ensures false c.if-ascii.false
