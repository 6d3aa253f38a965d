-- `references::reference_at` meets its contract. Assumes nothing.
use native.Mathlib.Omega.{arith}
use mathlib.Core.Path.{sym, ◌∙◌}
use Rattle.fields.proofs.Laws.{is_whole}
use Rattle.references.proofs.Reading.{misses, no-reference, old_is, new_is}
use Rattle.references.proofs.reference_at.Goals as goal

pub returns-in_err-slot : goal.returns-in_err-slot
returns-in_err-slot c =
    misses _ _ c.from_residual.ensures c.in_err-slot.ensures.ok_part c.in_err-slot.ensures.value
    ∙ no-reference _ _ _ _ (sym c.be_u8.ensures ∙ c.in_err-slot.ensures.ok_part)

pub overflow_add-p : goal.overflow_add-p
overflow_add-p c = omega (arith, (is_whole 1 _ _ (sym c.be_u8.ensures ∙ c.in_ok-slot.ensures.ok_part)).0)

pub returns-then-new : goal.returns-then-new
returns-then-new c = c.new_at.ensures ∙ new_is _ _ _ _ (sym c.be_u8.ensures ∙ c.in_ok-slot.ensures.ok_part) c.if-new.true

pub returns-else-new : goal.returns-else-new
returns-else-new c = old_is _ _ _ _ (sym c.be_u8.ensures ∙ c.in_ok-slot.ensures.ok_part) c.if-new.false
