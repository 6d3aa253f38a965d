-- `positions::position_of` meets its contract: a law for each way out. Assumes nothing.
use native.Mathlib.Omega.{arith}
use mathlib.Core.Path.{sym, ◌∙◌}
use Rattle.references.proofs.Reading.{misses, first_byte}
use Rattle.positions.proofs.Asking.{too_long, no-atom, other_tag, position-or_none}
use Rattle.positions.proofs.position_of.Goals as goal

pub returns-then-b-gt-INPUT : goal.returns-then-b-gt-INPUT
returns-then-b-gt-INPUT c = too_long _ _ c.if-b-gt-INPUT.true

pub returns-in_err-tag : goal.returns-in_err-tag
returns-in_err-tag c =
    misses _ _ c.from_residual.ensures c.in_err-tag.ensures.ok_part c.in_err-tag.ensures.value
    ∙ no-atom _ _ c.if-b-gt-INPUT.false (sym c.be_u8.ensures ∙ c.in_err-tag.ensures.ok_part)

pub returns-then-tag-ne82 : goal.returns-then-tag-ne82
returns-then-tag-ne82 c = other_tag _ _ c.if-b-gt-INPUT.false (sym c.be_u8.ensures ∙ c.in_ok-tag.ensures.ok_part) c.if-tag-ne82.true

pub overflow_add-at : goal.overflow_add-at
overflow_add-at c = record { fits = omega (arith, (first_byte _ _ (sym c.be_u8.ensures ∙ c.in_ok-tag.ensures.ok_part)).0) }

pub returns : goal.returns
returns c =
    c.ok_or-2.ensures.value ∙ (rw c.be_u8-2.ensures (position-or_none _ _ c.if-b-gt-INPUT.false (sym c.be_u8.ensures ∙ c.in_ok-tag.ensures.ok_part) c.if-tag-ne82.false))
