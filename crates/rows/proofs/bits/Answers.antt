-- `rows::bits` meets its contract. Assumes nothing.
use native.Mathlib.Omega.{arith}
use mathlib.Core.Path.{sym, ◌∙◌}
use Rattle.numbers.proofs.Laws.{handed}
use Rattle.rows.specs.Layout.{bits_then}
use Rattle.fields.proofs.Laws.{is_whole}
use Rattle.rows.proofs.Laws.{asked, sized_is, sized_no}
use Rattle.rows.proofs.bits.Goals as goal

pub returns-in_err-k : goal.returns-in_err-k
unfolding bits_then
returns-in_err-k c = handed _ c.from_residual.ensures ∙ sym (sized_no 1 _ _ c.be_u8.ensures _ c.in_err-k.ensures.value)

pub overflow_add-at : goal.overflow_add-at
overflow_add-at c = omega (arith, (is_whole 1 _ _ (asked 1 _ _ c.be_u8.ensures c.in_ok-k.ensures.value)).0)

pub returns-then-bits_byte : goal.returns-then-bits_byte
unfolding bits_then
returns-then-bits_byte c = c.bytes.ensures ∙ sym (sized_is 1 _ _ c.be_u8.ensures _ c.in_ok-k.ensures.value ∙ rw (sym c.bits_byte.ensures ∙ c.if-bits_byte.true))

pub returns-else-bits_byte : goal.returns-else-bits_byte
unfolding bits_then
returns-else-bits_byte c = sym (sized_is 1 _ _ c.be_u8.ensures _ c.in_ok-k.ensures.value ∙ rw (sym c.bits_byte.ensures ∙ c.if-bits_byte.false))
