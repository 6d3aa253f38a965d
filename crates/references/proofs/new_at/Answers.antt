-- `references::new_at` meets its contract, for a length of two bytes and of one. Assumes nothing.
use native.Mathlib.Omega.{arith}
use mathlib.Core.Path.{sym, ◌∙◌}
use Rattle.fields.proofs.Laws.{is_whole}
use Rattle.references.proofs.Reading.{misses, no_length, lengthy}
use Rattle.references.proofs.new_at.Goals as goal

pub returns-in_err-n : goal.returns-in_err-n
returns-in_err-n c =
    rw c.if-long.true
    (misses _ _ c.from_residual.ensures c.in_err-n.ensures.ok_part c.in_err-n.ensures.value
    ∙ no_length _ 2 _ _ (sym c.be_u16.ensures ∙ c.in_err-n.ensures.ok_part))

pub overflow_add-p : goal.overflow_add-p
overflow_add-p c = omega (arith, (is_whole 2 _ _ (sym c.be_u16.ensures ∙ c.in_ok-n.ensures.ok_part)).0)

pub returns-in_ok-n : goal.returns-in_ok-n
returns-in_ok-n c = rw (c.if-long.true, c.named.ensures, c.from.ensures) (lengthy _ 2 _ _ (sym c.be_u16.ensures ∙ c.in_ok-n.ensures.ok_part))

pub returns-in_err-n-2 : goal.returns-in_err-n-2
returns-in_err-n-2 c =
    rw c.if-long.false
    (misses _ _ c.from_residual-in_err-n-2.ensures c.in_err-n-2.ensures.ok_part c.in_err-n-2.ensures.value
    ∙ no_length _ 1 _ _ (sym c.be_u8.ensures ∙ c.in_err-n-2.ensures.ok_part))

pub overflow_add-p-else-long : goal.overflow_add-p-else-long
overflow_add-p-else-long c = omega (arith, (is_whole 1 _ _ (sym c.be_u8.ensures ∙ c.in_ok-n-2.ensures.ok_part)).0)

pub returns-in_ok-n-2 : goal.returns-in_ok-n-2
returns-in_ok-n-2 c = rw (c.if-long.false, c.named-else-long.ensures, c.from-else-long.ensures) (lengthy _ 1 _ _ (sym c.be_u8.ensures ∙ c.in_ok-n-2.ensures.ok_part))
