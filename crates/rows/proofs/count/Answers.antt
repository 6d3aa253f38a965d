-- `rows::count` meets its contract. Assumes nothing.
use native.Mathlib.Omega.{arith}
use mathlib.Core.Path.{sym, ◌∙◌}
use Rattle.numbers.proofs.Laws.{handed}
use Rattle.rows.proofs.Laws.{asked, lacked, count_in, count-over, count_eof}
use Rattle.rows.proofs.count.Goals as goal

pub returns-in_err-ok_or : goal.returns-in_err-ok_or
returns-in_err-ok_or c = handed _ c.from_residual.ensures ∙ (let (e, q) = lacked 4 _ _ c.be_u32.ensures c.in_err-ok_or.ensures.value in rw q (sym (count_eof _ _ _ e)))

pub returns-then-n-most : goal.returns-then-n-most
returns-then-n-most c = rw c.from-n.ensures (sym (count_in _ _ _ (asked 4 _ _ c.be_u32.ensures c.in_ok-ok_or.ensures.value) (omega arith)))

pub returns-else-n-most : goal.returns-else-n-most
returns-else-n-most c = sym (count-over _ _ _ (asked 4 _ _ c.be_u32.ensures c.in_ok-ok_or.ensures.value) (omega arith))
