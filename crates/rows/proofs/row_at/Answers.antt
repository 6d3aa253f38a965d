-- `rows::row_at` meets its contract: each arm is the definition at its tag, and in the last the tag is none of them. Assumes nothing.
use native.Mathlib.Omega.{arith}
use mathlib.Core.Path.{sym, ◌∙◌}
use Rattle.numbers.proofs.Laws.{handed, none_of}
use Rattle.fields.proofs.Laws.{is_whole}
use Rattle.rows.specs.Layout.{row_at}
use Rattle.rows.proofs.Laws.{asked, sized_is, sized_no, row_at-name, count-there, counted_is, counted-no}
use Rattle.rows.proofs.row_at.Goals as goal

pub returns-in-97 : goal.returns-in-97
unfolding row_at
returns-in-97 c = rw (c.bytes.ensures, c.in-97.is)

pub returns-in-98 : goal.returns-in-98
unfolding row_at
returns-in-98 c = rw (c.bytes-in-98.ensures, c.in-98.is)

pub returns-in-99 : goal.returns-in-99
unfolding row_at
returns-in-99 c = rw (c.number_text.ensures, c.in-99.is)

pub returns-in-70 : goal.returns-in-70
unfolding row_at
returns-in-70 c = rw (c.bytes-in-70.ensures, c.in-70.is)

pub returns-in-106 : goal.returns-in-106
unfolding row_at
returns-in-106 c = rw c.in-106.is

pub returns-in_err-ok_or-in-100 : goal.returns-in_err-ok_or-in-100
returns-in_err-ok_or-in-100 c = handed _ c.from_residual.ensures ∙ sym (row_at-name _ _ _ c.in-100.is ∙ sized_no 2 _ _ c.be_u16.ensures _ c.in_err-ok_or-in-100.ensures.value)

pub overflow_add-at : goal.overflow_add-at
overflow_add-at c = omega (arith, (is_whole 2 _ _ (asked 2 _ _ c.be_u16.ensures c.in_ok-ok_or-in-100.ensures.value)).0)

pub returns-in_ok-ok_or-in-100 : goal.returns-in_ok-ok_or-in-100
returns-in_ok-ok_or-in-100 c = c.name.ensures ∙ sym (row_at-name _ _ _ c.in-100.is ∙ sized_is 2 _ _ c.be_u16.ensures _ c.in_ok-ok_or-in-100.ensures.value)

pub returns-in_err-ok_or-in-119 : goal.returns-in_err-ok_or-in-119
unfolding row_at
returns-in_err-ok_or-in-119 c = handed _ c.from_residual-in_err-ok_or-in-119.ensures ∙ rw c.in-119.is (sym (sized_no 1 _ _ c.be_u8.ensures _ c.in_err-ok_or-in-119.ensures.value))

pub overflow_add-at-in-119 : goal.overflow_add-at-in-119
overflow_add-at-in-119 c = omega (arith, (is_whole 1 _ _ (asked 1 _ _ c.be_u8.ensures c.in_ok-ok_or-in-119.ensures.value)).0)

pub returns-in_ok-ok_or-in-119 : goal.returns-in_ok-ok_or-in-119
unfolding row_at
returns-in_ok-ok_or-in-119 c = c.name-in-119.ensures ∙ rw c.in-119.is (sym (sized_is 1 _ _ c.be_u8.ensures _ c.in_ok-ok_or-in-119.ensures.value))

pub returns-in_err-ok_or-in-107 : goal.returns-in_err-ok_or-in-107
unfolding row_at
returns-in_err-ok_or-in-107 c = handed _ c.from_residual-in_err-ok_or-in-107.ensures ∙ rw c.in-107.is (sym (sized_no 2 _ _ c.be_u16-in-107.ensures _ c.in_err-ok_or-in-107.ensures.value))

pub overflow_add-at-in-107 : goal.overflow_add-at-in-107
overflow_add-at-in-107 c = omega (arith, (is_whole 2 _ _ (asked 2 _ _ c.be_u16-in-107.ensures c.in_ok-ok_or-in-107.ensures.value)).0)

pub returns-in_ok-ok_or-in-107 : goal.returns-in_ok-ok_or-in-107
unfolding row_at
returns-in_ok-ok_or-in-107 c = c.bytes-in-107.ensures ∙ rw c.in-107.is (sym (sized_is 2 _ _ c.be_u16-in-107.ensures _ c.in_ok-ok_or-in-107.ensures.value))

pub returns-in_err-ok_or-in-110 : goal.returns-in_err-ok_or-in-110
unfolding row_at
returns-in_err-ok_or-in-110 c = handed _ c.from_residual-in_err-ok_or-in-110.ensures ∙ rw c.in-110.is (sym (sized_no 1 _ _ c.be_u8-in-110.ensures _ c.in_err-ok_or-in-110.ensures.value))

pub overflow_add-at-in-110 : goal.overflow_add-at-in-110
overflow_add-at-in-110 c = omega (arith, (is_whole 1 _ _ (asked 1 _ _ c.be_u8-in-110.ensures c.in_ok-ok_or-in-110.ensures.value)).0)

pub returns-in_ok-ok_or-in-110 : goal.returns-in_ok-ok_or-in-110
unfolding row_at
returns-in_ok-ok_or-in-110 c = c.digits.ensures ∙ rw c.in-110.is (sym (sized_is 1 _ _ c.be_u8-in-110.ensures _ c.in_ok-ok_or-in-110.ensures.value))

pub returns-in_err-ok_or-in-111 : goal.returns-in_err-ok_or-in-111
unfolding row_at
returns-in_err-ok_or-in-111 c = handed _ c.from_residual-in_err-ok_or-in-111.ensures ∙ rw c.in-111.is (sym (sized_no 4 _ _ c.be_u32.ensures _ c.in_err-ok_or-in-111.ensures.value))

pub overflow_add-at-in-111 : goal.overflow_add-at-in-111
overflow_add-at-in-111 c = omega (arith, (is_whole 4 _ _ (asked 4 _ _ c.be_u32.ensures c.in_ok-ok_or-in-111.ensures.value)).0)

pub returns-in_ok-ok_or-in-111 : goal.returns-in_ok-ok_or-in-111
unfolding row_at
returns-in_ok-ok_or-in-111 c = c.digits-in-111.ensures ∙ rw c.in-111.is (sym (sized_is 4 _ _ c.be_u32.ensures _ c.in_ok-ok_or-in-111.ensures.value))

pub returns-in_err-count-in-109 : goal.returns-in_err-count-in-109
unfolding row_at
returns-in_err-count-in-109 c = handed _ c.from_residual-in_err-count-in-109.ensures ∙ rw c.in-109.is (sym (counted-no _ _ _ _ _ (sym c.in_err-count-in-109.ensures)))

pub overflow_add-at-in-109 : goal.overflow_add-at-in-109
overflow_add-at-in-109 c = omega (arith, count-there _ _ _ (sym c.in_ok-count-in-109.ensures))

pub returns-in_ok-count-in-109 : goal.returns-in_ok-count-in-109
unfolding row_at
returns-in_ok-count-in-109 c = c.bytes-in-109.ensures ∙ rw c.in-109.is (sym (counted_is _ _ _ _ _ (sym c.in_ok-count-in-109.ensures)))

pub returns-in_err-count-in-77 : goal.returns-in_err-count-in-77
unfolding row_at
returns-in_err-count-in-77 c = handed _ c.from_residual-in_err-count-in-77.ensures ∙ rw c.in-77.is (sym (counted-no _ _ _ _ _ (sym c.in_err-count-in-77.ensures)))

pub overflow_add-at-in-77 : goal.overflow_add-at-in-77
overflow_add-at-in-77 c = omega (arith, count-there _ _ _ (sym c.in_ok-count-in-77.ensures))

pub returns-in_ok-count-in-77 : goal.returns-in_ok-count-in-77
unfolding row_at
returns-in_ok-count-in-77 c = c.bits.ensures ∙ rw c.in-77.is (sym (counted_is _ _ _ _ _ (sym c.in_ok-count-in-77.ensures)))

pub returns-in_default : goal.returns-in_default
unfolding row_at
returns-in_default c = search none_of
