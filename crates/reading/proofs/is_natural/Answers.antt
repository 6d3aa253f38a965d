-- `reading::is_natural` meets its contract. Assumes nothing.
use native.Mathlib.Omega.{arith}
use mathlib.Core.Path.{sym, ◌∙◌}
use Rattle.numbers.proofs.Laws.{none_of}
use Rattle.fields.proofs.Laws.{byte_at, some_there}
use Rattle.reading.specs.Terms.{is_natural}
use Rattle.reading.proofs.is_natural.Goals as goal

pub overflow_add-at : goal.overflow_add-at
overflow_add-at c = omega (arith, some_there 1 c.args.b.now c.args.at)

pub overflow_add-at-in-98 : goal.overflow_add-at-in-98
overflow_add-at-in-98 c = omega (arith, some_there 1 c.args.b.now c.args.at)

pub returns-in-97 : goal.returns-in-97
unfolding is_natural
returns-in-97 c = rw (sym (byte_at _ _) ∙ sym c.u8_at.ensures ∙ c.in-97.is, c.from.ensures, c.u8_at-in-97.ensures)

pub returns-in-98 : goal.returns-in-98
unfolding is_natural
returns-in-98 c = rw (sym (byte_at _ _) ∙ sym c.u8_at.ensures ∙ c.in-98.is, c.from-in-98.ensures, c.u32_at.ensures)

pub returns-in_default : goal.returns-in_default
unfolding is_natural
returns-in_default c = rw (sym (byte_at _ _) ∙ sym c.u8_at.ensures) (search none_of)
