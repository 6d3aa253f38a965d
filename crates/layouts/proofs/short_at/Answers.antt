-- `layouts::short_at` meets its contract: each arm is the definition at its tag, and in the last the tag is none of them. Assumes nothing.
use mathlib.Core.Path.{refl, ◌∙◌}
use Rattle.numbers.proofs.Laws.{none_of}
use Rattle.layouts.specs.Inner.Shape.{short_by}
use Rattle.layouts.proofs.Shapes.{short_tag, short_none}
use Rattle.layouts.proofs.short_at.Goals as goal

pub returns-in_err-tag_at : goal.returns-in_err-tag_at
returns-in_err-tag_at c = c.from_residual.ensures ∙ short_none _ _ c.in_err-tag_at.ensures

pub returns-in-97 : goal.returns-in-97
unfolding short_by
returns-in-97 c = short_tag _ _ 97 c.in_ok-tag_at.ensures c.in-97.is

pub returns-in-98 : goal.returns-in-98
unfolding short_by
returns-in-98 c = short_tag _ _ 98 c.in_ok-tag_at.ensures c.in-98.is

pub returns-in-70 : goal.returns-in-70
unfolding short_by
returns-in-70 c = short_tag _ _ 70 c.in_ok-tag_at.ensures c.in-70.is

pub returns-in-106 : goal.returns-in-106
unfolding short_by
returns-in-106 c = short_tag _ _ 106 c.in_ok-tag_at.ensures c.in-106.is

pub returns-in-119 : goal.returns-in-119
unfolding short_by
returns-in-119 c = rw c.u8_at.ensures (short_tag _ _ 119 c.in_ok-tag_at.ensures c.in-119.is)

pub returns-in-109 : goal.returns-in-109
unfolding short_by
returns-in-109 c = rw c.u32_at.ensures (short_tag _ _ 109 c.in_ok-tag_at.ensures c.in-109.is)

pub returns-in-82 : goal.returns-in-82
unfolding short_by
returns-in-82 c = short_tag _ _ 82 c.in_ok-tag_at.ensures c.in-82.is

pub returns-in_default : goal.returns-in_default
unfolding short_by
returns-in_default c = (search none_of) ∙ short_tag _ _ _ c.in_ok-tag_at.ensures refl
