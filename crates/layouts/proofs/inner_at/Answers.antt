-- `layouts::inner_at` meets its contract: the definition at three tags, and `shape_at` at the rest. Assumes nothing.
use mathlib.Core.Path.{◌∙◌}
use Rattle.layouts.specs.Inner.Shape.{shape_by}
use Rattle.layouts.proofs.Shapes.{by_tag_lem, none_at}
use Rattle.layouts.proofs.inner_at.Goals as goal

pub returns-in_default : goal.returns-in_default
returns-in_default c = c.ends.ensures ∙ none_at _ _ c.in_default.ensures

pub returns-then-tag-eq104 : goal.returns-then-tag-eq104
unfolding shape_by
returns-then-tag-eq104 c = rw (c.inner.ensures, c.u8_at.ensures) (by_tag_lem _ _ 104 c.in-Some.ensures c.if-tag-eq104.true)

pub returns-then-tag-eq108 : goal.returns-then-tag-eq108
unfolding shape_by
returns-then-tag-eq108 c = rw (c.inner-then-tag-eq108.ensures, c.u32_at.ensures) (by_tag_lem _ _ 108 c.in-Some.ensures c.if-tag-eq108.true)

pub returns-then-tag-eq116 : goal.returns-then-tag-eq116
unfolding shape_by
returns-then-tag-eq116 c = rw (c.inner-then-tag-eq116.ensures, c.u32_at-then-tag-eq116.ensures) (by_tag_lem _ _ 116 c.in-Some.ensures c.if-tag-eq116.true)
