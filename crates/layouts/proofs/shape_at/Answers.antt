-- `layouts::shape_at` meets its contract: each arm is the definition at its tag, and in the last the tag is none of them. Assumes nothing.
use mathlib.Core.Path.{refl, ◌∙◌}
use mathlib.Core.Logic.{⊎_elim}
use Rattle.numbers.proofs.Laws.{none_of}
use Rattle.layouts.specs.Inner.Shape.{shape_by}
use Rattle.layouts.proofs.Shapes.{by_tag_lem, none_at}
use Rattle.layouts.proofs.shape_at.Goals as goal

pub returns-in_default : goal.returns-in_default
returns-in_default c = c.ends.ensures ∙ none_at _ _ c.in_default.ensures

pub returns-in-97 : goal.returns-in-97
unfolding shape_by
returns-in-97 c = c.ends-in-97.ensures ∙ by_tag_lem _ _ 97 c.in-Some.ensures c.in-97.is

pub returns-in-98 : goal.returns-in-98
unfolding shape_by
returns-in-98 c = c.ends-in-98.ensures ∙ by_tag_lem _ _ 98 c.in-Some.ensures c.in-98.is

pub returns-in-99 : goal.returns-in-99
unfolding shape_by
returns-in-99 c = c.ends-in-99.ensures ∙ by_tag_lem _ _ 99 c.in-Some.ensures c.in-99.is

pub returns-in-70 : goal.returns-in-70
unfolding shape_by
returns-in-70 c = c.ends-in-70.ensures ∙ by_tag_lem _ _ 70 c.in-Some.ensures c.in-70.is

pub returns-in-100 : goal.returns-in-100
unfolding shape_by
returns-in-100 c = rw (c.ends-in-100.ensures, c.u16_at.ensures) (⊎_elim (by_tag_lem _ _ 100 c.in-Some.ensures) (⊎_elim (by_tag_lem _ _ 107 c.in-Some.ensures) (by_tag_lem _ _ 118 c.in-Some.ensures)) c.in-100.is)

pub returns-in-119 : goal.returns-in-119
unfolding shape_by
returns-in-119 c = rw (c.ends-in-119.ensures, c.u8_at.ensures) (by_tag_lem _ _ 119 c.in-Some.ensures c.in-119.is)

pub returns-in-106 : goal.returns-in-106
unfolding shape_by
returns-in-106 c = c.ends-in-106.ensures ∙ by_tag_lem _ _ 106 c.in-Some.ensures c.in-106.is

pub returns-in-109 : goal.returns-in-109
unfolding shape_by
returns-in-109 c = rw (c.ends-in-109.ensures, c.u32_at.ensures) (by_tag_lem _ _ 109 c.in-Some.ensures c.in-109.is)

pub returns-in-77 : goal.returns-in-77
unfolding shape_by
returns-in-77 c = rw (c.ends-in-77.ensures, c.u32_at-in-77.ensures) (⊎_elim (by_tag_lem _ _ 77 c.in-Some.ensures) (by_tag_lem _ _ 111 c.in-Some.ensures) c.in-77.is)

pub returns-in-110 : goal.returns-in-110
unfolding shape_by
returns-in-110 c = rw (c.ends-in-110.ensures, c.u8_at-in-110.ensures) (by_tag_lem _ _ 110 c.in-Some.ensures c.in-110.is)

pub returns-in-104 : goal.returns-in-104
unfolding shape_by
returns-in-104 c = rw (c.inner.ensures, c.u8_at-in-104.ensures) (by_tag_lem _ _ 104 c.in-Some.ensures c.in-104.is)

pub returns-in-105 : goal.returns-in-105
unfolding shape_by
returns-in-105 c = rw (c.inner-in-105.ensures, c.u32_at-in-105.ensures) (by_tag_lem _ _ 105 c.in-Some.ensures c.in-105.is)

pub returns-in-108 : goal.returns-in-108
unfolding shape_by
returns-in-108 c = rw (c.inner-in-108.ensures, c.u32_at-in-108.ensures) (by_tag_lem _ _ 108 c.in-Some.ensures c.in-108.is)

pub returns-in-116 : goal.returns-in-116
unfolding shape_by
returns-in-116 c = rw (c.inner-in-116.ensures, c.u32_at-in-116.ensures) (by_tag_lem _ _ 116 c.in-Some.ensures c.in-116.is)

pub returns-in-88 : goal.returns-in-88
unfolding shape_by
returns-in-88 c = rw c.inner-in-88.ensures (⊎_elim (by_tag_lem _ _ 88 c.in-Some.ensures) (by_tag_lem _ _ 120 c.in-Some.ensures) c.in-88.is)

pub returns-in-90 : goal.returns-in-90
unfolding shape_by
returns-in-90 c = rw (c.inner-in-90.ensures, c.u16_at-in-90.ensures) (by_tag_lem _ _ 90 c.in-Some.ensures c.in-90.is)

pub returns-in-113 : goal.returns-in-113
unfolding shape_by
returns-in-113 c = c.inner-in-113.ensures ∙ by_tag_lem _ _ 113 c.in-Some.ensures c.in-113.is

pub returns-in-112 : goal.returns-in-112
unfolding shape_by
returns-in-112 c = rw (c.inner-in-112.ensures, c.u32_at-in-112.ensures) (by_tag_lem _ _ 112 c.in-Some.ensures c.in-112.is)

pub returns-in-82 : goal.returns-in-82
unfolding shape_by
returns-in-82 c = c.ends-in-82.ensures ∙ by_tag_lem _ _ 82 c.in-Some.ensures c.in-82.is

pub returns-in_default-tag : goal.returns-in_default-tag
unfolding shape_by
returns-in_default-tag c = c.ends-in_default-tag.ensures ∙ (search none_of) ∙ by_tag_lem _ _ _ c.in-Some.ensures refl
