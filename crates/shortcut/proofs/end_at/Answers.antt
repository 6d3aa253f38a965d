-- `shortcut::end_at` meets its contract: each answer is the definition at its tag. Assumes nothing.
use native.Mathlib.Omega.{arith}
use mathlib.Core.Path.{◌∙◌}
use Rattle.std.proofs.lemmas.Bool.Decides.{nat_tests}
use Rattle.shortcut.specs.Inner.Short.{short_by}
use Rattle.shortcut.proofs.Shorts.{short_tag, short_far, other}
use Rattle.shortcut.proofs.end_at.Goals as goal
use Rattle.shortcut.proofs.end_at.Goals.{then-b-lt10-via-then-b-lt10, then-b-lt10-via-else-b-lt10+then-b-at}

pub returns-then-b-lt10 : goal.returns-then-b-lt10
returns-then-b-lt10 c = elim c.then-b-lt10.branch [
  | then-b-lt10-via-then-b-lt10 w ↦ short_far _ _ (omega arith)
  | then-b-lt10-via-else-b-lt10+then-b-at w ↦ short_far _ _ (omega arith)
]

pub returns-in-97 : goal.returns-in-97
unfolding short_by
returns-in-97 c = short_tag _ _ 97 (omega arith) c.in-97.is

pub returns-in-70 : goal.returns-in-70
unfolding short_by
returns-in-70 c = short_tag _ _ 70 (omega arith) c.in-70.is

pub returns-in-98 : goal.returns-in-98
unfolding short_by
returns-in-98 c = short_tag _ _ 98 (omega arith) c.in-98.is

pub returns-in-106 : goal.returns-in-106
unfolding short_by
returns-in-106 c = short_tag _ _ 106 (omega arith) c.in-106.is

pub returns-in-109 : goal.returns-in-109
unfolding short_by
returns-in-109 c = c.binary.ensures ∙ short_tag _ _ 109 (omega arith) c.in-109.is

pub returns-then-tag-eq119 : goal.returns-then-tag-eq119
unfolding short_by
returns-then-tag-eq119 c = c.name.ensures ∙ short_tag _ _ 119 (omega arith) c.if-tag-eq119.true

pub returns-in_default : goal.returns-in_default
unfolding short_by
returns-in_default c = other _ _ (omega arith) (grind (arith, nat_tests))

pub returns-else-tag-eq119 : goal.returns-else-tag-eq119
unfolding short_by
returns-else-tag-eq119 c = other _ _ (omega arith) (grind (arith, nat_tests))

pub returns-in_default-tag : goal.returns-in_default-tag
unfolding short_by
returns-in_default-tag c = other _ _ (omega arith) (grind (arith, nat_tests))
