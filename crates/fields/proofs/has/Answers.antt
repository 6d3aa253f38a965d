-- `fields::has` meets its contract. Assumes nothing.
use native.Mathlib.Omega.{arith}
use Rattle.std.proofs.lemmas.Bool.Decides.{nat_tests}
use Rattle.fields.specs.Field.{holds}
use Rattle.fields.proofs.has.Goals as goal

pub returns-then-at-b : goal.returns-then-at-b
unfolding holds
returns-then-at-b c = grind (arith, nat_tests)

pub returns-else-at-b : goal.returns-else-at-b
unfolding holds
returns-else-at-b c = grind (arith, nat_tests)
