-- `rows::bits_byte` meets its contract. Assumes nothing.
use native.Mathlib.Omega.{arith}
use Rattle.std.proofs.lemmas.Bool.Decides.{nat_tests}
use Rattle.numbers.specs.Caps.{bits_byte}
use Rattle.rows.proofs.bits_byte.Goals as goal

pub returns-then-n-eq0 : goal.returns-then-n-eq0
unfolding bits_byte
returns-then-n-eq0 c = grind (arith, nat_tests)

pub returns-in-1-to-8 : goal.returns-in-1-to-8
unfolding bits_byte
returns-in-1-to-8 c = grind (arith, nat_tests)

pub returns-in_default : goal.returns-in_default
unfolding bits_byte
returns-in_default c = grind (arith, nat_tests)

pub returns-in_default-2 : goal.returns-in_default-2
unfolding bits_byte
returns-in_default-2 c = grind (arith, nat_tests)
