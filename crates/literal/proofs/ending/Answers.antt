-- `literal::ending` meets its contract: an exponent is e, a sign, and digits up to the end. Assumes nothing.
use Rattle.std.proofs.Common.{arith}
use Rattle.std.proofs.lemmas.Bool.Decides.{nat_tests}
use Rattle.literal.proofs.Pieces as pieces
use Rattle.literal.proofs.ending.Goals as goal

pub returns-in-empty : goal.returns-in-empty
returns-in-empty c = pieces.no_power _ (omega arith)

pub returns-then-is_empty : goal.returns-then-is_empty
returns-then-is_empty c =
    let p = pieces.a_power c.args.s.now (omega arith) _ _ (grind arith) c.after_sign-t.ensures c.after_digits.ensures in
    grind (arith, nat_tests)

pub returns-else-is_empty : goal.returns-else-is_empty
returns-else-is_empty c =
    let p = pieces.a_power c.args.s.now (omega arith) _ _ (grind arith) c.after_sign-t.ensures c.after_digits.ensures in
    grind (arith, nat_tests)

pub returns-in_default : goal.returns-in_default
returns-in_default c = pieces.no_e c.args.s.now (omega arith) (λ e. grind arith) (λ e. grind arith)
