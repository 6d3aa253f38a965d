-- `literal::after_sign` meets its contract: the sign is looked for in the first byte. Assumes nothing.
use Rattle.std.proofs.Common.{arith}
use Rattle.literal.proofs.Pieces as pieces
use Rattle.literal.proofs.after_sign.Goals as goal

pub returns-in-43 : goal.returns-in-43
returns-in-43 c = pieces.signed _ (grind arith)

pub returns-in_default : goal.returns-in_default
returns-in_default c = pieces.empty _ (omega arith)

pub returns-in_default-2 : goal.returns-in_default-2
returns-in_default-2 c = pieces.bare c.args.s.now (λ e. grind arith) (λ e. grind arith)
