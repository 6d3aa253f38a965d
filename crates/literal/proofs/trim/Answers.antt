-- `literal::trim` meets its contract: the last byte that isn't 0 ends what is left. Assumes nothing.
use Rattle.std.proofs.Common.{rules}
use Rattle.literal.proofs.Trims.{trimmed_behind, trimmed-empty}
use Rattle.literal.proofs.trim.Goals as goal

pub returns-in-Some : goal.returns-in-Some
returns-in-Some c = trimmed_behind c.args.s.now c.in-Some.last (search rules) (search rules) (search rules)

pub returns-in-None : goal.returns-in-None
returns-in-None c = trimmed-empty c.args.s.now (search rules)
