-- `utf8::char_at` meets its contract: going by the rows finds the character, or that there is none. Assumes nothing.
use Rattle.std.proofs.Common.{arith, drop}
use Rattle.utf8.proofs.ByRows.{by_table, no_character}
use Rattle.utf8.proofs.char_at.Goals as goal

pub returns-in-0 : goal.returns-in-0
returns-in-0 c = let e = c.rows.ensures in no_character _ (grind arith)

pub returns-in_default : goal.returns-in_default
returns-in_default c = let e = c.rows.ensures in rw e (by_table (drop c.args.i c.args.s.now) (λ h. grind arith) (λ h. grind arith))
