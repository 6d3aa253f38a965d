-- `utf8::plain_end` meets its contract: what is left behind the eights is looked at byte by byte. Assumes nothing.
use Rattle.std.proofs.Common.{rules}
use Rattle.utf8.proofs.Eights.{run_at, run-all}
use Rattle.utf8.proofs.plain_end.Goals as goal

pub returns-in-Some : goal.returns-in-Some
returns-in-Some c = run_at c.eights_end-i.ensures c.in-Some.n (search rules) (search rules) (search rules)

pub returns-in-None : goal.returns-in-None
returns-in-None c = run-all c.eights_end-i.ensures (search rules)
