-- `heads::count` meets its contract. Assumes nothing.
use mathlib.Core.Path.{sym}
use Rattle.rows.proofs.Laws.{counted_is, counted-no}
use Rattle.heads.specs.Inner.Head.{count}
use Rattle.heads.proofs.count.Goals as goal

pub returns-in-Ok : goal.returns-in-Ok
unfolding count
returns-in-Ok c = sym (counted_is _ _ _ _ _ (sym c.in-Ok.ensures))

pub returns-in-Err : goal.returns-in-Err
unfolding count
returns-in-Err c = sym (counted-no _ _ _ _ _ (sym c.in-Err.ensures))
