-- `utf8::row1` meets its contract: a way out for each law of a row. Assumes nothing.
use Rattle.std.proofs.Common.{sym, ◌∙◌}
use Rattle.utf8.proofs.Tried.{kept, another, taken, all}
use Rattle.utf8.proofs.row1.Goals as goal

pub returns-then-n-ne-UNDECIDED : goal.returns-then-n-ne-UNDECIDED
returns-then-n-ne-UNDECIDED c = kept _ _ _ c.if-n-ne-UNDECIDED.true

pub returns-then-within : goal.returns-then-within
returns-then-within c = taken _ _ _ _ _ c.requires c.if-n-ne-UNDECIDED.false (sym c.within.ensures ∙ c.if-within.true) (all _)

pub returns : goal.returns
returns c = another _ _ _ _ _ c.requires c.if-n-ne-UNDECIDED.false (sym c.within.ensures ∙ c.if-within.false)
