-- `terms::short` meets its contract. Assumes nothing.
use Rattle.terms.proofs.Shorts.{short-is}
use Rattle.terms.proofs.steps.short.Goals as goal

pub returns : goal.returns
returns c = short-is _ _ _ _ c.if-rem-eq0.false c.requires c.end_at.ensures
