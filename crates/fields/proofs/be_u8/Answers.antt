-- `fields::be_u8` meets its contract. Assumes nothing.
use mathlib.Core.Path.{◌∙◌}
use Rattle.fields.proofs.Std.{item}
use Rattle.fields.proofs.be_u8.Goals as goal

pub returns : goal.returns
returns c = c.copied.ensures ∙ item _ _ _ c.get.ensures.lookup
