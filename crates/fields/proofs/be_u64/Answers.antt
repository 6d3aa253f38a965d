-- `fields::be_u64` meets its contract. Assumes nothing.
use mathlib.Core.Path.{◌∙◌}
use Rattle.fields.proofs.Laws.{field_is, field_eof}
use Rattle.fields.proofs.Std.{spelled-eight}
use Rattle.fields.proofs.be_u64.Goals as goal

pub returns-in_err-bytes : goal.returns-in_err-bytes
returns-in_err-bytes c = rw c.from_residual.ensures (field_eof 8 _ _ c.in_err-bytes.ensures)

pub returns : goal.returns
returns c = let (h, e) = c.in_ok-bytes.ensures in field_is 8 _ _ h (c.from_be_bytes.ensures ∙ spelled-eight _ _ h e)
