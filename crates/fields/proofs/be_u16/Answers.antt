-- `fields::be_u16` meets its contract. Assumes nothing.
use mathlib.Core.Path.{◌∙◌}
use Rattle.fields.proofs.Laws.{field_is, field_eof}
use Rattle.fields.proofs.Std.{spelled-two}
use Rattle.fields.proofs.be_u16.Goals as goal

pub returns-in_err-bytes : goal.returns-in_err-bytes
returns-in_err-bytes c = rw c.from_residual.ensures (field_eof 2 _ _ c.in_err-bytes.ensures)

pub returns : goal.returns
returns c = let (h, e) = c.in_ok-bytes.ensures in field_is 2 _ _ h (c.from_be_bytes.ensures ∙ spelled-two _ _ h e)
