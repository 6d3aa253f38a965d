-- `fields::i32_at` meets its contract. Assumes nothing.
use mathlib.Core.Path.{ap, ◌∙◌}
use mir.Syntax.{w32}
use mir.Facts.{to_z-of_z}
use lib.IntN.{pos}
use Rattle.std.specs.Option.{unwrap_or}
use Rattle.fields.proofs.Laws.{integer_known}
use Rattle.fields.proofs.i32_at.Goals as goal

pub returns : goal.returns
returns c = to_z-of_z {w = w32} (record { sfits = c.unwrap_or.type_inv }) ∙ c.unwrap_or.ensures ∙ ap (λ r. unwrap_or r (pos 0)) c.be_i32.ensures ∙ integer_known _ _
