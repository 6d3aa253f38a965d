-- `fields::u32_at` meets its contract. Assumes nothing.
use mathlib.Core.Path.{ap, ◌∙◌}
use Rattle.std.specs.Option.{unwrap_or}
use Rattle.fields.proofs.Laws.{known}
use Rattle.fields.proofs.u32_at.Goals as goal

pub returns : goal.returns
returns c = c.unwrap_or.ensures ∙ ap (λ r. unwrap_or r 0) c.be_u32.ensures ∙ known 4 _ _
