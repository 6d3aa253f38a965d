-- `jig::sill_part`: where the part lies that heads::part hands out. Assumes nothing.
use mathlib.Core.Path.{ap, ◌∙◌}
use Rattle.heads.specs.declared.Headed.{Headed}
use Rattle.heads.specs.Inner.Run.{run_of, placed}
use Rattle.agree.proofs.HeadIs.{run_is}
use Rattle.headwords.specs.Words.{part_words}
use Rattle.jig.proofs.sill_part.Goals as goal

pub returns : goal.returns
returns c = c.place.ensures ∙ ap (λ (h : Headed). part_words (placed (run_of h.value))) c.head-h.ensures ∙ ap part_words (run_is _ _)
