-- `jig::sill_head`: what heads::head says, number for number. Assumes nothing.
use mathlib.Core.Path.{ap, ◌∙◌}
use Rattle.agree.proofs.HeadIs.{head-is}
use Rattle.headwords.specs.Words.{head_words, told_words}
use Rattle.jig.proofs.sill_head.Goals as goal

pub returns : goal.returns
returns c = c.words.ensures ∙ ap head_words c.head-h.ensures ∙ ap told_words (head-is _ _)
