-- `jig::answer` meets its contract: with no segment no word is written. Assumes nothing.
use mathlib.Core.Path.{refl, sym}
use Rattle.jig.specs.Shown.{segment_words, path_words}
use Rattle.jig.proofs.answer.Goals as goal

pub returns-in-Ok-clause-traces : goal.returns-in-Ok-clause-traces
unfolding path_words segment_words
returns-in-Ok-clause-traces c = rw c.in-Ok.is refl

pub returns-in-Err-clause-traces : goal.returns-in-Err-clause-traces
unfolding path_words
returns-in-Err-clause-traces c = rw (c.in-Err.is, sym c.as_slice.ensures) c.trace.ensures
