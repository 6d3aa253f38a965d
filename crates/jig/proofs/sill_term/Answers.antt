-- `jig::sill_term`: what terms::read says, number for number. Assumes nothing.
use Rattle.reading.proofs.Asks.{plain_read}
use Rattle.reading.proofs.Bounds.{few-segments}
use Rattle.reading.specs.Told.{told_of}
use Rattle.jig.proofs.sill_term.Goals as goal

pub answer-requires : goal.answer-requires
answer-requires c = rw (plain_read _ _ _ c.plainly.ensures c.read-a.ensures) (few-segments _ _ _ _)

pub returns : goal.returns
returns c = record { answer = told_of c.read-a.result; promised = plain_read _ _ _ c.plainly.ensures c.read-a.ensures; shows = c.answer.ensures.shows; traces = c.answer.ensures.traces }
