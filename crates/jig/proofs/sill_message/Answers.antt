-- `jig::sill_message`: a message's answer has at most sixty-four segments. Assumes nothing.
use Rattle.tape.proofs.Accepts.{few-segments}
use Rattle.message.proofs.Sure.{message_sure}
use Rattle.jig.proofs.sill_message.Goals as goal

pub answer-requires : goal.answer-requires
answer-requires c = few-segments (message_sure _ _ _ _) c.read-m.ensures.answer
