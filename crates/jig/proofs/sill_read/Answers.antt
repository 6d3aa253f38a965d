-- `jig::sill_read`: a record's answer has at most sixty-four segments. Assumes nothing.
use Rattle.tape.proofs.Accepts.{few-segments}
use Rattle.tape.proofs.Records.{record_sure}
use Rattle.jig.proofs.sill_read.Goals as goal

pub answer-requires : goal.answer-requires
answer-requires c = few-segments (record_sure _ _) c.read-a.ensures
