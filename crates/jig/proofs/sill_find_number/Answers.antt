-- `jig::sill_find_number`: a lookup's answer has at most sixty-four segments. Assumes nothing.
use Rattle.lookup.proofs.Meaning.{few-segments}
use Rattle.jig.proofs.sill_find_number.Goals as goal

pub answer-requires : goal.answer-requires
answer-requires c = few-segments c.find_number-a.ensures
