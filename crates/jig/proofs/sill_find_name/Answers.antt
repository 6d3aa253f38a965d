-- `jig::sill_find_name`: a lookup's answer has at most sixty-four segments. Assumes nothing.
use Rattle.lookup.proofs.Meaning.{few-segments}
use Rattle.jig.proofs.sill_find_name.Goals as goal

pub answer-requires : goal.answer-requires
answer-requires c = few-segments c.find_name-a.ensures
