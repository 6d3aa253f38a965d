-- `writer::number` meets its contract: the tag goes in front of the bytes. Assumes nothing.
use Rattle.std.proofs.Common.{refl, arith}
use Rattle.writer.proofs.Wrote.{put, in_front}
use Rattle.writer.proofs.number.Goals as goal

pub returns : goal.returns
returns g c =
    let e = c.copy_from_slice.ensures.after in
    rw (← e) (in_front _ refl (omega arith) (omega arith) (put _ _ _ _ (omega arith) (omega arith) c.copy_from_slice.ensures.len))
