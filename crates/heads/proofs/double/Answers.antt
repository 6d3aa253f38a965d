-- `heads::double` meets its contract. Assumes nothing.
use Rattle.heads.specs.Inner.Head.{double}
use Rattle.heads.proofs.double.Goals as goal

pub returns : goal.returns
unfolding double
returns c = rw (c.float.ensures, c.u64_at-bits.ensures)
