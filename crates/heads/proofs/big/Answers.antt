-- `heads::big` meets its contract. Assumes nothing.
use Rattle.heads.specs.Inner.Head.{big}
use Rattle.heads.proofs.big.Goals as goal

pub returns : goal.returns
unfolding big
returns c = rw c.u8_at-sign.ensures
