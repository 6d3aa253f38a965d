-- `Cache::is_filled` meets its contract. Assumes nothing.
use Rattle.numbers.specs.Bits as bits
use Rattle.cache.specs.Names.{filled}
use Rattle.cache.proofs.Cache.is_filled.Goals as goal

pub returns : goal.returns
unfolding filled bits.bit
returns c = rw c.from-i.ensures
