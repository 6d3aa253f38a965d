-- `Cache::count` meets its contract. Assumes nothing.
use mathlib.Core.Path.{refl}
use Rattle.cache.specs.Names.{count_of}
use Rattle.cache.proofs.Cache.count.Goals as goal

pub returns : goal.returns
unfolding count_of
returns c = refl
