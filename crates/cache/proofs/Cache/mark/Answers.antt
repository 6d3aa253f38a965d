-- `Cache::mark` meets its contract. Assumes nothing.
use Prim.Native.Nat.{◌%◌}
use native.Mathlib.Omega.{arith}
use Rattle.cache.specs.Names.{marked}
use Rattle.cache.proofs.Writes.{shifted}
use Rattle.cache.proofs.Cache.mark.Goals as goal

pub returns : goal.returns
unfolding marked
returns c = rw (c.from-i.ensures, shifted (c.args.slot % 64) (omega arith))
