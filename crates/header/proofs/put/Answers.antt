-- `header::put` meets its contract. The loop's invariant: the whole name over the store as it was is the rest of the name over the
-- store now. Assumes nothing.
use Prim.Native.Nat.{◌*◌}
use native.Mathlib.Nat.{add-zero}
use native.Mathlib.Numerals.{add-one}
use native.Mathlib.Omega.{arith}
use mathlib.Core.Path.{refl, sym, ◌∙◌}
use lib.ListN.{length, length-set}
use Rattle.cache.specs.Names.{stored}
use Rattle.cache.proofs.Writes.{sets_more, sets_all}
use Rattle.header.proofs.put.Goals as goal

pub loop-i-init : goal.loop-i-init
loop-i-init c = (refl, rw add-zero)

pub bounds-store-at-in-loop-i : goal.bounds-store-at-in-loop-i
bounds-store-at-in-loop-i c = omega (arith, length-set c.args.store.now (c.from-at.result * 256) (length c.args.name.now))

pub loop-i-preserved : goal.loop-i-preserved
loop-i-preserved c = (simp length-set (simp length-set at c.loop-i.invariant.0), c.loop-i.invariant.1 ∙ sets_more _ _ _ _ c.loop-i-test.true)

pub returns : goal.returns
unfolding stored
returns c = rw (← c.from-at.ensures) (sym (rw (add-one (c.from-at.result * 256)) at c.loop-i.invariant.1 ∙ sets_all _ _ _ _ c.loop-i-test.false))
