-- `Cache::part` meets its contract: a name that `get` answers lies within the store. Assumes nothing.
use native.Mathlib.Omega.{arith}
use mathlib.Core.Path.{sym}
use borrow.Author.Rules.{rules}
use Rattle.cache.proofs.Slots.{got_inside}
use Rattle.cache.proofs.Cache.part.Goals as goal

pub overflow_add-result : goal.overflow_add-result
overflow_add-result c = record { fits = omega (arith, got_inside _ _ _ (search rules) (λ k. (c.type_inv.store k).fits) (sym c.in-Ok.ensures)) }

pub slice_bounds-result-end : goal.slice_bounds-result-end
slice_bounds-result-end c = omega (arith, got_inside _ _ _ (search rules) (λ k. (c.type_inv.store k).fits) (sym c.in-Ok.ensures))
