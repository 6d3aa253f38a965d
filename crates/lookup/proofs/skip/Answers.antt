-- `lookup::skip` meets its contract. The loop's invariant: what is owed from here on ends where the term does. The measure is the bytes
-- left. Assumes nothing.
use native.Mathlib.Omega.{arith}
use mathlib.Core.Path.{◌≡◌}
use Rattle.lookup.proofs.Passing.{bound, at_first, at_last, goes_into, goes_over}
use Rattle.lookup.proofs.skip.Goals as goal

pub loop-owed-init : goal.loop-owed-init
loop-owed-init c = λ t i. at_first i

pub overflow_add-at : goal.overflow_add-at
overflow_add-at c = let q = c.requires in let s = goes_over (c.loop-owed.invariant q.tree q.is) (omega arith) q.short c.shape_at-s.ensures c.shape_at-atom.ensures c.if-s-ne0.true in omega (arith, bound s.rest, q.short)

pub loop-owed-smaller-then-s-ne0 : goal.loop-owed-smaller-then-s-ne0
loop-owed-smaller-then-s-ne0 c = let q = c.requires in let s = goes_over (c.loop-owed.invariant q.tree q.is) (omega arith) q.short c.shape_at-s.ensures c.shape_at-atom.ensures c.if-s-ne0.true in omega (arith, bound s.rest, s.rises)

pub loop-owed-preserved-then-s-ne0 : goal.loop-owed-preserved-then-s-ne0
loop-owed-preserved-then-s-ne0 c = let q = c.requires in λ t i. (goes_over (c.loop-owed.invariant t i) (omega arith) q.short c.shape_at-s.ensures c.shape_at-atom.ensures c.if-s-ne0.true).rest

pub overflow_add-owed : goal.overflow_add-owed
overflow_add-owed c = let q = c.requires in let s = goes_into (c.loop-owed.invariant q.tree q.is) (omega arith) q.short c.shape_at-s.ensures c.if-s-ne0.false in omega (arith, bound s.rest, q.short)

pub loop-owed-smaller : goal.loop-owed-smaller
loop-owed-smaller c = let q = c.requires in let s = goes_into (c.loop-owed.invariant q.tree q.is) (omega arith) q.short c.shape_at-s.ensures c.if-s-ne0.false in omega (arith, bound s.rest, s.rises)

pub loop-owed-preserved : goal.loop-owed-preserved
loop-owed-preserved c = let q = c.requires in λ t i. (goes_into (c.loop-owed.invariant t i) (omega arith) q.short c.shape_at-s.ensures c.if-s-ne0.false).rest

pub returns : goal.returns
returns c = record { is = λ t i. let z : c.loop-owed.owed ≡ 0 = omega arith in at_last (rw z at (c.loop-owed.invariant t i)) }
