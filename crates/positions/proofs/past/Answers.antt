-- `positions::past` meets its contract: an old reference, and a new one by the width of its length. Assumes nothing.
use Prim.Native.Nat.{◌+◌}
use native.Mathlib.Omega.{arith}
use mathlib.Core.Path.{◌≡◌}
use Rattle.fields.specs.Field.{number_at}
use Rattle.positions.proofs.Passing.{past_old, past_new}
use Rattle.positions.proofs.past.Goals as goal

pub overflow_add-result : goal.overflow_add-result
overflow_add-result c = record { fits = omega (arith, (past_old _ _ _ _ c.requires c.if-not-new.true).0) }

pub returns-then-not-new : goal.returns-then-not-new
returns-then-not-new c = (past_old _ _ _ _ c.requires c.if-not-new.true).1

pub overflow_add-result-then-long : goal.overflow_add-result-then-long
overflow_add-result-then-long c = let f = rw c.if-long.true at (past_new _ _ _ _ c.requires c.if-not-new.false) in omega arith

pub overflow_add-p : goal.overflow_add-p
overflow_add-p c = let f = rw c.if-long.true at (past_new _ _ _ _ c.requires c.if-not-new.false) in omega arith

pub overflow_add-result-then-long-2 : goal.overflow_add-result-then-long-2
overflow_add-result-then-long-2 c = let f = rw c.if-long.true at (past_new _ _ _ _ c.requires c.if-not-new.false) in omega (arith, c.from.ensures, c.u16_at.ensures)

pub overflow_add-result-else-long : goal.overflow_add-result-else-long
overflow_add-result-else-long c = let f = rw c.if-long.false at (past_new _ _ _ _ c.requires c.if-not-new.false) in omega arith

pub overflow_add-p-else-long : goal.overflow_add-p-else-long
overflow_add-p-else-long c = let f = rw c.if-long.false at (past_new _ _ _ _ c.requires c.if-not-new.false) in omega arith

pub overflow_add-result-else-long-2 : goal.overflow_add-result-else-long-2
overflow_add-result-else-long-2 c = let f = rw c.if-long.false at (past_new _ _ _ _ c.requires c.if-not-new.false) in omega (arith, c.from-else-long.ensures, c.u8_at.ensures)

pub returns-then-long : goal.returns-then-long
returns-then-long c =
    let e : c.args.p + 3 + c.from.result ≡ c.args.p + 1 + 2 + number_at 2 c.args.b.now (c.args.p + 1) = omega (arith, c.from.ensures, c.u16_at.ensures) in
    rw (e, c.if-long.true) (rw c.if-long.true at (past_new _ _ _ _ c.requires c.if-not-new.false).1)

pub returns-else-long : goal.returns-else-long
returns-else-long c =
    let e : c.args.p + 2 + c.from-else-long.result ≡ c.args.p + 1 + 1 + number_at 1 c.args.b.now (c.args.p + 1) = omega (arith, c.from-else-long.ensures, c.u8_at.ensures) in
    rw (e, c.if-long.false) (rw c.if-long.false at (past_new _ _ _ _ c.requires c.if-not-new.false).1)
