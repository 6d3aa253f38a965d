-- `writer::digits` meets its contract. The loop's invariant: all the digits over the bytes as they were are the digits that are left over the bytes
-- now. The measure is the number that is left. Assumes nothing.
use Rattle.std.proofs.Common.{◌≡◌, length, refl, ap, ◌∙◌, add-one, arith, length-set}
use Rattle.fields.specs.Be.{digits_of}
use Rattle.fields.proofs.Digits.{digits-none, digits_more}
use Rattle.writer.proofs.Wrote.{stored}
use Rattle.writer.proofs.digits.Goals as goal

pub loop-m-init : goal.loop-m-init
loop-m-init c = (omega arith, (refl, (refl, refl)))

pub bounds-out-q : goal.bounds-out-q
bounds-out-q c = let d = ap length (digits_more 7 c.loop-m.m (omega arith) c.loop-m.invariant.0) in omega arith

pub overflow_add-q : goal.overflow_add-q
overflow_add-q c = let d = ap length (digits_more 7 c.loop-m.m (omega arith) c.loop-m.invariant.0) in omega arith

pub loop-m-preserved : goal.loop-m-preserved
loop-m-preserved c =
    let d = digits_more 7 c.loop-m.m (omega arith) c.loop-m.invariant.0 in
    let n = ap length d in
    (omega arith, (omega arith, (simp length-set c.loop-m.invariant.1.1.0, c.loop-m.invariant.1.1.1 ∙ rw (d, add-one c.loop-m.q))))

pub shape_of-out : goal.shape_of-out
shape_of-out c = c.loop-m.invariant.1.1.0

pub returns : goal.returns
returns c =
    let z : c.loop-m.m ≡ 0 = omega arith in
    let s = rw (z, digits-none 8) at c.loop-m.invariant.1.1.1 in
    let n = rw (z, digits-none 8) at c.loop-m.invariant.1.0 in
    let a = c.args in
    rw (← s) (stored a.out.now a.p c.loop-m.q (digits_of 8 a.n) (omega arith) (omega arith))
