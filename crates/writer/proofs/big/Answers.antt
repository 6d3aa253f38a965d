-- `writer::big` meets its contract: the digits, and what stands before them from its end. Assumes nothing.
use Rattle.std.proofs.Common.{◌≡◌, ◌-◌, length, refl, arith, length-set}
use Rattle.fields.specs.Be.{digits_of}
use Rattle.fields.proofs.Digits.{few-digits}
use Rattle.measure.proofs.Items.{head-big, length-big}
use Rattle.writer.proofs.Wrote.{in_front}
use Rattle.writer.proofs.big.Goals as goal

pub digits-end-requires : goal.digits-end-requires
digits-end-requires c = omega (arith, length-big c.args.sign c.args.n refl)

pub bounds-out-p : goal.bounds-out-p
bounds-out-p c = omega (arith, length-big c.args.sign c.args.n refl, c.digits-end.ensures.kept)

pub overflow_cast-out : goal.overflow_cast-out
overflow_cast-out c = omega (arith, few-digits 8 c.args.n, c.digits-end.ensures.to)

pub bounds-out-p-2 : goal.bounds-out-p-2
bounds-out-p-2 c = simp length-set (omega (arith, length-big c.args.sign c.args.n refl, c.digits-end.ensures.kept))

pub bounds-out-p-3 : goal.bounds-out-p-3
bounds-out-p-3 c = simp length-set (omega (arith, length-big c.args.sign c.args.n refl, c.digits-end.ensures.kept))

pub returns : goal.returns
returns c =
    let a = c.args in
    let w = c.digits-end.ensures in
    let n = length-big a.sign a.n refl in
    let k : c.digits-end.result - a.p - 3 ≡ length (digits_of 8 a.n) = omega arith in
    rw (head-big a.sign a.n, ← k)
    (in_front _ refl (omega arith) (omega arith) (in_front _ (omega arith) (omega arith) (omega arith) (in_front _ (omega arith) (omega arith) (omega arith) w)))
