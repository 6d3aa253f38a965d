-- `writer::copy` meets its contract. The loop's invariant: the bytes passed are copied. Assumes nothing.
use Rattle.std.proofs.Common.{◌≡◌, drop, refl, arith, length-drop, length-set}
use lib.Seq.{paste-zero}
use Rattle.writer.proofs.Wrote.{pasted}
use Rattle.writer.proofs.Copies.{copied}
use Rattle.writer.proofs.copy.Goals as goal

pub loop-i-init : goal.loop-i-init
loop-i-init c = (refl, paste-zero _ c.args.p (drop c.args.at c.args.texts.now))

pub loop-i-preserved : goal.loop-i-preserved
loop-i-preserved c =
    let a = c.args in
    (simp length-set c.loop-i.invariant.0, copied a.out.now a.texts.now a.p a.at c.loop-i.i (omega arith) (omega arith) c.loop-i.invariant.1)

pub returns : goal.returns
returns c =
    let a = c.args in
    let e : c.loop-i.i ≡ a.n = omega arith in
    rw (c.loop-i.invariant.1, e) (pasted a.out.now (drop a.at a.texts.now) a.p a.n (omega arith) (simp length-drop (omega arith)))
