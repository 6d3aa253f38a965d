-- `utf8::good` meets its contract. The loop's invariant: the bytes passed spell whole good characters. It ends where none stands, or at
-- the end, and only `good_bytes` has both. The measure is what is left of the text. Assumes nothing.
use Rattle.std.proofs.Common.{arith}
use Rattle.utf8.proofs.Unique.{good_unique}
use Rattle.utf8.proofs.Meaning.{good-bytes}
use Rattle.utf8.proofs.Runs.{none_yet, one_more, stuck-here, ascii_more, at-end, step, good-to}
use Rattle.utf8.proofs.good.Goals as goal

pub loop-i-init : goal.loop-i-init
loop-i-init c = none_yet _

pub loop-i-preserved-then-s-i-lt128 : goal.loop-i-preserved-then-s-i-lt128
loop-i-preserved-then-s-i-lt128 c = ascii_more c.loop-i.invariant c.loop-i-test.true c.if-s-i-lt128.true c.plain_end-i.ensures.plain

pub returns-in-None : goal.returns-in-None
returns-in-None c = good_unique (good-to c.loop-i.invariant (stuck-here c.loop-i.invariant c.in-None.ensures)) (good-bytes _)

pub overflow_add-i-in-Some : goal.overflow_add-i-in-Some
overflow_add-i-in-Some c = omega (arith, step c.loop-i.invariant c.in-Some.ensures)

pub loop-i-smaller : goal.loop-i-smaller
loop-i-smaller c = omega (arith, step c.loop-i.invariant c.in-Some.ensures)

pub loop-i-preserved : goal.loop-i-preserved
loop-i-preserved c = one_more c.loop-i.invariant c.in-Some.ensures

pub returns : goal.returns
returns c = good_unique (good-to c.loop-i.invariant (at-end c.args.s.now c.loop-i.i (omega arith))) (good-bytes _)
