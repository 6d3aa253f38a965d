-- `utf8::blocks_end` meets its contract. The loop's invariant: the bytes passed are plain. Assumes nothing.
use Rattle.std.proofs.Common.{arith}
use Rattle.utf8.proofs.Eights.{plain-none, plain_join, left-plain}
use Rattle.utf8.proofs.blocks_end.Goals as goal

pub loop-block-init : goal.loop-block-init
loop-block-init c = plain-none _ _ c.requires

pub returns-then-not-low32 : goal.returns-then-not-low32
returns-then-not-low32 c = c.loop-block.invariant

pub loop-block-preserved : goal.loop-block-preserved
loop-block-preserved c =
    let p = c.loop-block.invariant in
    let e = c.in-Some.ensures.cases in
    let block = (left-plain c.args.s.now c.loop-block.i 32 32 p.within e.enough (omega arith) e.same).0 (c.low32.ensures.0 c.if-not-low32.false) in
    plain_join p block (omega arith) block.order

pub returns : goal.returns
returns c = c.loop-block.invariant
