-- `utf8::eights_end` meets its contract. The loop's invariant: the bytes passed are plain. Assumes nothing.
use Rattle.std.proofs.Common.{arith}
use Rattle.utf8.proofs.Eights.{plain_join, left-plain}
use Rattle.utf8.proofs.eights_end.Goals as goal

pub returns-then-not-low8 : goal.returns-then-not-low8
returns-then-not-low8 c =
    let e = c.in-Some.ensures.cases in
    (left-plain c.args.s.now c.args.from 8 _ c.requires e.enough c.low_front.ensures.most e.same).0 c.low_front.ensures.plain

pub loop-eight-init : goal.loop-eight-init
loop-eight-init c =
    let e = c.in-Some.ensures.cases in
    let first = (left-plain c.args.s.now c.args.from 8 8 c.requires e.enough (omega arith) e.same).0 (c.low8.ensures.0 c.if-not-low8.false) in
    plain_join first c.blocks_end-i.ensures (omega arith) c.blocks_end-i.ensures.order

pub returns-then-not-low8-2 : goal.returns-then-not-low8-2
returns-then-not-low8-2 c =
    let p = c.loop-eight.invariant in
    let e = c.in-Some-first_chunk.ensures.cases in
    let front = c.low_front-then-not-low8-2.ensures in
    let some = (left-plain c.args.s.now c.loop-eight.i 8 _ p.within e.enough front.most e.same).0 front.plain in
    plain_join p some (omega arith) some.order

pub loop-eight-preserved : goal.loop-eight-preserved
loop-eight-preserved c =
    let p = c.loop-eight.invariant in
    let e = c.in-Some-first_chunk.ensures.cases in
    let eight = (left-plain c.args.s.now c.loop-eight.i 8 8 p.within e.enough (omega arith) e.same).0 (c.low8-in-Some-first_chunk.ensures.0 c.if-not-low8-2.false) in
    plain_join p eight (omega arith) eight.order

pub returns : goal.returns
returns c = c.loop-eight.invariant
