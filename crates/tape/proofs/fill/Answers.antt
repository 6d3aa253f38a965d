-- `tape::fill`. The loop's invariant: the tape that is wanted is what is owed from here on (`Going`, in Filling.antt), and its length was
-- kept. With each term reading goes on, and with each that is closed the innermost cell falls. Assumes nothing.
use native.Mathlib.Omega.{arith}
use mathlib.Core.Path.{◌∙◌, ap}
use Rattle.tape.specs.declared.Cell.{Cell}
use Rattle.tape.specs.Inner.Fill.{words_in, lay}
use Rattle.tape.proofs.Filling as laws
use Rattle.tape.proofs.fill.Goals as goal

pub bounds-b-start : goal.bounds-b-start
bounds-b-start c = (laws.there c.requires).0

pub put-requires-clause-room : goal.put-requires-clause-room
put-requires-clause-room c = (laws.there c.requires).1

pub put-requires-clause-small : goal.put-requires-clause-small
put-requires-clause-small c =
    let q = c.requires in
    let s = laws.shaped q.short q.tree q.laid q.stands c.shape_at-root.ensures in
    record { start = omega (arith, (laws.there q).0, q.short); end = omega (arith, s.inside, q.short); parent = omega arith; size = omega arith }

pub loop-left-init : goal.loop-left-init
loop-left-init c = laws.starts c.args.tape.now c.requires c.shape_at-root.ensures c.put.ensures.written

pub returns-then-up-eq0 : goal.returns-then-up-eq0
returns-then-up-eq0 c = laws.as_it_was c.args.tape.now c.requires c.shape_at-root.ensures c.put.ensures.written (laws.whole c.loop-left.invariant c.finish.ensures.written c.if-left-eq0.true c.if-up-eq0.true)

pub loop-left-preserved-then-left-eq0 : goal.loop-left-preserved-then-left-eq0
loop-left-preserved-then-left-eq0 c = (laws.out c.loop-left.invariant c.finish.ensures.written c.if-left-eq0.true c.if-up-eq0.false c.finish.ensures.as_long).1

pub bounds-b-at : goal.bounds-b-at
bounds-b-at c = (laws.first c.loop-left.invariant c.if-left-eq0.false).some

pub put-requires-then-b-at-eq97-clause-room : goal.put-requires-then-b-at-eq97-clause-room
put-requires-then-b-at-eq97-clause-room c = (laws.first c.loop-left.invariant c.if-left-eq0.false).room

pub put-requires-then-b-at-eq97-clause-small : goal.put-requires-then-b-at-eq97-clause-small
put-requires-then-b-at-eq97-clause-small c =
    let x = laws.first c.loop-left.invariant c.if-left-eq0.false in
    let h = laws.small_shape _ _ x.some x.short c.if-b-at-eq97.true in
    let s = laws.shaped x.short x.tree x.laid x.stands h in
    rw c.leaf.ensures (record { start = omega arith; end = omega arith; parent = omega arith; size = omega arith })

pub loop-left-preserved-then-b-at-eq97 : goal.loop-left-preserved-then-b-at-eq97
loop-left-preserved-then-b-at-eq97 c =
    let x = laws.first c.loop-left.invariant c.if-left-eq0.false in
    let h = laws.small_shape _ _ x.some x.short c.if-b-at-eq97.true in
    laws.past c.loop-left.invariant c.if-left-eq0.false h (rw c.if-b-at-eq97.true (c.put-then-b-at-eq97.ensures.written ∙ ap (λ (y : Cell). lay c.loop-left.tape c.loop-left.cell (words_in y)) c.leaf.ensures)) c.put-then-b-at-eq97.ensures.as_long

pub bounds-b-at-in-Some : goal.bounds-b-at-in-Some
bounds-b-at-in-Some c = (laws.first c.loop-left.invariant c.if-left-eq0.false).some

pub put-requires-in-Some-clause-room : goal.put-requires-in-Some-clause-room
put-requires-in-Some-clause-room c = (laws.first c.loop-left.invariant c.if-left-eq0.false).room

pub put-requires-in-Some-clause-small : goal.put-requires-in-Some-clause-small
put-requires-in-Some-clause-small c =
    let x = laws.first c.loop-left.invariant c.if-left-eq0.false in
    let h = laws.short_shape _ _ c.in-Some.ensures in
    let s = laws.shaped x.short x.tree x.laid x.stands h in
    rw c.leaf-in-Some.ensures (record { start = omega arith; end = omega arith; parent = omega arith; size = omega arith })

pub loop-left-smaller-in-Some : goal.loop-left-smaller-in-Some
loop-left-smaller-in-Some c =
    let x = laws.first c.loop-left.invariant c.if-left-eq0.false in
    let h = laws.short_shape _ _ c.in-Some.ensures in
    let s = laws.shaped x.short x.tree x.laid x.stands h in
    omega arith

pub loop-left-preserved-in-Some : goal.loop-left-preserved-in-Some
loop-left-preserved-in-Some c =
    let h = laws.short_shape _ _ c.in-Some.ensures in
    laws.past c.loop-left.invariant c.if-left-eq0.false h (c.put-in-Some.ensures.written ∙ ap (λ (y : Cell). lay c.loop-left.tape c.loop-left.cell (words_in y)) c.leaf-in-Some.ensures) c.put-in-Some.ensures.as_long

pub bounds-b-at-in-loop-left : goal.bounds-b-at-in-loop-left
bounds-b-at-in-loop-left c = (laws.first c.loop-left.invariant c.if-left-eq0.false).some

pub put-requires-in-loop-left-clause-room : goal.put-requires-in-loop-left-clause-room
put-requires-in-loop-left-clause-room c = (laws.first c.loop-left.invariant c.if-left-eq0.false).room

pub put-requires-in-loop-left-clause-small : goal.put-requires-in-loop-left-clause-small
put-requires-in-loop-left-clause-small c =
    let x = laws.first c.loop-left.invariant c.if-left-eq0.false in
    let s = laws.shaped x.short x.tree x.laid x.stands c.inner_at-s.ensures in
    record { start = omega arith; end = omega arith; parent = omega arith; size = omega arith }

pub loop-left-smaller : goal.loop-left-smaller
loop-left-smaller c =
    let x = laws.first c.loop-left.invariant c.if-left-eq0.false in
    let s = laws.shaped x.short x.tree x.laid x.stands c.inner_at-s.ensures in
    omega arith

pub loop-left-preserved : goal.loop-left-preserved
loop-left-preserved c = laws.into c.loop-left.invariant c.if-left-eq0.false c.inner_at-s.ensures c.put-in-loop-left.ensures.written c.put-in-loop-left.ensures.as_long
