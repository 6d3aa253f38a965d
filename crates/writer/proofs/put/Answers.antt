-- `writer::put`. The loop's invariant: what is put already and what the open items still owe are the row's bytes (`Going`, in Going.antt). With each
-- item the row's rest gets shorter by three numbers, and with each that is closed one fewer is open. Assumes nothing.
use Rattle.std.proofs.Common.{sym, refl, ◌∙◌, inl, arith, length-set}
use Rattle.measure.proofs.Coming as coming
use Rattle.writer.proofs.Wrote.{wider}
use Rattle.writer.proofs.Going as laws
use Rattle.writer.proofs.put.Goals as goal

pub bounds-out-0 : goal.bounds-out-0
bounds-out-0 c = (laws.some _ _ c.args.out.now _ c.requires).1

pub loop-left-init : goal.loop-left-init
loop-left-init c = laws.start _ _ c.args.out.now _ c.requires _ refl

pub tail-p-requires : goal.tail-p-requires
tail-p-requires c = (c.if-left-lt2.true, omega (arith, laws.tail_fits _ _ _ _ c.loop-left.invariant c.if-left-lt2.true, c.loop-left.invariant.fits.lent, c.loop-left.invariant.kept))

pub shape_of-out-then-depth-eq0 : goal.shape_of-out-then-depth-eq0
shape_of-out-then-depth-eq0 c = c.tail-p.ensures.kept ∙ c.loop-left.invariant.kept ∙ length-set c.args.out.now 0 131

pub returns-then-depth-eq0 : goal.returns-then-depth-eq0
returns-then-depth-eq0 c = laws.finish _ _ c.args.out.now _ c.requires (laws.ends _ _ _ _ c.loop-left.invariant c.if-left-lt2.true c.if-depth-eq0.true (wider refl (omega (arith, laws.tail_fits _ _ _ _ c.loop-left.invariant c.if-left-lt2.true, c.tail-p.ensures.to)) c.tail-p.ensures))

pub offset_bounds-open-depth : goal.offset_bounds-open-depth
offset_bounds-open-depth c = omega (arith, c.loop-left.invariant.level)

pub bounds-open-depth : goal.bounds-open-depth
bounds-open-depth c = omega (arith, c.loop-left.invariant.level, c.loop-left.invariant.stack)

pub loop-left-preserved-then-left-lt2 : goal.loop-left-preserved-then-left-lt2
loop-left-preserved-then-left-lt2 c = laws.shut _ _ _ _ c.loop-left.invariant c.if-left-lt2.true (omega arith) (wider refl (omega (arith, laws.tail_fits _ _ _ _ c.loop-left.invariant c.if-left-lt2.true, c.tail-p.ensures.to)) c.tail-p.ensures)

pub offset_bounds-row-i : goal.offset_bounds-row-i
offset_bounds-row-i c = record { fits = omega (arith, laws.three _ _ _ _ c.loop-left.invariant c.if-left-lt2.false, c.well_formed.0.0, c.well_formed.0.1) }

pub bounds-row-i : goal.bounds-row-i
bounds-row-i c = omega (arith, laws.three _ _ _ _ c.loop-left.invariant c.if-left-lt2.false)

pub overflow_add-x : goal.overflow_add-x
overflow_add-x c = record { fits = omega (arith, laws.three _ _ _ _ c.loop-left.invariant c.if-left-lt2.false, c.well_formed.0.0, c.well_formed.0.1) }

pub offset_bounds-row-i-in-loop-left : goal.offset_bounds-row-i-in-loop-left
offset_bounds-row-i-in-loop-left c = record { fits = omega (arith, laws.three _ _ _ _ c.loop-left.invariant c.if-left-lt2.false, c.well_formed.0.0, c.well_formed.0.1) }

pub bounds-row-i-in-loop-left : goal.bounds-row-i-in-loop-left
bounds-row-i-in-loop-left c = omega (arith, laws.three _ _ _ _ c.loop-left.invariant c.if-left-lt2.false)

pub overflow_add-y : goal.overflow_add-y
overflow_add-y c = record { fits = omega (arith, laws.three _ _ _ _ c.loop-left.invariant c.if-left-lt2.false, c.well_formed.0.0, c.well_formed.0.1) }

pub offset_bounds-row-i-in-loop-left-2 : goal.offset_bounds-row-i-in-loop-left-2
offset_bounds-row-i-in-loop-left-2 c = record { fits = omega (arith, laws.three _ _ _ _ c.loop-left.invariant c.if-left-lt2.false, c.well_formed.0.0, c.well_formed.0.1) }

pub bounds-row-i-in-loop-left-2 : goal.bounds-row-i-in-loop-left-2
bounds-row-i-in-loop-left-2 c = omega (arith, laws.three _ _ _ _ c.loop-left.invariant c.if-left-lt2.false)

pub overflow_add-i : goal.overflow_add-i
overflow_add-i c = record { fits = omega (arith, laws.three _ _ _ _ c.loop-left.invariant c.if-left-lt2.false, c.well_formed.0.0, c.well_formed.0.1) }

pub leaf-p-requires : goal.leaf-p-requires
leaf-p-requires c = record { below = c.if-kind-lt-TUPLE.true; head = laws.head-fits _ _ _ _ c.loop-left.invariant c.if-left-lt2.false }

pub loop-left-smaller-then-kind-lt-TUPLE : goal.loop-left-smaller-then-kind-lt-TUPLE
loop-left-smaller-then-kind-lt-TUPLE c = omega (arith, laws.three _ _ _ _ c.loop-left.invariant c.if-left-lt2.false)

pub loop-left-preserved-then-kind-lt-TUPLE : goal.loop-left-preserved-then-kind-lt-TUPLE
loop-left-preserved-then-kind-lt-TUPLE c = laws.past _ _ _ _ c.loop-left.invariant c.if-left-lt2.false c.leaf-p.ensures (coming.over _ _ _ _ (laws.good _ _ _ _ c.loop-left.invariant c.if-left-lt2.false) (coming.none_comes _ _ (inl c.if-kind-lt-TUPLE.true)))

pub parent-p-requires : goal.parent-p-requires
parent-p-requires c = laws.parent-fits _ _ _ _ c.loop-left.invariant c.if-left-lt2.false c.if-kind-lt-TUPLE.false

pub offset_bounds-open-depth-then-kids-ne0 : goal.offset_bounds-open-depth-then-kids-ne0
offset_bounds-open-depth-then-kids-ne0 c = omega (arith, c.loop-left.invariant.level)

pub bounds-open-depth-then-kids-ne0 : goal.bounds-open-depth-then-kids-ne0
bounds-open-depth-then-kids-ne0 c = omega (arith, c.loop-left.invariant.level, c.loop-left.invariant.stack)

pub overflow_add-depth : goal.overflow_add-depth
overflow_add-depth c = omega (arith, c.loop-left.invariant.level)

pub loop-left-smaller-then-kids-ne0 : goal.loop-left-smaller-then-kids-ne0
loop-left-smaller-then-kids-ne0 c = omega (arith, laws.three _ _ _ _ c.loop-left.invariant c.if-left-lt2.false)

pub loop-left-preserved-then-kids-ne0 : goal.loop-left-preserved-then-kids-ne0
loop-left-preserved-then-kids-ne0 c = laws.into _ _ _ _ c.loop-left.invariant c.if-left-lt2.false (laws.parent_wrote _ _ _ _ c.loop-left.invariant c.if-left-lt2.false c.if-kind-lt-TUPLE.false c.parent-p.ensures) (rw c.owes-kids.ensures (coming.owed_is _ _ _ _ (laws.good _ _ _ _ c.loop-left.invariant c.if-left-lt2.false))) c.if-kids-ne0.true

pub loop-left-smaller : goal.loop-left-smaller
loop-left-smaller c = omega (arith, laws.three _ _ _ _ c.loop-left.invariant c.if-left-lt2.false)

pub loop-left-preserved : goal.loop-left-preserved
loop-left-preserved c = laws.past _ _ _ _ c.loop-left.invariant c.if-left-lt2.false (laws.parent_wrote _ _ _ _ c.loop-left.invariant c.if-left-lt2.false c.if-kind-lt-TUPLE.false c.parent-p.ensures) (coming.over _ _ _ _ (laws.good _ _ _ _ c.loop-left.invariant c.if-left-lt2.false) (sym c.owes-kids.ensures ∙ c.if-kids-ne0.false))
