-- `measure::needed`. The loop's invariant: whether all will be well from here is whether the row is accepted (`Going`, in Passing.antt). With each
-- item the row's rest gets shorter by three numbers, and with each that is closed one fewer is open. Assumes nothing.
use Rattle.std.proofs.Common.{◌+◌, get_or, sym, refl, ◌∙◌, arith}
use Rattle.measure.proofs.Ahead.{unsound}
use Rattle.measure.proofs.Rows.{leftover}
use Rattle.measure.proofs.Coming as coming
use Rattle.measure.proofs.Passing as laws
use Rattle.measure.proofs.needed.Goals as goal

pub returns-then-row-ne0 : goal.returns-then-row-ne0
returns-then-row-ne0 c = unsound _ (leftover _ _ c.if-row-ne0.true)

pub loop-left-init : goal.loop-left-init
loop-left-init c = laws.start _ _ _ refl c.if-row-ne0.false

pub returns-then-i-row : goal.returns-then-i-row
returns-then-i-row c = laws.all _ _ c.loop-left.invariant c.if-left-lt2.true c.if-depth-eq0.true c.if-i-row.true

pub returns-then-depth-eq0 : goal.returns-then-depth-eq0
returns-then-depth-eq0 c = laws.more _ _ c.loop-left.invariant c.if-left-lt2.true c.if-depth-eq0.true c.if-i-row.false

pub offset_bounds-open-depth : goal.offset_bounds-open-depth
offset_bounds-open-depth c = omega (arith, c.loop-left.invariant.level)

pub bounds-open-depth : goal.bounds-open-depth
bounds-open-depth c = omega (arith, c.loop-left.invariant.level, c.loop-left.invariant.stack)

pub loop-left-preserved-then-left-lt2 : goal.loop-left-preserved-then-left-lt2
loop-left-preserved-then-left-lt2 c = laws.shut _ _ c.loop-left.invariant c.if-left-lt2.true (omega arith)

pub returns-then-i-row-2 : goal.returns-then-i-row-2
returns-then-i-row-2 c = laws.lacks _ _ c.loop-left.invariant c.if-left-lt2.false c.if-i-row-2.true

pub offset_bounds-row-i : goal.offset_bounds-row-i
offset_bounds-row-i c = record { fits = omega (arith, laws.three _ _ c.loop-left.invariant c.if-left-lt2.false c.if-i-row-2.false, c.well_formed.0.0, c.well_formed.0.1) }

pub bounds-row-i : goal.bounds-row-i
bounds-row-i c = omega (arith, laws.three _ _ c.loop-left.invariant c.if-left-lt2.false c.if-i-row-2.false)

pub overflow_add-x : goal.overflow_add-x
overflow_add-x c = record { fits = omega (arith, laws.three _ _ c.loop-left.invariant c.if-left-lt2.false c.if-i-row-2.false, c.well_formed.0.0, c.well_formed.0.1) }

pub offset_bounds-row-i-in-loop-left : goal.offset_bounds-row-i-in-loop-left
offset_bounds-row-i-in-loop-left c = record { fits = omega (arith, laws.three _ _ c.loop-left.invariant c.if-left-lt2.false c.if-i-row-2.false, c.well_formed.0.0, c.well_formed.0.1) }

pub bounds-row-i-in-loop-left : goal.bounds-row-i-in-loop-left
bounds-row-i-in-loop-left c = omega (arith, laws.three _ _ c.loop-left.invariant c.if-left-lt2.false c.if-i-row-2.false)

pub overflow_add-y : goal.overflow_add-y
overflow_add-y c = record { fits = omega (arith, laws.three _ _ c.loop-left.invariant c.if-left-lt2.false c.if-i-row-2.false, c.well_formed.0.0, c.well_formed.0.1) }

pub offset_bounds-row-i-in-loop-left-2 : goal.offset_bounds-row-i-in-loop-left-2
offset_bounds-row-i-in-loop-left-2 c = record { fits = omega (arith, laws.three _ _ c.loop-left.invariant c.if-left-lt2.false c.if-i-row-2.false, c.well_formed.0.0, c.well_formed.0.1) }

pub bounds-row-i-in-loop-left-2 : goal.bounds-row-i-in-loop-left-2
bounds-row-i-in-loop-left-2 c = omega (arith, laws.three _ _ c.loop-left.invariant c.if-left-lt2.false c.if-i-row-2.false)

pub overflow_add-i : goal.overflow_add-i
overflow_add-i c = record { fits = omega (arith, laws.three _ _ c.loop-left.invariant c.if-left-lt2.false c.if-i-row-2.false, c.well_formed.0.0, c.well_formed.0.1) }

pub overflow_add-size : goal.overflow_add-size
overflow_add-size c = omega (arith, c.loop-left.invariant.short, c.in-Some.ensures.small)

pub returns-then-size-gt-INPUT : goal.returns-then-size-gt-INPUT
returns-then-size-gt-INPUT c = laws.too_long _ _ c.loop-left.invariant c.if-left-lt2.false c.if-i-row-2.false (omega (arith, coming.alone_bytes _ _ _ _ c.in-Some.ensures))

pub loop-left-smaller-in-Some : goal.loop-left-smaller-in-Some
loop-left-smaller-in-Some c = omega (arith, laws.three _ _ c.loop-left.invariant c.if-left-lt2.false c.if-i-row-2.false)

pub loop-left-preserved-in-Some : goal.loop-left-preserved-in-Some
loop-left-preserved-in-Some c =
    let a = c.in-Some.ensures in
    laws.past _ _ c.loop-left.invariant c.if-left-lt2.false c.if-i-row-2.false (coming.alone_allowed _ _ _ _ a) (coming.alone_bytes _ _ _ _ a) (coming.alone_over _ _ _ _ a) c.if-size-gt-INPUT.false

pub returns-in_default-parent : goal.returns-in_default-parent
returns-in_default-parent c = laws.wrong _ _ c.loop-left.invariant c.if-left-lt2.false c.if-i-row-2.false (coming.neither _ _ _ _ c.in_default.ensures c.in_default-parent.ensures)

pub overflow_add-size-in-loop-left : goal.overflow_add-size-in-loop-left
overflow_add-size-in-loop-left c = omega (arith, c.loop-left.invariant.short, c.in-Some-parent.ensures.small)

pub returns-then-size-gt-INPUT-2 : goal.returns-then-size-gt-INPUT-2
returns-then-size-gt-INPUT-2 c = laws.too_long _ _ c.loop-left.invariant c.if-left-lt2.false c.if-i-row-2.false (omega (arith, coming.around_bytes c.args.texts.now _ _ (get_or c.args.row.now (c.loop-left.i + 2) 0) c.in-Some-parent.ensures))

pub returns-then-depth : goal.returns-then-depth
returns-then-depth c =
    let a = coming.around_allowed c.args.texts.now _ _ (get_or c.args.row.now (c.loop-left.i + 2) 0) c.in-Some-parent.ensures in
    let (k, t) = coming.halves _ (coming.owed_is _ _ _ _ a) in
    laws.too_deep _ _ c.loop-left.invariant c.if-left-lt2.false c.if-i-row-2.false (omega (arith, c.if-depth.true)) (omega (arith, c.owes-kids.ensures, c.if-kids-ne0.true))

pub offset_bounds-open-depth-then-kids-ne0 : goal.offset_bounds-open-depth-then-kids-ne0
offset_bounds-open-depth-then-kids-ne0 c = omega (arith, c.loop-left.invariant.level)

pub bounds-open-depth-then-kids-ne0 : goal.bounds-open-depth-then-kids-ne0
bounds-open-depth-then-kids-ne0 c = omega (arith, c.loop-left.invariant.level, c.loop-left.invariant.stack)

pub overflow_add-depth : goal.overflow_add-depth
overflow_add-depth c = omega (arith, c.loop-left.invariant.level)

pub loop-left-smaller-then-kids-ne0 : goal.loop-left-smaller-then-kids-ne0
loop-left-smaller-then-kids-ne0 c = omega (arith, laws.three _ _ c.loop-left.invariant c.if-left-lt2.false c.if-i-row-2.false)

pub loop-left-preserved-then-kids-ne0 : goal.loop-left-preserved-then-kids-ne0
loop-left-preserved-then-kids-ne0 c =
    let y = get_or c.args.row.now (c.loop-left.i + 2) 0 in
    let b = c.in-Some-parent.ensures in
    let a = coming.around_allowed c.args.texts.now _ _ y b in
    laws.into _ _ c.loop-left.invariant c.if-left-lt2.false c.if-i-row-2.false a (coming.around_bytes _ _ _ y b) (rw c.owes-kids.ensures (coming.owed_is _ _ _ _ a)) (omega (arith, c.if-depth.false)) c.if-size-gt-INPUT-2.false

pub loop-left-smaller : goal.loop-left-smaller
loop-left-smaller c = omega (arith, laws.three _ _ c.loop-left.invariant c.if-left-lt2.false c.if-i-row-2.false)

pub loop-left-preserved : goal.loop-left-preserved
loop-left-preserved c =
    let y = get_or c.args.row.now (c.loop-left.i + 2) 0 in
    let b = c.in-Some-parent.ensures in
    let a = coming.around_allowed c.args.texts.now _ _ y b in
    let e = sym c.owes-kids.ensures ∙ c.if-kids-ne0.false in
    laws.past _ _ c.loop-left.invariant c.if-left-lt2.false c.if-i-row-2.false a (coming.around_over _ _ _ y b e) (coming.over _ _ _ y a e) c.if-size-gt-INPUT-2.false
