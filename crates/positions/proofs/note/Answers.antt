-- `positions::note` meets its contract. The loop's invariant: the references from number i on are left, from p on, their slots are left to be
-- written to the run, and the words tell of the positions passed whether they are known (`Kept`). Assumes nothing.
use native.Mathlib.Omega.{arith}
use mathlib.Core.Path.{refl}
use Rattle.references.specs.Header.{is_new}
use Rattle.positions.proofs.Noting.{starts, nexts, follows, unwritten, writes, written, unmarked, marks, marked_all, shifted_in}
use Rattle.positions.proofs.note.Goals as goal

pub loop-i-init : goal.loop-i-init
loop-i-init c = record { refs = starts _ _ _ _; bytes = unwritten; tells = unmarked _ _ }

pub bounds-b-p : goal.bounds-b-p
unfolding is_new
bounds-b-p c = (nexts c.requires.slots c.loop-i-test.true c.loop-i.invariant.refs c.is_new-new.ensures).here

pub past-p-requires : goal.past-p-requires
unfolding is_new
past-p-requires c = (nexts c.requires.slots c.loop-i-test.true c.loop-i.invariant.refs c.is_new-new.ensures).good

pub loop-i-preserved : goal.loop-i-preserved
unfolding is_new
loop-i-preserved c =
    let l = nexts c.requires.slots c.loop-i-test.true c.loop-i.invariant.refs c.is_new-new.ensures in
    record {
      refs = follows _ _ l.good c.past-p.ensures l.next;
      bytes = writes c.requires.slots c.loop-i.invariant.bytes c.loop-i-test.true l.slot;
      tells = marks c.loop-i.invariant.tells (omega (arith, c.requires.flagged.few)) c.is_filled-on.ensures l.slot (shifted_in _ _ _ c.from.ensures);
    }

pub returns-clause-run : goal.returns-clause-run
returns-clause-run c = written c.requires.slots c.loop-i.invariant.bytes _ refl c.loop-i-test.false

pub returns-clause-bits : goal.returns-clause-bits
returns-clause-bits c = marked_all c.loop-i.invariant.tells (omega (arith, c.requires.slots))
