-- The invariant, in words, stands in Answers.antt.
use Prim.Native.Nat.{◌+◌, ◌-◌}
use lib.ListN.{length}
use Rattle.layouts.specs.Tree.{Tree, bytes}
use Rattle.lookup.specs.Inner.Walk.{Term}
use Rattle.lookup.proofs.Passing.{Owed}
use Rattle.lookup.proofs.skip.Given as goal

abbrev pub invariant-loop-owed : goal.invariant-loop-owed
invariant-loop-owed l = (t : Tree) → Term l.b l.start t → Owed l.b l.at l.owed (l.start + length (bytes t))

abbrev pub decreases-loop-owed : goal.decreases-loop-owed
decreases-loop-owed l = length l.b - l.at
