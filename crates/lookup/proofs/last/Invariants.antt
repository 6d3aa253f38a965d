-- The invariant, in words, stands in Answers.antt.
use Prim.Native.Nat.{◌-◌, ◌*◌}
use Rattle.layouts.specs.Tree.{Forest}
use Rattle.lookup.specs.Inner.Found.{found}
use Rattle.lookup.specs.Inner.Walk.{key_of, Terms}
use Rattle.lookup.proofs.Entries.{Left}
use Rattle.lookup.proofs.last.Given as goal

abbrev pub invariant-loop : goal.invariant-loop
invariant-loop l =
    (ts : Forest) → Terms l.b l.from l.n ts → Left l.b l.at (l.n - 2 * l.counter) (key_of l.key) (found (key_of l.key) l.from ts) l.found
