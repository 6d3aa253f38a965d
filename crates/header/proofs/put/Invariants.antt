-- The invariant, in words, stands in Answers.antt.
use Prim.Native.Nat.{◌+◌}
use mathlib.Core.Path.{◌≡◌}
use lib.ListN.{length, drop}
use lib.Seq.{sets}
use Rattle.header.proofs.put.Given as goal

abbrev pub invariant-loop-i : goal.invariant-loop-i
invariant-loop-i l = (length l.store ≡ length l.initial.store) × (sets l.initial.store (l.at + 1) l.name ≡ sets l.store (l.at + 1 + l.i) (drop l.i l.name))
