-- The invariant, in words, stands in Answers.antt.
use Prim.Native.Nat.{ℕ, ◌<◌}
use mathlib.Core.Path.{◌≡◌}
use Rattle.references.specs.Header.{segment}
use Rattle.references.proofs.one_segment.Given as goal

abbrev pub invariant-loop-i : goal.invariant-loop-i
invariant-loop-i l = (k : ℕ) → k < l.i → segment l.b k ≡ 0
