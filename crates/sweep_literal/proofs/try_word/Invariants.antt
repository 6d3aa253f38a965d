-- A cut has 256 texts at most, and the changes of a place 65,536.
use Rattle.std.proofs.Common.{◌+◌, ◌*◌, ◌≤◌}
use Rattle.sweep_literal.proofs.try_word.Given as goal

abbrev pub invariant-loop-n : goal.invariant-loop-n
invariant-loop-n l = l.tried ≤ 256 * (l.n + 1)

abbrev pub invariant-loop-place : goal.invariant-loop-place
invariant-loop-place l = l.tried ≤ 2560 + 65536 * l.place
