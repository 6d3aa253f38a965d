-- A lead has 196 rows of 14 texts.
use Rattle.std.proofs.Common.{◌*◌, ◌≤◌, ◌-◌}
use Rattle.sweep_utf8.proofs.edges.Given as goal

abbrev pub invariant-loop-lead : goal.invariant-loop-lead
invariant-loop-lead l = l.strings ≤ 50176 * (l.lead - 224)
