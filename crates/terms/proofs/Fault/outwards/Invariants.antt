-- The first i segments stand in their places, over a blank path.
use Rattle.std.proofs.Common.{◌≡◌}
use Rattle.std.proofs.Math.Seq.{paste}
use mathlib.Core.List.{[]}
use Rattle.reading.specs.Told.{padded}
use Rattle.terms.specs.Inner.Lent.{path_of}
use Rattle.terms.proofs.Fault.outwards.Given as goal

abbrev pub invariant-loop-i : goal.invariant-loop-i
invariant-loop-i l = l.path ≡ record { len = l.self.len; segments = paste (padded []) 0 (path_of l.self) l.i }
