-- `writing::write` is safe: what was written lies within the lent bytes.
use Rattle.std.proofs.Common.{sym}
use native.Mathlib.Omega.{arith}
use lib.ListN.{length-take}
use Rattle.writer.proofs.Writes.{in_room}
use Rattle.writing.proofs.write.Goals as goal

pub slice_bounds-bytes-end : goal.slice_bounds-bytes-end
slice_bounds-bytes-end c = simp length-take (omega (arith, in_room _ _ (sym c.in-Ok.ensures.answer), c.write-written.auto.out))

pub kept-kept-requires : goal.kept-kept-requires
kept-kept-requires c = omega (arith, in_room _ _ (sym c.in-Ok.ensures.answer), c.write-written.auto.out)
