-- `telling::literal` is safe: what is left of a text is a part of it.
use native.Mathlib.Omega.{arith}
use lib.ListN.{length-take}
use Rattle.literal.proofs.Trims.{trimmed-is}
use Rattle.telling.proofs.literal.Goals as goal

pub slice_bounds-literal-end : goal.slice_bounds-literal-end
slice_bounds-literal-end c = simp length-take (omega (arith, c.trim-n.ensures, (trimmed-is c.args.b.now).inside))
