-- `showtext::show` is safe: what is left of a text is a part of it.
use native.Mathlib.Omega.{arith}
use lib.ListN.{length-take}
use Rattle.literal.proofs.Trims.{trimmed-is}
use Rattle.showtext.proofs.show.Goals as goal

pub slice_bounds-literal-end : goal.slice_bounds-literal-end
slice_bounds-literal-end c = simp length-take (omega (arith, c.trim-left.ensures, (trimmed-is c.args.text.now).inside))
