-- `writer::nil` meets its contract. Assumes nothing.
use Rattle.std.proofs.Common.{[], ◌∷◌, refl, arith}
use Rattle.writer.proofs.Wrote.{stored}
use Rattle.writer.proofs.nil.Goals as goal

pub returns : goal.returns
returns c = stored _ _ _ (106 ∷ []) refl (omega arith)
