-- `fields::bytes` meets its contract. Assumes nothing.
use native.Mathlib.Omega.{arith}
use Rattle.fields.proofs.Laws.{is_gone}
use Rattle.fields.proofs.Std.{first}
use Rattle.fields.proofs.bytes.Goals as goal

pub returns-in_err-get : goal.returns-in_err-get
returns-in_err-get g c = rw c.from_residual.ensures (is_gone g.row.N _ _ (omega (arith, c.in_err-get.ensures.lookup)))

pub returns : goal.returns
returns g c = let (h, l, e, n) = c.in_ok-get.ensures.lookup.0 in first g.row.N _ _ _ _ h e c.first_chunk.ensures.cases
