-- `terms::Reader::row` meets its contract: a row's answer is reading's. Assumes nothing.
use native.Mathlib.Omega.{arith}
use mathlib.Core.Path.{sym}
use Rattle.reading.proofs.Families as fam
use Rattle.terms.proofs.Laws as laws
use Rattle.terms.proofs.Reader.row.Goals as goal

pub returns-in-Ok : goal.returns-in-Ok
returns-in-Ok c = λ room. laws.row_ends _ _ _ (sym c.in-Ok.ensures) (omega arith) (omega arith) (omega arith)

pub returns-in-Err : goal.returns-in-Err
returns-in-Err c = λ room. laws.refused _ _ c.refuse.ensures.none c.refuse.ensures.told (fam.fields-no _ (sym c.in-Err.ensures))
