-- `writer::text` meets its contract: sixteen bytes hold a short text, and a copy any. Assumes nothing.
use Rattle.std.proofs.Common.{refl, ◌∙◌, arith}
use Rattle.writer.proofs.Wrote.{put, wider}
use Rattle.writer.proofs.Copies.{sixteen, first_sixteen}
use Rattle.writer.proofs.text.Goals as goal

pub returns-then-texts-at-ge16 : goal.returns-then-texts-at-ge16
returns-then-texts-at-ge16 c =
    let a = c.args in
    let e = c.copy_from_slice.ensures.after ∙ first_sixteen a.texts.now a.at c.as_chunks.result.0.now _ (omega arith) c.as_chunks.ensures.front in
    sixteen a.texts.now a.p a.at a.n (omega arith) (omega arith) (omega arith) (omega arith)
    (rw (← e) (put _ _ _ _ (omega arith) (omega arith) c.copy_from_slice.ensures.len))

pub returns : goal.returns
returns c = wider refl (omega arith) c.copy.ensures
