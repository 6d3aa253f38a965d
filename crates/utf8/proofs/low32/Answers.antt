-- `utf8::low32` meets its contract: four eights side by side. Assumes nothing.
use Rattle.std.proofs.Common.{◌/◌, length, ap, sym, ◌∙◌, arith}
use lib.Seq.{take-length}
use Rattle.std.specs.Simd.{first_chunks}
use Rattle.utf8.proofs.Eights.{both_plain, part-plain, placed}
use Rattle.utf8.proofs.low32.Goals as goal

pub returns : goal.returns
returns c =
    let b = c.args.block.now in
    let all = c.as_chunks.ensures.front ∙ ap (first_chunks 8 (length b / 8)) (sym (take-length b)) in
    let eight = part-plain b 0 (length b) 8 _ (omega arith) all in
    both_plain 24 8 _ _ (both_plain 16 8 _ _ (both_plain 8 8 _ _
    (placed c.low8.ensures (eight 0 8 (omega arith) (omega arith) (omega arith)))
    (placed c.low8-2.ensures (eight 1 8 (omega arith) (omega arith) (omega arith))))
    (placed c.low8-3.ensures (eight 2 8 (omega arith) (omega arith) (omega arith))))
    (placed c.low8-4.ensures (eight 3 8 (omega arith) (omega arith) (omega arith)))
