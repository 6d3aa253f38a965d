-- `utf8::eight_at` meets its contract: the first eight of what stands from the place on. Assumes nothing.
use Rattle.std.proofs.Common.{ℕ, List, [], get_or, take, ap, ◌∙◌, arith}
use Rattle.std.proofs.lemmas.List.{take_rest}
use Rattle.utf8.proofs.Eights.{chunk, left-length}
use Rattle.utf8.proofs.eight_at.Goals as goal

pub returns : goal.returns
returns c =
    let l = left-length c.args.b.now c.args.at in
    ap (λ (p : List (List ℕ)). get_or p 0 []) c.as_chunks.ensures.front ∙ chunk 8 _ _ 0 (omega (arith, l)) ∙ ap (take 8) (take_rest c.args.b.now c.args.at)
