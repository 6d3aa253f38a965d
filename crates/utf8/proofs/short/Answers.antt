-- `utf8::short` meets its contract: the remainder by 256 ^ n is the number of the first n bytes. Assumes nothing.
use Rattle.std.proofs.Common.{ℕ, ◌%◌, ◌^◌, ap, ◌∙◌, arith}
use Rattle.utf8.proofs.Eights.{tested, shifted, first_of_eight}
use Rattle.utf8.proofs.short.Goals as goal

pub returns : goal.returns
returns c =
    tested c.args.eight.now c.fits-eight c.told-eight c.args.n _ (omega arith)
    (ap (λ (x : ℕ). c.from_le_bytes.result % x) (shifted c.args.n c.requires)
    ∙ ap (λ (x : ℕ). x % 256 ^ c.args.n) c.from_le_bytes.ensures
    ∙ first_of_eight c.args.eight.now c.fits-eight c.told-eight c.args.n (omega arith))
