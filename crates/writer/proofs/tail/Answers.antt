-- `writer::tail`. Assumes nothing.
use Rattle.std.proofs.Common.{◌≡◌, ℕ, [], length, ap, arith}
use Rattle.measure.proofs.Frames.{tail_by}
use Rattle.writer.proofs.Wrote.{stored}
use Rattle.writer.proofs.tail.Goals as goal

pub nil-requires : goal.nil-requires
nil-requires c = let e : c.args.left ≡ 1 = omega arith in omega (arith, c.requires.1, ap (λ (n : ℕ). length (tail_by n)) e)

pub returns-then-left-eq1 : goal.returns-then-left-eq1
returns-then-left-eq1 c = let e : c.args.left ≡ 1 = omega arith in rw e c.nil.ensures

pub returns : goal.returns
returns c = let e : c.args.left ≡ 0 = omega arith in rw e (stored _ _ _ [] (omega arith) (omega arith))
