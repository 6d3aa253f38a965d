-- `literal::number` meets its contract: with a point after the first digits, and without. Assumes nothing.
use Rattle.std.proofs.Common.{◌∙◌, arith}
use borrow.Author.Tests.{le-ltb}
use Rattle.literal.proofs.Pieces as pieces
use Rattle.literal.proofs.number.Goals as goal
use Rattle.literal.proofs.number.Goals.{in_default-via-then-t-lt1, in_default-via-else-t-lt1+in_default-1}

pub returns-then-u-s : goal.returns-then-u-s
returns-then-u-s c = pieces.pointed _ _ c.after_digits-t.ensures _ (omega arith) c.after_digits-u.ensures c.if-u-s.true c.ending.ensures

pub returns-else-u-s : goal.returns-else-u-s
returns-else-u-s c = le-ltb _ _ c.if-u-s.false ∙ pieces.point_alone _ _ c.after_digits-t.ensures _ (omega arith) c.after_digits-u.ensures c.if-u-s.false

pub returns-then-t-s : goal.returns-then-t-s
returns-then-t-s c =
    pieces.plain _ _ c.after_digits-t.ensures
    (λ e. elim c.in_default.branch [
      | in_default-via-then-t-lt1 w ↦ grind (arith, pieces.no_first)
      | in_default-via-else-t-lt1+in_default-1 w ↦ grind arith
    ])
    c.if-t-s.true c.ending-then-t-s.ensures

pub returns-else-t-s : goal.returns-else-t-s
returns-else-t-s c =
    le-ltb _ _ c.if-t-s.false
    ∙ pieces.no-digits _ _ c.after_digits-t.ensures
    (λ e. elim c.in_default.branch [
      | in_default-via-then-t-lt1 w ↦ grind (arith, pieces.no_first)
      | in_default-via-else-t-lt1+in_default-1 w ↦ grind arith
    ])
    c.if-t-s.false
