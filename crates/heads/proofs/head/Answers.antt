-- `heads::head` meets its contract: Long, Eof, and the term by its tag. Assumes nothing.
use native.Mathlib.Omega.{arith}
use lib.ListN.{length}
use borrow.Author.Tests.{lt-ltb, le-ltb}
use Rattle.heads.specs.Inner.Head.{head_at}
use Rattle.heads.proofs.head.Goals as goal

pub returns-then-b-gt-INPUT : goal.returns-then-b-gt-INPUT
unfolding head_at
returns-then-b-gt-INPUT c = rw (lt-ltb _ _ c.if-b-gt-INPUT.true)

pub returns-then-b-at : goal.returns-then-b-at
unfolding head_at
returns-then-b-at c = rw (le-ltb _ _ c.if-b-gt-INPUT.false, le-ltb c.args.at (length c.args.b.now) (omega arith), c.eof.ensures)

pub returns : goal.returns
unfolding head_at
returns c = rw (c.term-value.ensures, le-ltb _ _ c.if-b-gt-INPUT.false, lt-ltb c.args.at (length c.args.b.now) (omega arith))
