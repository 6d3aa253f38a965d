-- `heads::node` meets its contract: a tag of an atom is read as a row. Assumes nothing.
use mathlib.Core.Path.{sym, ◌∙◌}
use borrow.Author.Tests.{lt-ltb, le-ltb}
use Rattle.numbers.proofs.Laws.{none_of}
use Rattle.heads.specs.Inner.Head.{node}
use Rattle.heads.proofs.Laws.{node-name, node-short}
use Rattle.heads.proofs.node.Goals as goal
use Rattle.heads.proofs.node.Goals.{in-100, in-119}

pub returns-then-b-c : goal.returns-then-b-c
unfolding node
returns-then-b-c c = rw (c.eof.ensures, le-ltb _ _ c.if-b-c.true)

pub returns-in_default : goal.returns-in_default
unfolding node
returns-in_default c = rw (lt-ltb _ _ c.if-b-c.false) (search none_of)

pub returns-in-Ok : goal.returns-in-Ok
returns-in-Ok c =
    elim c.match-tag.branch [
      | in-100 w ↦ rw (w.name-is, w.long-name.ensures) (sym (node-name _ _ c.if-b-c.false w.in-100.is ∙ rw (← c.in-Ok.ensures)))
      | in-119 w ↦ rw (w.name-is, w.short-name.ensures) (sym (node-short _ _ c.if-b-c.false w.in-119.is ∙ rw (← c.in-Ok.ensures)))
    ]

pub returns-in-Err : goal.returns-in-Err
returns-in-Err c =
    elim c.match-tag.branch [
      | in-100 w ↦ sym (node-name _ _ c.if-b-c.false w.in-100.is ∙ rw (← c.in-Err.ensures))
      | in-119 w ↦ sym (node-short _ _ c.if-b-c.false w.in-119.is ∙ rw (← c.in-Err.ensures))
    ]
