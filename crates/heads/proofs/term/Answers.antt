-- `heads::term` meets its contract: each arm is the definition at its tag, and in the last the tag is none of them. Assumes nothing.
use mathlib.Core.Path.{◌∙◌}
use Rattle.numbers.proofs.Laws.{none_of}
use Rattle.heads.specs.Inner.Head.{term}
use Rattle.heads.proofs.Laws.{handed}
use Rattle.heads.proofs.term.Goals as goal

pub returns-in-104 : goal.returns-in-104
unfolding term
returns-in-104 c = rw (c.small_tuple.ensures, c.in-104.is)

pub returns-in-88 : goal.returns-in-88
unfolding term
returns-in-88 c = rw (c.pid.ensures, c.in-88.is)

pub returns-in-90 : goal.returns-in-90
unfolding term
returns-in-90 c = rw (c.reference.ensures, c.in-90.is)

pub returns-in-120 : goal.returns-in-120
unfolding term
returns-in-120 c = rw (c.port.ensures, c.in-120.is)

pub returns-in_err-count-in-105 : goal.returns-in_err-count-in-105
unfolding term
returns-in_err-count-in-105 c = handed _ c.from_residual.ensures ∙ rw (c.in-105.is, ← c.in_err-count-in-105.ensures)

pub returns-in_ok-count-in-105 : goal.returns-in_ok-count-in-105
unfolding term
returns-in_ok-count-in-105 c = rw (c.in-105.is, ← c.in_ok-count-in-105.ensures)

pub returns-in_err-count-in-108 : goal.returns-in_err-count-in-108
unfolding term
returns-in_err-count-in-108 c = handed _ c.from_residual-in_err-count-in-108.ensures ∙ rw (c.in-108.is, ← c.in_err-count-in-108.ensures)

pub returns-in_ok-count-in-108 : goal.returns-in_ok-count-in-108
unfolding term
returns-in_ok-count-in-108 c = rw (c.in-108.is, ← c.in_ok-count-in-108.ensures)

pub returns-in_err-count-in-116 : goal.returns-in_err-count-in-116
unfolding term
returns-in_err-count-in-116 c = handed _ c.from_residual-in_err-count-in-116.ensures ∙ rw (c.in-116.is, ← c.in_err-count-in-116.ensures)

pub returns-in_ok-count-in-116 : goal.returns-in_ok-count-in-116
unfolding term
returns-in_ok-count-in-116 c = rw (c.in-116.is, ← c.in_ok-count-in-116.ensures)

pub returns-in-113 : goal.returns-in-113
unfolding term
returns-in-113 c = rw c.in-113.is

pub returns-in-112 : goal.returns-in-112
unfolding term
returns-in-112 c = c.ok_or.ensures.value ∙ rw (c.function.ensures, c.eof.ensures, c.in-112.is)

pub returns-in_default : goal.returns-in_default
unfolding term
returns-in_default c = c.row_value.ensures ∙ search none_of
