-- `heads::fixed` meets its contract: each arm is the definition at its tag, and in the last the tag is none of the others. Assumes nothing.
use mathlib.Core.Path.{sym}
use mir.Syntax.{w32, w64}
use mir.Facts.{to_z-of_z}
use borrow.Author.Rules.{rules}
use Rattle.numbers.proofs.Laws.{none_of}
use Rattle.heads.specs.Inner.Head.{fixed}
use Rattle.heads.proofs.Laws.{fixed-name}
use Rattle.heads.proofs.fixed.Goals as goal

pub returns-in-97 : goal.returns-in-97
unfolding fixed
returns-in-97 c = rw (to_z-of_z {w = w64} {z = c.from.result} (search rules), c.from.ensures, c.u8_at.ensures, c.in-97.is)

pub returns-in-98 : goal.returns-in-98
unfolding fixed
returns-in-98 c = rw (to_z-of_z {w = w64} {z = c.from-in-98.result} (search rules), c.from-in-98.ensures, to_z-of_z {w = w32} {z = c.i32_at.result} (search rules), c.i32_at.ensures, c.in-98.is)

pub returns-in-99 : goal.returns-in-99
unfolding fixed
returns-in-99 c = rw (c.number_text.ensures, c.in-99.is)

pub returns-in-70 : goal.returns-in-70
unfolding fixed
returns-in-70 c = rw (c.double.ensures, c.in-70.is)

pub returns-in-100 : goal.returns-in-100
returns-in-100 c = rw c.long.ensures (sym (fixed-name _ _ _ c.in-100.is))

pub returns-in-119 : goal.returns-in-119
unfolding fixed
returns-in-119 c = rw (c.short.ensures, c.in-119.is)

pub returns-in-106 : goal.returns-in-106
unfolding fixed
returns-in-106 c = rw c.in-106.is

pub returns-in-107 : goal.returns-in-107
unfolding fixed
returns-in-107 c = rw (c.long-in-107.ensures, c.in-107.is)

pub returns-in-109 : goal.returns-in-109
unfolding fixed
returns-in-109 c = rw (c.u32_at.ensures, c.in-109.is)

pub returns-in-77 : goal.returns-in-77
unfolding fixed
returns-in-77 c = rw (c.u32_at-in-77.ensures, c.u8_at-in-77.ensures, c.in-77.is)

pub returns-in-110 : goal.returns-in-110
unfolding fixed
returns-in-110 c = rw (c.big.ensures, c.from-in-110.ensures, c.u8_at-in-110.ensures, c.in-110.is)

pub returns-in_default : goal.returns-in_default
unfolding fixed
returns-in_default c = rw (c.big-in_default.ensures, c.u32_at-in_default.ensures) (search none_of)
