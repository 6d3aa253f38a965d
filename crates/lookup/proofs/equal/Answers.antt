-- `lookup::equal` meets its contract: by the key's first byte its other bytes are compared as the definition says. Assumes nothing.
use mathlib.Core.Path.{sym, ◌∙◌}
use mir.Syntax.{w32}
use mir.Facts.{to_z-of_z}
use borrow.Author.Rules.{rules}
use Rattle.lookup.proofs.Keys.{is-inside, short-name, long-name, byte_inside, byte_tells, word_tells, not-atom, not-integer}
use Rattle.lookup.proofs.equal.Goals as goal

pub bounds-b-at : goal.bounds-b-at
bounds-b-at c = is-inside c.requires.0.is

pub slice_bounds-eq-count : goal.slice_bounds-eq-count
slice_bounds-eq-count c = (short-name c.requires.0.is c.requires.1 c.in-119.is).within

pub slice_bounds-eq-start : goal.slice_bounds-eq-start
slice_bounds-eq-start c = (short-name c.requires.0.is c.requires.1 c.in-119.is).within

pub slice_bounds-eq-count-in-100 : goal.slice_bounds-eq-count-in-100
slice_bounds-eq-count-in-100 c = (long-name c.requires.0.is c.requires.1 c.in-100.is).within

pub slice_bounds-eq-start-in-100 : goal.slice_bounds-eq-start-in-100
slice_bounds-eq-start-in-100 c = (long-name c.requires.0.is c.requires.1 c.in-100.is).within

pub bounds-b-at-in-97 : goal.bounds-b-at-in-97
bounds-b-at-in-97 c = byte_inside c.requires.0.is c.in-97.is

pub returns-in-119 : goal.returns-in-119
returns-in-119 c = record { is = λ t i. rw c.in-Name.is (c.eq.ensures ∙ (short-name i c.requires.1 c.in-119.is).tells _) }

pub returns-in-100 : goal.returns-in-100
returns-in-100 c = record { is = λ t i. rw c.in-Name.is (c.eq-in-100.ensures ∙ (long-name i c.requires.1 c.in-100.is).tells _) }

pub returns-in_default : goal.returns-in_default
returns-in_default c = record { is = λ t i. rw c.in-Name.is (sym (search (not-atom i))) }

pub returns-in-97 : goal.returns-in-97
returns-in-97 c = record { is = λ t i. rw c.in-Number.is (byte_tells i c.in-97.is c.from.ensures (search rules) (search rules)) }

pub returns-in-98 : goal.returns-in-98
returns-in-98 c = record { is = λ t i. rw c.in-Number.is (word_tells i c.in-98.is (c.from-in-98.ensures ∙ to_z-of_z {w = w32} {z = c.i32_at.result} (search rules) ∙ c.i32_at.ensures) (search rules) (search rules)) }

pub returns-in_default-tag : goal.returns-in_default-tag
returns-in_default-tag c = record { is = λ t i. rw c.in-Number.is (sym (search (not-integer i))) }
