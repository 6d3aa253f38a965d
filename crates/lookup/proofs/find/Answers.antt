-- `lookup::find` meets its contract: as reading refuses; else by the term that was read. Assumes nothing.
use mathlib.Core.Path.{refl}
use Rattle.reading.proofs.Asks.{plain_read}
use Rattle.reading.proofs.Told.{err_refused}
use Rattle.lookup.proofs.Keys.{is-inside}
use Rattle.lookup.proofs.Looking.{passed_on, a_term, its_kids, not-map, is-map}
use Rattle.lookup.proofs.find.Goals as goal

pub returns-in_default : goal.returns-in_default
returns-in_default c = passed_on _ _ _ (plain_read _ _ _ c.plainly.ensures c.read-a.ensures) _ (err_refused _ _ _ c.in_default.is)

pub bounds-b-at : goal.bounds-b-at
bounds-b-at c = is-inside (a_term _ _ _ (rw c.in-Ok.is at (plain_read _ _ _ c.plainly.ensures c.read-a.ensures)) refl).is

pub returns-then-tag-ne116 : goal.returns-then-tag-ne116
returns-then-tag-ne116 c = not-map _ _ _ (rw c.in-Ok.is at (plain_read _ _ _ c.plainly.ensures c.read-a.ensures)) refl _ _ c.if-tag-ne116.true c.refused.ensures

pub last-requires : goal.last-requires
last-requires c = its_kids _ _ _ (rw c.in-Ok.is at (plain_read _ _ _ c.plainly.ensures c.read-a.ensures)) refl _ c.shape_at-s.ensures

pub returns-in_default-last : goal.returns-in_default-last
returns-in_default-last c = rw c.refused-in_default-last.ensures (rw c.in_default-last.is at (is-map _ _ _ (rw c.in-Ok.is at (plain_read _ _ _ c.plainly.ensures c.read-a.ensures)) refl _ _ _ c.if-tag-ne116.false c.shape_at-s.ensures c.last.ensures))

pub returns : goal.returns
returns c = rw c.in-Some.is at (is-map _ _ _ (rw c.in-Ok.is at (plain_read _ _ _ c.plainly.ensures c.read-a.ensures)) refl _ _ _ c.if-tag-ne116.false c.shape_at-s.ensures c.last.ensures)
