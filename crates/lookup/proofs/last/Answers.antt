-- `lookup::last` meets its contract. The loop's invariant: what is found from here on, or else what was found so far, is what there is to
-- find. Assumes nothing.
use native.Mathlib.Omega.{arith}
use mathlib.Core.Path.{◌∙◌}
use Rattle.lookup.proofs.Entries.{at_first, at_last, a_key, a_value, entry_on}
use Rattle.lookup.proofs.last.Goals as goal
use Rattle.lookup.proofs.last.Goals.{then-equal, else-equal}

pub loop-init : goal.loop-init
loop-init c = λ ts t. at_first _ (omega arith) t

pub end_of-value-requires : goal.end_of-value-requires
end_of-value-requires c = let q = c.requires in a_key (c.loop.invariant q.forest q.are) (omega arith) q.short

pub equal-requires : goal.equal-requires
equal-requires c = let q = c.requires in (a_key (c.loop.invariant q.forest q.are) (omega arith) q.short, c.end_of-value.ensures)

pub end_of-at-requires : goal.end_of-at-requires
end_of-at-requires c = let q = c.requires in a_value (c.loop.invariant q.forest q.are) (omega arith) q.short c.end_of-value.ensures

pub loop-preserved : goal.loop-preserved
loop-preserved c = λ ts t. entry_on (c.loop.invariant ts t) (omega arith) (omega arith) c.end_of-value.ensures c.equal.ensures c.end_of-at.ensures (elim c.if-equal.branch [ then-equal w ↦ w.found-is ∙ rw w.if-equal.true | else-equal w ↦ w.found-is ∙ rw w.if-equal.false ])

pub returns : goal.returns
returns c = record { is = λ ts t. at_last (c.loop.invariant ts t) (omega arith) }
