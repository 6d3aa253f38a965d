-- `utf8::row4` meets its contract: a way out for each law of a row. Assumes nothing.
use Rattle.std.proofs.Common.{◌+◌, sym, ◌∙◌, arith}
use Rattle.utf8.proofs.Tried.{kept, another, taken, refused, cut, tests_3, rest_4}
use Rattle.utf8.proofs.row4.Goals as goal

pub returns-then-n-ne-UNDECIDED : goal.returns-then-n-ne-UNDECIDED
returns-then-n-ne-UNDECIDED c = kept _ _ _ c.if-n-ne-UNDECIDED.true

pub returns-then-not-within : goal.returns-then-not-within
returns-then-not-within c = another _ _ _ _ _ c.requires c.if-n-ne-UNDECIDED.false (sym c.within.ensures ∙ c.if-not-within.true)

pub returns-then-s-i : goal.returns-then-s-i
returns-then-s-i c = refused _ _ _ _ _ c.requires c.if-n-ne-UNDECIDED.false (sym c.within.ensures ∙ c.if-not-within.false) (cut c.args.s.now (c.args.i + 1) _ (omega arith) (omega arith))

pub returns-then-within : goal.returns-then-within
returns-then-within c = taken _ _ _ _ _ c.requires c.if-n-ne-UNDECIDED.false (sym c.within.ensures ∙ c.if-not-within.false) (rest_4 c.args.s.now c.args.i _ _ _ (omega arith) ∙ tests_3 c.within-2.ensures c.within-3.ensures c.within-4.ensures c.if-within.true)

pub returns : goal.returns
returns c = refused _ _ _ _ _ c.requires c.if-n-ne-UNDECIDED.false (sym c.within.ensures ∙ c.if-not-within.false) (rest_4 c.args.s.now c.args.i _ _ _ (omega arith) ∙ tests_3 c.within-2.ensures c.within-3.ensures c.within-4.ensures c.if-within.false)
