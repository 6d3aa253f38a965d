-- `references::flagged` meets its contract. Assumes nothing.
use Prim.Native.Nat.{◌+◌, ◌/◌}
use native.Mathlib.Omega.{arith}
use mathlib.Core.Path.{sym, ◌∙◌}
use Rattle.fields.proofs.Laws.{there}
use Rattle.references.specs.Header.{long_bit, half_byte}
use Rattle.references.proofs.Reading.{no-references, no-flags, flags}
use Rattle.references.proofs.flagged.Goals as goal

pub returns-then-count-eq0 : goal.returns-then-count-eq0
returns-then-count-eq0 c = no-references _ _ c.if-count-eq0.true

pub returns-then-not-has : goal.returns-then-not-has
returns-then-not-has c = no-flags _ _ c.if-count-eq0.false (sym c.has.ensures ∙ c.if-not-has.true)

pub bounds-b-count : goal.bounds-b-count
bounds-b-count c = omega (arith, there (c.args.count / 2 + 1) _ _ (sym c.has.ensures ∙ c.if-not-has.false))

pub returns : goal.returns
unfolding long_bit half_byte
returns c = rw c.half.ensures (flags _ _ c.if-count-eq0.false (sym c.has.ensures ∙ c.if-not-has.false))
