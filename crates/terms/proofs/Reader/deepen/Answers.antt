-- `terms::Reader::deepen` meets its contract: the first child that is begun raises the deepest nesting anyway. Assumes nothing.
use native.Mathlib.Omega.{arith}
use mathlib.Core.Path.{◌∙◌}
use Rattle.terms.proofs.Children as children
use Rattle.terms.proofs.Reader.deepen.Goals as goal

pub returns-clause-same : goal.returns-clause-same
returns-clause-same c = λ seg prev last count. children.raise_kids _ _ _ _ seg _ prev (record { at = c.args.from; last = last; begun = count; deepest = c.args.deep }) c.if-rem-eq0.false (omega arith) c.if-n-eq0.false ∙ rw c.max.ensures
