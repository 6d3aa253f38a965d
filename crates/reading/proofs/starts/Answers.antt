-- `reading::starts` meets its contract. Assumes nothing.
use native.Mathlib.Omega.{arith}
use mathlib.Core.Path.{sym}
use Rattle.reading.proofs.Answers.{starts_none, starts-over, starts-long, starts-on}
use Rattle.reading.proofs.starts.Goals as goal
use Rattle.reading.proofs.starts.Goals.{then-limit-eq0-via-then-limit-eq0, then-limit-eq0-via-else-limit-eq0+then-limit-gt-NESTING}

pub returns-then-limit-eq0 : goal.returns-then-limit-eq0
returns-then-limit-eq0 c = elim c.then-limit-eq0.branch [
  | then-limit-eq0-via-then-limit-eq0 w ↦ sym (starts_none _ _ (omega arith))
  | then-limit-eq0-via-else-limit-eq0+then-limit-gt-NESTING w ↦ sym (starts-over _ _ (λ e. omega arith) (omega arith))
]

pub returns-then-len-gt-INPUT : goal.returns-then-len-gt-INPUT
returns-then-len-gt-INPUT c = sym (starts-long _ _ (λ e. omega arith) (omega arith) (omega arith))

pub returns : goal.returns
returns c = sym (starts-on _ _ (λ e. omega arith) (omega arith) (omega arith))
