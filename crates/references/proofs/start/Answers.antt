-- `references::start` meets its contract: a law for each way out. Assumes nothing.
use mathlib.Core.Path.{sym, ◌∙◌}
use borrow.Author.Rules.{rules}
use Rattle.references.proofs.Reading as law
use Rattle.references.proofs.Reading.{misses}
use Rattle.references.proofs.start.Goals as goal

pub returns-then-b-gt-INPUT : goal.returns-then-b-gt-INPUT
returns-then-b-gt-INPUT c = law.too_long _ (search rules)

pub returns-in_err-version : goal.returns-in_err-version
returns-in_err-version c =
    misses _ _ c.from_residual.ensures c.in_err-version.ensures.ok_part c.in_err-version.ensures.value
    ∙ law.no-version _ (search rules) (sym c.be_u8.ensures ∙ c.in_err-version.ensures.ok_part)

pub returns-then-version : goal.returns-then-version
returns-then-version c = law.other-version _ (search rules) (sym c.be_u8.ensures ∙ c.in_ok-version.ensures.ok_part) c.if-version.true

pub returns-in_err-kind : goal.returns-in_err-kind
returns-in_err-kind c =
    misses _ _ c.from_residual-in_err-kind.ensures c.in_err-kind.ensures.ok_part c.in_err-kind.ensures.value
    ∙ law.no_kind _ (search rules) (sym c.be_u8.ensures ∙ c.in_ok-version.ensures.ok_part) c.if-version.false (sym c.be_u8-2.ensures ∙ c.in_err-kind.ensures.ok_part)

pub returns-then-kind-ne68 : goal.returns-then-kind-ne68
returns-then-kind-ne68 c =
    law.other_kind _ (search rules) (sym c.be_u8.ensures ∙ c.in_ok-version.ensures.ok_part) c.if-version.false (sym c.be_u8-2.ensures ∙ c.in_ok-kind.ensures.ok_part) c.if-kind-ne68.true

pub returns-in_err-count : goal.returns-in_err-count
returns-in_err-count c =
    misses _ _ c.from_residual-in_err-count.ensures c.in_err-count.ensures.ok_part c.in_err-count.ensures.value
    ∙ law.no-count _ (search rules) (sym c.be_u8.ensures ∙ c.in_ok-version.ensures.ok_part) c.if-version.false
    (sym c.be_u8-2.ensures ∙ c.in_ok-kind.ensures.ok_part) c.if-kind-ne68.false (sym c.be_u8-3.ensures ∙ c.in_err-count.ensures.ok_part)

pub returns : goal.returns
returns c =
    c.flagged.ensures ∙ (rw c.from.ensures (law.counted _ (search rules) (sym c.be_u8.ensures ∙ c.in_ok-version.ensures.ok_part) c.if-version.false
    (sym c.be_u8-2.ensures ∙ c.in_ok-kind.ensures.ok_part) c.if-kind-ne68.false (sym c.be_u8-3.ensures ∙ c.in_ok-count.ensures.ok_part)))
