-- `fragments::opened` meets its contract: each way is a law's. Assumes nothing.
use mathlib.Core.Path.{sym, ◌∙◌}
use borrow.Author.Rules.{rules}
use Rattle.fragments.proofs.Laws as law
use Rattle.fragments.proofs.opened.Goals as goal

pub returns-then-b-gt-INPUT : goal.returns-then-b-gt-INPUT
returns-then-b-gt-INPUT c = law.long _ _ (search rules)

pub returns-in_err-version : goal.returns-in_err-version
returns-in_err-version c =
    law.misses _ _ c.from_residual.ensures c.in_err-version.ensures.ok_part c.in_err-version.ensures.value
    ∙ law.no-version _ _ (search rules) (sym c.be_u8.ensures ∙ c.in_err-version.ensures.ok_part)

pub returns-then-version : goal.returns-then-version
returns-then-version c = law.version _ _ (search rules) (sym c.be_u8.ensures ∙ c.in_ok-version.ensures.ok_part) c.if-version.true

pub returns-in_err-kind : goal.returns-in_err-kind
returns-in_err-kind c =
    law.misses _ _ c.from_residual-in_err-kind.ensures c.in_err-kind.ensures.ok_part c.in_err-kind.ensures.value
    ∙ law.no_kind _ _ (search rules) (sym c.be_u8.ensures ∙ c.in_ok-version.ensures.ok_part) c.if-version.false (sym c.be_u8-2.ensures ∙ c.in_err-kind.ensures.ok_part)

pub returns-then-kind-tag : goal.returns-then-kind-tag
returns-then-kind-tag c =
    law.kind _ _ (search rules) (sym c.be_u8.ensures ∙ c.in_ok-version.ensures.ok_part) c.if-version.false (sym c.be_u8-2.ensures ∙ c.in_ok-kind.ensures.ok_part) c.if-kind-tag.true

pub returns-in_err-sequence : goal.returns-in_err-sequence
returns-in_err-sequence c =
    law.misses _ _ c.from_residual-in_err-sequence.ensures c.in_err-sequence.ensures.ok_part c.in_err-sequence.ensures.value
    ∙ law.no_sequence _ _ (search rules) (sym c.be_u8.ensures ∙ c.in_ok-version.ensures.ok_part) c.if-version.false
    (sym c.be_u8-2.ensures ∙ c.in_ok-kind.ensures.ok_part) c.if-kind-tag.false (sym c.be_u64.ensures ∙ c.in_err-sequence.ensures.ok_part)

pub returns-in_err-fragment : goal.returns-in_err-fragment
returns-in_err-fragment c =
    law.misses _ _ c.from_residual-in_err-fragment.ensures c.in_err-fragment.ensures.ok_part c.in_err-fragment.ensures.value
    ∙ law.no_fragment _ _ (search rules) (sym c.be_u8.ensures ∙ c.in_ok-version.ensures.ok_part) c.if-version.false
    (sym c.be_u8-2.ensures ∙ c.in_ok-kind.ensures.ok_part) c.if-kind-tag.false (sym c.be_u64.ensures ∙ c.in_ok-sequence.ensures.ok_part)
    (sym c.be_u64-2.ensures ∙ c.in_err-fragment.ensures.ok_part)

pub returns : goal.returns
returns c =
    law.both _ _ (search rules) (sym c.be_u8.ensures ∙ c.in_ok-version.ensures.ok_part) c.if-version.false
    (sym c.be_u8-2.ensures ∙ c.in_ok-kind.ensures.ok_part) c.if-kind-tag.false (sym c.be_u64.ensures ∙ c.in_ok-sequence.ensures.ok_part)
    (sym c.be_u64-2.ensures ∙ c.in_ok-fragment.ensures.ok_part)
