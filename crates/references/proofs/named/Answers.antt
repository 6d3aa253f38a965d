-- `references::named` meets its contract: bytes of ASCII are a name. Assumes nothing.
use mathlib.Core.Path.{sym, ◌∙◌}
use Rattle.numbers.proofs.Laws.{handed}
use Rattle.rows.proofs.Laws.{name-good}
use Rattle.fields.proofs.Laws.{is-there}
use Rattle.utf8.proofs.Laws.{ascii_good}
use Rattle.references.proofs.Reading.{named-to, named-no}
use Rattle.references.proofs.named.Goals as goal

pub returns-in_err-name : goal.returns-in_err-name
returns-in_err-name c = handed _ c.from_residual.ensures ∙ named-no _ _ _ _ (sym c.in_err-name.ensures)

pub returns-in_ok-name : goal.returns-in_ok-name
returns-in_ok-name c = named-to _ _ _ _ (sym c.in_ok-name.ensures)

pub returns-else-not-ascii : goal.returns-else-not-ascii
returns-else-not-ascii c =
    let f = c.ascii.ensures.0 c.if-not-ascii.false in
    named-to _ _ _ _ (sym (name-good _ _ _ (is-there _ _ _ f.within) (ascii_good f)))
