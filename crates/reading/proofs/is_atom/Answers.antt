-- `reading::is_atom` meets its contract. Assumes nothing.
use native.Mathlib.Omega.{arith}
use mathlib.Core.Path.{sym, ◌∙◌}
use Rattle.std.proofs.lemmas.Bool.Decides.{nat_tests}
use Rattle.fields.proofs.Laws.{byte_at}
use Rattle.reading.specs.Terms.{is_atom}
use Rattle.reading.proofs.is_atom.Goals as goal

pub returns-in-100 : goal.returns-in-100
unfolding is_atom
returns-in-100 c = rw (sym (byte_at _ _) ∙ sym c.u8_at.ensures) (grind (arith, nat_tests))

pub returns-in-100-2 : goal.returns-in-100-2
unfolding is_atom
returns-in-100-2 c = rw (sym (byte_at _ _) ∙ sym c.u8_at.ensures) (grind (arith, nat_tests))

pub returns-in_default : goal.returns-in_default
unfolding is_atom
returns-in_default c = rw (sym (byte_at _ _) ∙ sym c.u8_at.ensures) (grind (arith, nat_tests))

pub returns-in_default-2 : goal.returns-in_default-2
unfolding is_atom
returns-in_default-2 c = rw (sym (byte_at _ _) ∙ sym c.u8_at.ensures) (grind (arith, nat_tests))
