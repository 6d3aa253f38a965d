-- `fields::be_i32` meets its contract. Assumes nothing.
use mathlib.Core.Path.{refl, ap, sym, ◌∙◌}
use mir.Syntax.{w32}
use mir.Val.{to_z}
use mir.Facts.{to_z-of_z}
use Rattle.fields.proofs.Laws.{field_is, integer-is, integer_eof, signed-cast}
use Rattle.fields.proofs.Inverse.{is_below}
use Rattle.fields.proofs.Std.{spelled-four}
use Rattle.fields.proofs.be_i32.Goals as goal

pub returns-in_err-bytes : goal.returns-in_err-bytes
returns-in_err-bytes c = rw c.from_residual.ensures (integer_eof _ _ c.in_err-bytes.ensures)

pub returns : goal.returns
returns c =
    let (h, e) = c.in_ok-bytes.ensures in
    let below = is_below 4 c.args.b.now c.args.at (λ i. (c.type_inv.b i).fits) (sym (field_is 4 _ _ h refl)) in
    integer-is _ _ h (to_z-of_z {w = w32} (record { sfits = c.from_be_bytes.type_inv }) ∙ c.from_be_bytes.ensures ∙ ap (to_z w32) (spelled-four _ _ h e) ∙ signed-cast _ below)
