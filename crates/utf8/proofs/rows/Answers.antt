-- `utf8::rows` meets its contract: its nine lines are the rows of the table. Assumes nothing.
use Rattle.std.proofs.Common.{◌∙◌}
use Rattle.utf8.specs.Inner.Table.{table}
use Rattle.utf8.proofs.Tried.{last_row, row_on}
use Rattle.utf8.proofs.rows.Goals as goal

pub returns : goal.returns
unfolding table
returns c = last_row _ _ ∙ row_on _ _ _ _ c.row4-n-3.ensures ∙ row_on _ _ _ _ c.row4-n-2.ensures ∙ row_on _ _ _ _ c.row4-n.ensures ∙ row_on _ _ _ _ c.row3-n-4.ensures ∙ row_on _ _ _ _ c.row3-n-3.ensures ∙ row_on _ _ _ _ c.row3-n-2.ensures ∙ row_on _ _ _ _ c.row3-n.ensures ∙ row_on _ _ _ _ c.row2-n.ensures ∙ row_on _ _ _ _ c.row1-n.ensures
