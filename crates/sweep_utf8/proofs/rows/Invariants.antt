-- A row has as many texts as there are last bytes. Text and row keep their lengths.
use Rattle.std.proofs.Common.{length, ◌*◌, ◌≡◌}
use Rattle.sweep_utf8.proofs.rows.Given as goal

abbrev pub invariant-loop-number : goal.invariant-loop-number
invariant-loop-number l = (l.strings ≡ l.number * length l.last) × ((length l.text ≡ length l.initial.text) × (length l.row ≡ length l.initial.row))
