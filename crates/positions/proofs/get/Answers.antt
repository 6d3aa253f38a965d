-- `positions::get` meets its contract. Assumes nothing.
use mathlib.Core.Path.{◌∙◌}
use Rattle.positions.proofs.Asking.{in_store, in_none, in_slot}
use Rattle.positions.proofs.get.Goals as goal

pub returns-then-store-ne-STORE_BYTES : goal.returns-then-store-ne-STORE_BYTES
returns-then-store-ne-STORE_BYTES c = in_store _ _ _ _ c.if-store-ne-STORE_BYTES.true

pub returns-then-run-position : goal.returns-then-run-position
returns-then-run-position c = in_none _ _ _ _ c.if-store-ne-STORE_BYTES.false c.if-run-position.true

pub returns : goal.returns
returns c = c.get.ensures ∙ (rw c.from.ensures (in_slot _ _ _ _ c.if-run-position.false))
