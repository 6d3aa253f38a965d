-- `header::names` meets its contract: what `fill` leaves is what the references leave. Assumes nothing.
use mathlib.Core.Path.{refl}
use Rattle.header.proofs.names.Goals as goal

pub returns : goal.returns
returns c = record { answer = rw c.fill-rest.ensures refl; store = rw c.fill-rest.ensures refl }
