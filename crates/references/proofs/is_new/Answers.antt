-- `references::is_new` meets its contract. Assumes nothing.
use Rattle.references.specs.Header.{new_in}
use Rattle.references.proofs.is_new.Goals as goal

pub returns : goal.returns
unfolding new_in
returns c = rw c.half.ensures
