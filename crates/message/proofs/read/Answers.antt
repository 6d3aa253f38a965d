-- `message::read` meets its contract: by what stands before the term. Assumes nothing.
use mathlib.Core.Path.{refl}
use Rattle.message.proofs.Laws.{refused, goes_on}
use Rattle.message.proofs.read.Goals as goal

pub returns-in-Ok : goal.returns-in-Ok
returns-in-Ok c =
    let g = c.in-Ok.ensures in
    record {
      answer = goes_on c.args.limit g c.behind.ensures;
      cache = rw g.leaves refl;
      store = rw g.leaves refl;
      run = g.noted;
    }

pub returns-in-Err : goal.returns-in-Err
returns-in-Err c =
    let g = c.in-Err.ensures in
    record {
      answer = refused c.args.limit g _ c.refused.ensures;
      cache = rw g.leaves refl;
      store = rw g.leaves refl;
      run = g.noted;
    }
