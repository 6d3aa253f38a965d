-- `utf8::low8` meets its contract: no high bit is set where all eight bytes are plain. Assumes nothing.
use Rattle.utf8.proofs.Eights.{all_tested}
use Rattle.utf8.proofs.low8.Goals as goal

pub returns : goal.returns
returns c = all_tested c.args.eight.now c.fits-eight c.told-eight _ c.from_le_bytes.ensures
