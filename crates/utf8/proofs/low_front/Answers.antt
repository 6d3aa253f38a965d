-- `utf8::low_front` meets its contract: the zeros below the lowest high bit are those of whole bytes and seven more. Assumes nothing.
use Rattle.std.proofs.Common.{arith}
use Rattle.utf8.proofs.Eights.{counted}
use Rattle.utf8.proofs.low_front.Goals as goal

pub returns : goal.returns
returns c =
    let p = counted c.args.eight.now c.fits-eight c.told-eight _ c.from_le_bytes.ensures in
    record { plain = p; most = omega (arith, p.within, c.told-eight) }
