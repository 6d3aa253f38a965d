-- `utf8::ascii` meets its contract: each way of looking tells whether the bytes are plain. Assumes nothing.
use Rattle.std.proofs.Common.{◌-◌, length, arith}
use Rattle.utf8.proofs.Eights.{first-plain, placed, left-length}
use Rattle.utf8.proofs.ascii.Goals as goal

pub returns-in-Some : goal.returns-in-Some
returns-in-Some c =
    let b = c.args.b.now in
    let l = left-length b c.args.at in
    placed c.short.ensures (first-plain b c.args.at (length b - c.args.at) 8 c.args.n (omega (arith, l, c.in-Some.ensures.cases.enough)) (omega arith) (omega (arith, l, c.in-Some.ensures.cases.enough)) c.in-Some.ensures.cases.same)
