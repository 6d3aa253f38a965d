-- `writer::write`, by what the row needs. Assumes nothing.
use Rattle.std.proofs.Common.{ap, ◌∙◌, arith}
use Rattle.writer.specs.Write.{Left}
use Rattle.writer.proofs.Writes as laws
use Rattle.writer.proofs.write.Goals as goal

pub returns-in_default : goal.returns-in_default
returns-in_default c = let e = laws.refused _ c.args.out.now c.in_default.ensures in record { answer = ap (λ (l : Left). l.answer) e; bytes = ap (λ (l : Left). l.bytes) e }

pub returns-then-out-need : goal.returns-then-out-need
returns-then-out-need c = let e = laws.no_room _ c.args.out.now _ c.in-Some.ensures (omega (arith, c.if-out-need.true)) in record { answer = ap (λ (l : Left). l.answer) e; bytes = ap (λ (l : Left). l.bytes) e }

pub put-requires : goal.put-requires
put-requires c = laws.fits _ c.args.out.now _ c.in-Some.ensures (omega (arith, c.if-out-need.false))

pub returns : goal.returns
returns c = let e = laws.done _ c.args.out.now _ c.in-Some.ensures (omega (arith, c.if-out-need.false)) in record { answer = ap (λ (l : Left). l.answer) e; bytes = c.put.ensures ∙ ap (λ (l : Left). l.bytes) e }
