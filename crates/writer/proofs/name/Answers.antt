-- `writer::name` meets its contract: a tag and a length of one byte or two, and the text. Assumes nothing.
use Rattle.std.proofs.Common.{refl, ◌∙◌, arith}
use Rattle.writer.proofs.Wrote.{bytes_1, bytes_2}
use Rattle.writer.proofs.Room.{length-fits, text-fits, spelt, short-name, long-name, lengthened}
use Rattle.writer.proofs.name.Goals as goal

pub number-q-requires : goal.number-q-requires
number-q-requires c = (omega arith, length-fits c.requires (short-name _ _ _ c.requires (omega arith)))

pub text-requires : goal.text-requires
text-requires c = text-fits c.requires (short-name _ _ _ c.requires (omega arith)) (lengthened 1 c.args.n (bytes_1 _) c.number-q.ensures) refl

pub returns-then-n-lt256 : goal.returns-then-n-lt256
returns-then-n-lt256 c = spelt c.requires (short-name _ _ _ c.requires (omega arith)) (lengthened 1 c.args.n (bytes_1 _) c.number-q.ensures) c.text.ensures

pub overflow_cast-n-2 : goal.overflow_cast-n-2
overflow_cast-n-2 c = record { fits = (long-name _ _ _ c.requires (omega arith)).holds }

pub number-q-requires-2 : goal.number-q-requires-2
number-q-requires-2 c = (omega arith, length-fits c.requires (long-name _ _ _ c.requires (omega arith)))

pub text-requires-2 : goal.text-requires-2
text-requires-2 c =
    let b = long-name _ _ _ c.requires (omega arith) in
    text-fits c.requires b (lengthened 2 c.args.n (c.to_be_bytes.ensures ∙ bytes_2 _ b.holds) c.number-q-2.ensures) refl

pub returns : goal.returns
returns c =
    let b = long-name _ _ _ c.requires (omega arith) in
    spelt c.requires b (lengthened 2 c.args.n (c.to_be_bytes.ensures ∙ bytes_2 _ b.holds) c.number-q-2.ensures) c.text-2.ensures
