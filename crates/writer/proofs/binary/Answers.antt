-- `writer::binary` meets its contract: a tag, a length of four bytes, and the text. Assumes nothing.
use Rattle.std.proofs.Common.{refl, ◌∙◌, arith}
use Rattle.writer.proofs.Wrote.{bytes_4}
use Rattle.writer.proofs.Room.{length-fits, text-fits, spelt, a_binary, lengthened}
use Rattle.writer.proofs.binary.Goals as goal

pub overflow_cast-n : goal.overflow_cast-n
overflow_cast-n c = record { fits = (a_binary _ _ _ c.requires).holds }

pub number-q-requires : goal.number-q-requires
number-q-requires c = (omega arith, length-fits c.requires (a_binary _ _ _ c.requires))

pub text-requires : goal.text-requires
text-requires c = let b = a_binary _ _ _ c.requires in text-fits c.requires b (lengthened 4 c.args.n (c.to_be_bytes.ensures ∙ bytes_4 _ b.holds) c.number-q.ensures) refl

pub returns : goal.returns
returns c = let b = a_binary _ _ _ c.requires in spelt c.requires b (lengthened 4 c.args.n (c.to_be_bytes.ensures ∙ bytes_4 _ b.holds) c.number-q.ensures) c.text.ensures
