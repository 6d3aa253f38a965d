-- `headwords::value_words` meets its contract: the bits of an i64 are those of its number. Assumes nothing.
use mir.Syntax.{w64}
use mir.Facts.{to_z-of_z}
use borrow.Author.Rules.{rules}
use Rattle.headwords.proofs.Twos.{bits-are}
use Rattle.headwords.proofs.value_words.Goals as goal

pub returns-in-Integer : goal.returns-in-Integer
returns-in-Integer c = rw (c.cast_unsigned.ensures, to_z-of_z {w = w64} {z = c.in-Integer.z} (search rules), bits-are c.in-Integer.z, c.in-Integer.is)
