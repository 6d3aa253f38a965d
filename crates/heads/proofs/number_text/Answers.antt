-- `heads::number_text` meets its contract: the text that is trimmed is the 31 bytes. Assumes nothing.
use mathlib.Core.Path.{refl}
use lib.ListN.{drop}
use Rattle.fields.proofs.Laws.{part}
use Rattle.heads.specs.Inner.Head.{number_text}
use Rattle.heads.proofs.number_text.Goals as goal

pub returns : goal.returns
unfolding number_text
returns c = rw (c.trim-len.ensures, part (drop c.args.p c.args.b.now) c.args.p 31 _ refl)
