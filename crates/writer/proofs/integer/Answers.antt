-- `writer::integer` meets its contract: by its tests, a byte, 32 bits, or digits above or below zero. Assumes nothing.
use Rattle.std.proofs.Common.{◌%◌, ◌∙◌, arith}
use Rattle.measure.proofs.Items.{head_byte, head_word, head-above, head-below}
use Rattle.writer.proofs.Wrote.{bytes_1, bytes_4}
use Rattle.writer.proofs.Room.{number_fits, numbered}
use Rattle.writer.proofs.integer.Goals as goal

pub number-requires : goal.number-requires
number-requires c = (omega arith, number_fits _ (record { is = head_byte c.args.x (omega arith) (omega arith); holds = omega arith }) c.requires)

pub returns-then-x-lt256 : goal.returns-then-x-lt256
returns-then-x-lt256 c = numbered (record { is = head_byte c.args.x (omega arith) (omega arith); holds = omega arith }) (bytes_1 _) c.number.ensures

pub number-requires-then-x-lt4294967296 : goal.number-requires-then-x-lt4294967296
number-requires-then-x-lt4294967296 c =
    (omega arith, number_fits _ (record { is = head_word c.args.x (omega arith) (omega arith) (omega arith); holds = omega arith }) c.requires)

pub returns-then-x-lt4294967296 : goal.returns-then-x-lt4294967296
returns-then-x-lt4294967296 c =
    numbered (record { is = head_word c.args.x (omega arith) (omega arith) (omega arith); holds = omega arith })
    (c.to_be_bytes.ensures ∙ bytes_4 (c.args.x % 4294967296) (omega arith)) c.number-then-x-lt4294967296.ensures

pub big-requires : goal.big-requires
big-requires c = rw (head-above c.args.x (omega arith) (omega arith) (omega arith)) at c.requires

pub returns-then-x-lt9223372036854775808 : goal.returns-then-x-lt9223372036854775808
returns-then-x-lt9223372036854775808 c = rw (head-above c.args.x (omega arith) (omega arith) (omega arith)) c.big.ensures

pub big-requires-2 : goal.big-requires-2
big-requires-2 c = rw (head-below c.args.x (omega arith) (omega arith) (omega arith)) at c.requires

pub returns : goal.returns
returns c = rw (head-below c.args.x (omega arith) (omega arith) (omega arith)) c.big-2.ensures
