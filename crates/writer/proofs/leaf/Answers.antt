-- `writer::leaf`: the tests tell the kinds, of which an item that is allowed has one. Assumes nothing.
use Rattle.std.proofs.Common.{refl, ◌∙◌, arith}
use Rattle.writer.proofs.Wrote.{bytes_8}
use Rattle.writer.proofs.Room.{number_fits, numbered, fits, within, is-integer, is-double, is-atom, is-binary}
use Rattle.writer.proofs.leaf.Goals as goal

pub integer-requires : goal.integer-requires
integer-requires c = fits c.requires.head (is-integer _ _ _ _ c.requires.head (omega arith))

pub returns-then-kind-lt-DOUBLE : goal.returns-then-kind-lt-DOUBLE
returns-then-kind-lt-DOUBLE c = within c.requires.head (is-integer _ _ _ _ c.requires.head (omega arith)) c.integer.ensures

pub number-requires : goal.number-requires
number-requires c = (omega arith, number_fits _ (is-double _ _ _ _ c.requires.head (omega arith) (omega arith) (omega arith)) (fits c.requires.head refl))

pub returns-then-kind-lt-ATOM : goal.returns-then-kind-lt-ATOM
returns-then-kind-lt-ATOM c =
    let b = is-double _ _ _ _ c.requires.head (omega arith) (omega arith) (omega arith) in
    within c.requires.head refl (numbered b (c.to_be_bytes.ensures ∙ bytes_8 _ b.holds) c.number.ensures)

pub name-requires : goal.name-requires
name-requires c = rw (is-atom _ _ _ _ c.requires.head (omega arith) (omega arith)) at c.requires.head

pub returns-then-kind-lt-BINARY : goal.returns-then-kind-lt-BINARY
returns-then-kind-lt-BINARY c = rw (is-atom _ _ _ _ c.requires.head (omega arith) (omega arith)) c.name.ensures

pub binary-requires : goal.binary-requires
binary-requires c = rw (is-binary _ _ _ _ c.requires.head (omega arith) c.requires.below) at c.requires.head

pub returns : goal.returns
returns c = rw (is-binary _ _ _ _ c.requires.head (omega arith) c.requires.below) c.binary.ensures
