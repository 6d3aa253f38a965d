-- `writer::parent`: its kind, and a tuple's children, say which tag and number it is. Assumes nothing.
use Rattle.std.proofs.Common.{length, ap, ◌∙◌, arith}
use Rattle.writer.proofs.Wrote.{bytes_1, bytes_4}
use Rattle.writer.proofs.Room.{number_fits, numbered, a_nil, small_tuple, large_tuple, a_list, a_map}
use Rattle.writer.proofs.parent.Goals as goal

pub nil-requires : goal.nil-requires
nil-requires c = omega (arith, c.requires.head.fits, ap length (a_nil _ _ c.requires c.if-kind-eq-NIL.true))

pub returns-then-kind-eq-NIL : goal.returns-then-kind-eq-NIL
returns-then-kind-eq-NIL c = rw (a_nil _ _ c.requires c.if-kind-eq-NIL.true) c.nil.ensures

pub number-requires : goal.number-requires
number-requires c = (omega arith, number_fits _ (small_tuple _ _ c.requires c.if-kind-eq-TUPLE.true c.if-x-lt256.true) c.requires.head.fits)

pub returns-then-x-lt256 : goal.returns-then-x-lt256
returns-then-x-lt256 c = numbered (small_tuple _ _ c.requires c.if-kind-eq-TUPLE.true c.if-x-lt256.true) (bytes_1 _) c.number.ensures

pub overflow_cast-x-then-kind-eq-TUPLE : goal.overflow_cast-x-then-kind-eq-TUPLE
overflow_cast-x-then-kind-eq-TUPLE c = record { fits = (large_tuple _ _ c.requires c.if-kind-eq-TUPLE.true c.if-x-lt256.false).holds }

pub number-requires-then-kind-eq-TUPLE : goal.number-requires-then-kind-eq-TUPLE
number-requires-then-kind-eq-TUPLE c = (omega arith, number_fits _ (large_tuple _ _ c.requires c.if-kind-eq-TUPLE.true c.if-x-lt256.false) c.requires.head.fits)

pub returns-then-kind-eq-TUPLE : goal.returns-then-kind-eq-TUPLE
returns-then-kind-eq-TUPLE c =
    let b = large_tuple _ _ c.requires c.if-kind-eq-TUPLE.true c.if-x-lt256.false in
    numbered b (c.to_be_bytes.ensures ∙ bytes_4 _ b.holds) c.number-then-kind-eq-TUPLE.ensures

pub overflow_cast-x-then-kind-eq-LIST : goal.overflow_cast-x-then-kind-eq-LIST
overflow_cast-x-then-kind-eq-LIST c = record { fits = (a_list _ _ c.requires c.if-kind-eq-LIST.true).holds }

pub number-requires-then-kind-eq-LIST : goal.number-requires-then-kind-eq-LIST
number-requires-then-kind-eq-LIST c = (omega arith, number_fits _ (a_list _ _ c.requires c.if-kind-eq-LIST.true) c.requires.head.fits)

pub returns-then-kind-eq-LIST : goal.returns-then-kind-eq-LIST
returns-then-kind-eq-LIST c =
    let b = a_list _ _ c.requires c.if-kind-eq-LIST.true in
    numbered b (c.to_be_bytes-then-kind-eq-LIST.ensures ∙ bytes_4 _ b.holds) c.number-then-kind-eq-LIST.ensures

pub overflow_cast-x-2 : goal.overflow_cast-x-2
overflow_cast-x-2 c = record { fits = (a_map _ _ c.requires c.if-kind-eq-NIL.false c.if-kind-eq-TUPLE.false c.if-kind-eq-LIST.false).holds }

pub number-requires-2 : goal.number-requires-2
number-requires-2 c = (omega arith, number_fits _ (a_map _ _ c.requires c.if-kind-eq-NIL.false c.if-kind-eq-TUPLE.false c.if-kind-eq-LIST.false) c.requires.head.fits)

pub returns : goal.returns
returns c =
    let b = a_map _ _ c.requires c.if-kind-eq-NIL.false c.if-kind-eq-TUPLE.false c.if-kind-eq-LIST.false in
    numbered b (c.to_be_bytes-2.ensures ∙ bytes_4 _ b.holds) c.number-2.ensures
