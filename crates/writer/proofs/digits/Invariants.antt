-- The invariant, in words, stands in Answers.antt.
use Rattle.std.proofs.Common.{◌≡◌, ◌+◌, ◌<◌, length}
use lib.Seq.{sets}
use Rattle.fields.specs.Be.{digits_of}
use Rattle.writer.proofs.digits.Given as goal

abbrev pub invariant-loop-m : goal.invariant-loop-m
invariant-loop-m l =
    (l.m < 18446744073709551616) × ((l.q + length (digits_of 8 l.m) ≡ l.p + length (digits_of 8 l.n)) × ((length l.out ≡ length l.initial.out) × (sets l.initial.out l.p (digits_of 8 l.n) ≡ sets l.out l.q (digits_of 8 l.m))))

abbrev pub decreases-loop-m : goal.decreases-loop-m
decreases-loop-m l = l.m
