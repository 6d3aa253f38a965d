-- `jig::trace` meets its contract. The loop's invariant: the segments that are left, over the words as they are, are all segments over the words
-- as they were. Assumes nothing.
use Rattle.std.proofs.Common.{◌≡◌, ◌≤◌, ◌<◌, ◌+◌, ◌*◌, ◌∙◌, ℕ, suc, List, refl, length, get_or, set, arith}
use Rattle.std.proofs.Math.ListN.{drop, drop_of_length-le}
use Rattle.std.proofs.lemmas.List.{drop_more}
use Rattle.std.proofs.lemmas.List.Edits.{sets}
use Rattle.reading.specs.declared.Kind.TheVariants.{Tuple}
use Rattle.reading.specs.declared.Segment.{Segment}
use Rattle.reading.specs.Answer.{kind_number}
use Rattle.jig.specs.Shown.{segment_words}
use Rattle.jig.proofs.trace.Goals as goal

abbrev none : Segment
none = record { kind = Tuple; number = 0 }

one_more : (words : List ℕ) (path : List Segment) (i k : ℕ) → i < length path → k ≡ kind_number (get_or path i none).kind →
    sets (set (set words (i * 2) k) (i * 2 + 1) (get_or path i none).number) ((i + 1) * 2) (segment_words (drop (i + 1) path)) ≡ sets words (i * 2) (segment_words (drop i path))
unfolding segment_words
one_more words path i k h e =
    let next : i * 2 + 1 ≡ suc (i * 2) = omega arith in
    let then : (i + 1) * 2 ≡ suc (suc (i * 2)) = omega arith in
    rw (drop_more path i none h, next, then, e) refl

no_more : (words : List ℕ) (path : List Segment) (i : ℕ) → length path ≤ i → words ≡ sets words (i * 2) (segment_words (drop i path))
unfolding segment_words
no_more words path i h = rw (drop_of_length-le path h) refl

pub loop-i-preserved : goal.loop-i-preserved
loop-i-preserved c = one_more _ _ c.loop-i.i _ c.loop-i-test.true c.into.ensures ∙ c.loop-i.invariant

pub returns : goal.returns
returns c = no_more _ _ c.loop-i.i c.loop-i-test.false ∙ c.loop-i.invariant
