-- The measures of the cycle: eight times the nesting that is left, and what orders the readers at one nesting: a reader calls `term`, or `kids` and
-- so `child` and `term`, with the same nesting; `term` and `child` call a reader with less.
-- The invariant of the loop of `kids` is an equation: all children from the start are the rest from here. The deepest nesting was raised before the
-- loop, so that short leaves change only the place and the count.
use Rattle.std.proofs.Common.{◌-◌, ◌+◌, ◌<◌, ◌≤◌, ◌*◌, length, ◌≡◌}
use Rattle.reading.specs.Asked.{limit_of}
use Rattle.terms.specs.Inner.Kids.{segment_of, kids_of}
use Rattle.terms.specs.Inner.Lent.{place, term_of}
use Rattle.terms.proofs.Reader.+readers.Given as goal

abbrev pub decreases-body : goal.decreases-body
decreases-body l = 8 * l.rem + 5

abbrev pub decreases-captured : goal.decreases-captured
decreases-captured l = 8 * l.rem + 3

abbrev pub decreases-child : goal.decreases-child
decreases-child l = 8 * l.rem + 1

abbrev pub decreases-export : goal.decreases-export
decreases-export l = 8 * l.rem + 2

abbrev pub decreases-function : goal.decreases-function
decreases-function l = 8 * l.rem + 4

abbrev pub decreases-kids : goal.decreases-kids
decreases-kids l = 8 * l.rem + 2

abbrev pub decreases-large_tuple : goal.decreases-large_tuple
decreases-large_tuple l = 8 * l.rem + 3

abbrev pub decreases-list : goal.decreases-list
decreases-list l = 8 * l.rem + 3

abbrev pub decreases-map : goal.decreases-map
decreases-map l = 8 * l.rem + 3

abbrev pub decreases-named : goal.decreases-named
decreases-named l = 8 * l.rem + 2

abbrev pub decreases-reference : goal.decreases-reference
decreases-reference l = 8 * l.rem + 3

abbrev pub decreases-required : goal.decreases-required
decreases-required l = 8 * l.rem + 1

abbrev pub decreases-small_tuple : goal.decreases-small_tuple
decreases-small_tuple l = 8 * l.rem + 3

abbrev pub decreases-term : goal.decreases-term
decreases-term l = 8 * l.rem

abbrev pub invariant-kids-loop-i : goal.invariant-kids-loop-i
invariant-kids-loop-i l =
    let o = l.initial in
    record {
      inside : l.at ≤ length l.self.b.now;
      counted : l.seen.begun ≤ l.at;
      some : 1 ≤ l.at;
      before : l.prev ≤ length l.self.b.now;
      deep : ¬ (l.rem ≡ 0) → l.at < length l.self.b.now → l.i < l.n → limit_of l.self.asked + 1 - l.rem ≤ l.seen.deepest;
      same : kids_of (term_of l.self l.rem) (segment_of l.family l.n) 0 l.n o.prev (place o.at o.seen) ≡ kids_of (term_of l.self l.rem) (segment_of l.family l.n) l.i (l.n - l.i) l.prev (place l.at l.seen);
    }
