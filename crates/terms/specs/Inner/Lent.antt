-- How what is lent to the readers spells an answer: `seen` is how far reading came, and `fault`, of a refusal, why it stopped and the segments of its path, innermost first.
use Rattle.std.specs.Prelude.{◌≡◌, ℕ, ◌+◌, ◌-◌, ◌≤◌, ◌<◌, max, List, length, take, reverse, map, Option, MatchOption}
use Rattle.numbers.specs.Caps as cap
use Rattle.numbers.specs.Allowed.{Allowed}
use Rattle.numbers.specs.Refusal.{number_of, extra_of}
use Rattle.reading.specs.declared.Segment.{Segment}
use Rattle.reading.specs.Reading.{State, Result, done, no}
use Rattle.reading.specs.Terms.{term}
use Rattle.reading.specs.Asked.{allowed_of, limit_of}
use Rattle.terms.specs.declared.Reader.{Reader}
use Rattle.terms.specs.declared.Seen.{Seen}
use Rattle.terms.specs.declared.Noted.{Noted}
use Rattle.terms.specs.declared.Fault.{Fault}
use Rattle.terms.specs.declared.Left.{Left}

-- the path of a refusal, outermost first
abbrev pub whole : Noted → Segment
whole x = record { kind = x.kind; number = x.number }

abbrev pub path_of : Fault → List Segment
path_of fault = map whole (reverse (take fault.len fault.path))

-- where reading stands: the position, and what was seen so far
abbrev pub place : ℕ → Seen → State
place at seen = record { at = at; last = seen.last; begun = seen.begun; deepest = seen.deepest }

-- a term, by a reader that has so many levels left
abbrev pub term_of : Reader → ℕ → State → Result
term_of r rem = term (allowed_of r.asked) r.b.now (limit_of r.asked) rem

-- what a reader needs: a short input, a place in it, and nesting within the limit that is asked
pub record Ready (r : Reader) (rem at : ℕ) (left : Left) : Type 0 where
  pub short : length r.b.now ≤ cap.input
  pub inside : at ≤ length r.b.now
  pub counted : left.seen.begun ≤ at
  pub nested : rem ≤ limit_of r.asked
  pub limited : limit_of r.asked ≤ cap.nesting

-- the same of fields without children, behind a tag
abbrev pub Behind : Reader → ℕ → Left → Type 0
Behind r at left = (at ≤ length r.b.now) × ((left.seen.begun ≤ at) × (1 ≤ at))

-- reading goes on from `end`, within the bounds
pub record GoesOn (end : ℕ) (left : Left) (len : ℕ) (o : Result) : Type 0 where
  pub same : o ≡ done (place end left.seen)
  pub some : 1 ≤ end
  pub inside : end ≤ len
  pub counted : left.seen.begun ≤ end

-- reading is refused, with few enough segments; the position is left open, since no answer names it
pub record Stops (left : Left) (room : ℕ) (o : Result) : Type 0 where
  pub at : ℕ
  pub same : o ≡ no (number_of left.fault.why) (extra_of left.fault.why) (place at left.seen) (path_of left.fault)
  pub few : left.fault.len ≤ room

-- the answer is the definition's, and keeps the bounds
pub record Shows (found : Option ℕ) (left : Left) (len room : ℕ) (o : Result) : Type 0 where
  pub shown : MatchOption found (Stops left room o) (λ end. GoesOn end left len o)

-- a term that leaves its end, and one term more, whatever is allowed
pub record Short (b : List ℕ) (rem at end : ℕ) : Type 0 where
  pub some : ¬ (rem ≡ 0)
  pub after : at < end
  pub inside : end ≤ length b
  pub same : (allow : Allowed) (limit last count deep : ℕ) →
      term allow b limit rem (record { at = at; last = last; begun = count; deepest = deep }) ≡ done (record { at = end; last = at; begun = count + 1; deepest = max deep (limit + 1 - rem) })

-- what every reader of a family requires, behind the term's tag, and what it ensures: with the levels that are left it reads as the family's
-- definition does. `old` and `new` are what is lent before and after
abbrev pub Enters : Reader → (rem at : ℕ) → Left → Type 0
Enters r rem at left = Ready r (rem + 1) at left × (1 ≤ at)

abbrev pub Reads : ((State → Result) → List ℕ → State → Result) → Reader → (rem at : ℕ) → (old : Left) → (found : Option ℕ) → (new : Left) → Type 0
Reads family r rem at old found new = Shows found new (length r.b.now) (rem + 1) (family (term_of r rem) r.b.now (place at old.seen))
