-- What a reader answers: document 01's number and values for each case.
use Rattle.std.specs.Prelude.{ℕ, List, [], cond, ◌||◌, length, ltb, eqb, Ok, Err}
use Rattle.std.specs.Prelude as std
use Rattle.numbers.specs.Numbers as number
use Rattle.numbers.specs.Caps as cap
use Rattle.numbers.specs.Allowed.{Allowed, plain}
use Rattle.numbers.specs.Refusal.{number_of, extra_of}
use Rattle.numbers.specs.declared.Refusal.{Refusal}
use Rattle.numbers.specs.declared.Refusal.TheVariants as why
use Rattle.reading.specs.Told.{Told, padded}
use Rattle.reading.specs.declared.Kind.{Kind}
use Rattle.reading.specs.declared.Kind.TheVariants as kind
use Rattle.reading.specs.declared.Segment.{Segment}
use Rattle.reading.specs.Reading.{Result, done, no}
use Rattle.reading.specs.Terms.{term}

-- a segment's kind as a number
abbrev pub kind_number : Kind → ℕ
kind_number kind.Tuple = 0
kind_number kind.List = 1
kind_number kind.Tail = 2
kind_number kind.Key = 3
kind_number kind.Value = 4
kind_number kind.Free = 5

-- a refusal, and one before reading
abbrev pub refusal : (number offset extra begun deepest : ℕ) → List Segment → Told
refusal n o x c d p =
    record { number = n; end = 0; offset = o; extra = x; begun = c; deepest = d; len = length p; path = padded p }

abbrev pub early : Refusal → Told
early r = refusal (number_of r) 0 (extra_of r) 0 0 []

unfoldable pub answer : Result → Told
answer (done s) = record { number = number.Done; end = s.at; offset = 0; extra = 0; begun = s.begun; deepest = s.deepest; len = 0; path = padded [] }
answer (no n x s p) = refusal n s.last x s.begun s.deepest p

-- whether reading may begin, or why not
abbrev pub Start : Type 0
Start = std.Result (Unit {0}) Refusal

-- "Order: Limit, .. Long, then reading": whether an input of so many bytes is read, and what is answered then
unfoldable pub starts : (limit len : ℕ) → Start
starts limit len = cond (eqb limit 0 || ltb cap.nesting limit) (Err why.Limit) (cond (ltb cap.input len) (Err why.Long) (Ok tt))

abbrev pub started : Start → Told → Told
started (Err r) a = early r
started (Ok u) a = a

-- reading the term at a place, over what is allowed: its nesting is 1
unfoldable pub read_by : Allowed → List ℕ → ℕ → ℕ → Told
read_by allow b at limit = started (starts limit (length b)) (answer (term allow b limit limit (record { at = at; last = 0; begun = 0; deepest = 0 })))

-- document 01's own
abbrev pub read_at : List ℕ → ℕ → ℕ → Told
read_at = read_by plain
