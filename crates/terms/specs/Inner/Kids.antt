-- The children of a tuple, a list with its tail, a map and a function, as one loop reads them, and those that a row requires.
use Rattle.std.specs.Prelude.{ℕ, zero, suc, ◌+◌, ◌%◌, List, Bool, cond, eqb}
use Rattle.terms.specs.declared.Family.{Family}
use Rattle.terms.specs.declared.Family.TheVariants as family
use Rattle.terms.specs.declared.Needed.{Needed}
use Rattle.terms.specs.declared.Needed.TheVariants as needed
use Rattle.reading.specs.declared.Kind.TheVariants as kind
use Rattle.reading.specs.declared.Segment.{Segment}
use Rattle.reading.specs.Reading.{State, Result, done, and_then, entered, pass}
use Rattle.reading.specs.Terms.{required, is_atom, is_natural, is_pid}

-- what a required child is judged by
abbrev pub fits : Needed → List ℕ → ℕ → Bool
fits needed.Atom = is_atom
fits needed.Arity = is_natural 255
fits needed.Natural = is_natural 2147483647
fits needed.Pid = is_pid

-- an atom, and n bytes
abbrev pub named : (State → Result) → List ℕ → ℕ → State → Result
named read b n s = and_then (required read (is_atom b) s) (pass b n)

-- so many children at most, so that a number fits its segment
abbrev pub most : Family → ℕ
most family.Tuple = 4294967296
most family.List = 4294967296
most family.Map = 8589934592
most family.Function = 4294967296

-- the segment of child i of n, where the one before starts at prev
unfoldable pub segment_of : Family → ℕ → ℕ → ℕ → Segment
segment_of family.Tuple n i prev = record { kind = kind.Tuple; number = i }
segment_of family.List n i prev = cond (eqb (i + 1) n) (record { kind = kind.Tail; number = 0 }) (record { kind = kind.List; number = i })
segment_of family.Map n i prev = cond (eqb (i % 2) 0) (record { kind = kind.Key; number = 0 }) (record { kind = kind.Value; number = prev })
segment_of family.Function n i prev = record { kind = kind.Free; number = i }

abbrev pub entering : Segment → Result → Result
entering g o = entered g.kind g.number o

-- n children, of which the first has the number i
unfoldable pub kids_of : (State → Result) → (ℕ → ℕ → Segment) → ℕ → ℕ → ℕ → State → Result
kids_of read seg i zero prev s = done s
kids_of read seg i (suc n) prev s = and_then (entering (seg i prev) (read s)) (kids_of read seg (i + 1) n s.at)
