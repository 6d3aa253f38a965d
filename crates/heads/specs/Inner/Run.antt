-- The run of bytes that a head names, and what follows of it.
use Rattle.std.specs.Prelude.{ℕ, ◌+◌, ◌≤◌, List, take, drop, length, Option, Some, None, Result, Ok}
use Rattle.heads.specs.declared.Value.{Value}
use Rattle.heads.specs.declared.Value.TheVariants as value
use Rattle.heads.specs.declared.Refused.{Refused}
use Rattle.heads.specs.declared.Run.{Run}

-- "an atom's or binary's (tag 109)"; of no other
abbrev pub run_of : Result Value Refused → Option Run
run_of (Ok (value.Atom r)) = Some r
run_of (Ok (value.Binary r)) = Some r
run_of other = None

-- its place and its length
abbrev pub placed : Option Run → ℕ × ℕ
placed (Some r) = (r.at, r.len)
placed None = (0, 0)

-- it lies within the input
abbrev pub inside : Run → List ℕ → Type 0
inside r b = r.at + r.len ≤ length b

-- "A second call returns an atom's or binary's (tag 109) part of the input, else an empty part"
unfoldable pub part_of : List ℕ → Option Run → List ℕ
part_of b r = take (placed r).1 (drop (placed r).0 b)
