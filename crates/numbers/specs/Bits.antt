-- Small numbers told by the bits of words.
use Rattle.std.specs.Prelude.{ℕ, ◌^◌, ◌/◌, ◌%◌, Bool, List, eqb, get_or}

-- "bit i mod 64 of word i div 64" (document 01, "Name cache")
unfoldable pub bit : List ℕ → ℕ → Bool
bit words i = eqb (get_or words (i / 64) 0 / 2 ^ (i % 64) % 2) 1
