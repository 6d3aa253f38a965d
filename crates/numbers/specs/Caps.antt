-- The bounds of the format, and the two limits of ours.
use Rattle.std.specs.Prelude.{ℕ, Bool, cond, ◌&&◌, eqb, leb}

-- "Caps: arity 10,000,000 for 105 and 108, 1,000,000 for 116, length 100,000,000 for 109 and 77" (document 01)
abbrev pub elements : ℕ
elements = 10000000

abbrev pub pairs : ℕ
pairs = 1000000

abbrev pub binary : ℕ
binary = 100000000

-- "A bits byte is 1 to 8, and 8 where length is 0": k, where the length is n
unfoldable pub bits_byte : (n k : ℕ) → Bool
bits_byte n k = cond (eqb n 0) (eqb k 8) (leb 1 k && leb k 8)

-- "a nesting limit of 1 to 64"; "input up to 16,777,216 bytes" (the request)
abbrev pub nesting : ℕ
nesting = 64

abbrev pub input : ℕ
input = 16777216
