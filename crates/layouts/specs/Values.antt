-- What the bytes of a big integer and of a tag 107 stand for, beyond where they lie: an integer, and a list of integers. By the tree alone; a
-- tree with another tag has no such value, and what is said of it here means nothing.
use Rattle.std.specs.Prelude.{ℕ, ◌+◌, List, map, cond, eqb, ℤ, pos, neg_ℤ, get_or, drop}
use Rattle.fields.specs.Be.{le}
use Rattle.layouts.specs.Tree.{Tree, node}

-- "sign byte (nonzero is negative)"
unfoldable pub by_sign : ℕ → ℕ → ℤ
by_sign sign n = cond (eqb sign 0) (pos n) (neg_ℤ (pos n))

-- "110 / 111: n of 1 / 4 bytes, sign byte, n digit bytes, least first"
unfoldable pub big_integer : Tree → ℤ
big_integer (node tag front kids back) = let k : ℕ = cond (eqb tag 110) 1 4 in by_sign (get_or front k 0) (le (drop (k + 1) front))

-- "107: length of 2 bytes, bytes; a list of integers 0 to 255"
unfoldable pub integers : Tree → List ℤ
integers (node tag front kids back) = map pos (drop 2 front)
