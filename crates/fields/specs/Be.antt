-- Numbers as the format writes them: "Numbers are big-endian" (document 01), and the digits of a big integer are "least first". Definitions
-- over lists of bytes alone.
use Rattle.std.specs.Prelude.{ℕ, zero, suc, ◌+◌, ◌*◌, ◌^◌, ◌/◌, ◌%◌, List, [], ◌∷◌, cond, length, take, drop, ltb, eqb, ℤ, pos}
use Rattle.std.proofs.Math.IntN.{sub_ℕ}

-- the number that a run of bytes spells: the first byte is worth most
unfoldable pub be : List ℕ → ℕ
be [] = 0
be (x ∷ s) = x * 256 ^ length s + be s

-- "digit bytes, least first" (110 and 111): the number that they spell, the first byte worth least
unfoldable pub le : List ℕ → ℕ
le [] = 0
le (x ∷ s) = x + 256 * le s

-- the way back, for who writes: a number below 256 ^ k in k bytes, and the fewest digits of one that at most k hold
unfoldable pub bytes_of : ℕ → ℕ → List ℕ
bytes_of zero n = []
bytes_of (suc k) n = n / 256 ^ k ∷ bytes_of k (n % 256 ^ k)

unfoldable pub digits_of : ℕ → ℕ → List ℕ
digits_of zero n = []
digits_of (suc k) n = cond (eqb n 0) [] (n % 256 ∷ digits_of k (n / 256))

-- the number that the k bytes from `at` on spell
unfoldable pub be_at : ℕ → List ℕ → ℕ → ℕ
be_at k b at = be (take k (drop at b))

-- "4 bytes two's complement": from 2 ^ 31 on a number stands for itself less 2 ^ 32
unfoldable pub signed : ℕ → ℤ
signed n = cond (ltb n 2147483648) (pos n) (sub_ℕ n 4294967296)
