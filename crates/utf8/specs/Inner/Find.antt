-- How many leading bytes of a text form whole good characters, as a number that computes: `good_bytes`. What it means, with no way of finding
-- it, is `Good` (Good.antt): proofs/Meaning.antt shows that it has that, and proofs/Unique.antt that no other number has.
use Rattle.std.specs.Prelude.{ℕ, zero, suc, ◌+◌, ◌-◌, ◌*◌, Bool, true, false, cond, List, [], ◌∷◌, length, drop, ◌==◌, nat_lt, slice_index, Option, Some, None}
use Rattle.std.specs.Option.{option_map_or}
use Rattle.utf8.specs.Unicode.{scalar, encode}

-- Table 3-6 read from right to left: the only value whose bytes these could be, by the first of them
unfoldable pub decode : ℕ → ℕ → ℕ → ℕ → ℕ
decode a b c d =
    cond (nat_lt a 0x80) a
    (cond (nat_lt a 0xE0) ((a - 0xC0) * 64 + (b - 0x80))
    (cond (nat_lt a 0xF0) ((a - 0xE0) * 4096 + (b - 0x80) * 64 + (c - 0x80))
    ((a - 0xF0) * 262144 + (b - 0x80) * 4096 + (c - 0x80) * 64 + (d - 0x80))))

unfoldable pub starts : List ℕ → List ℕ → Bool
starts [] s = true
starts (x ∷ p) [] = false
starts (x ∷ p) (y ∷ s) = cond (x == y) (starts p s) false

-- how many bytes the character at the front of s has; None where no whole good one stands there
unfoldable pub char_bytes : List ℕ → Option ℕ
char_bytes s = judged (decode (slice_index s 0) (slice_index s 1) (slice_index s 2) (slice_index s 3))
  where
    judged : ℕ → Option ℕ
    judged c = cond (scalar c) (cond (starts (encode c) s) (Some (length (encode c))) None) None

-- how many leading bytes of s form whole good characters, of which there are at most `most`
unfoldable pub good_from : ℕ → List ℕ → ℕ
good_from zero s = 0
good_from (suc most) s = option_map_or (λ n. n + good_from most (drop n s)) (char_bytes s) 0

unfoldable pub good_bytes : List ℕ → ℕ
good_bytes s = good_from (length s) s
