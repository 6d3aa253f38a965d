-- UTF-8 as Unicode defines it, in terms of code points (The Unicode Standard, 3.9).
use Rattle.std.specs.Prelude.{ℕ, ◌+◌, ◌/◌, ◌%◌, Bool, true, false, cond, List, [], ◌∷◌, nat_lt}

-- D76, a Unicode scalar value: a code point from 0 to 10FFFF, but no surrogate, which are D800 to DFFF
unfoldable pub scalar : ℕ → Bool
scalar c = cond (nat_lt c 0xD800) true (cond (nat_lt c 0xE000) false (nat_lt c 0x110000))

-- D92 and Table 3-6: a scalar value's bytes. The number of bytes goes by the value, so that no value has two spellings
unfoldable pub encode : ℕ → List ℕ
encode c =
    cond (nat_lt c 0x80) (c ∷ [])
    (cond (nat_lt c 0x800) ((0xC0 + c / 64) ∷ (0x80 + c % 64) ∷ [])
    (cond (nat_lt c 0x10000) ((0xE0 + c / 4096) ∷ (0x80 + c / 64 % 64) ∷ (0x80 + c % 64) ∷ [])
    ((0xF0 + c / 262144) ∷ (0x80 + c / 4096 % 64) ∷ (0x80 + c / 64 % 64) ∷ (0x80 + c % 64) ∷ [])))
