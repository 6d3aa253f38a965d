-- The commonest rows, found the short way: `short_row` (proofs/Shorts.antt) says that the row ends there. `p` is the place of the tag.
use Rattle.std.specs.Prelude.{ℕ, zero, suc, ◌+◌, List, Bool, true, cond, ◌&&◌, eqb, leb, ltb, length, get_or, Option, Some, None}
use Rattle.fields.specs.Field.{holds, number_at}

-- n bytes of ASCII
unfoldable pub plain : List ℕ → ℕ → ℕ → Bool
plain b p zero = true
plain b p (suc n) = ltb (get_or b p 0) 0x80 && plain b (p + 1) n

-- the end of a name in ASCII and of a binary; none says nothing
unfoldable pub short_name : List ℕ → ℕ → Option ℕ
short_name b p = let n = number_at 1 b (p + 1) in cond (holds n b (p + 2) && plain b (p + 2) n) (Some (p + 2 + n)) None

unfoldable pub short_binary : List ℕ → ℕ → Option ℕ
short_binary b p = let n = number_at 4 b (p + 1) in cond (holds n b (p + 5)) (Some (p + 5 + n)) None

-- the end of a row by its tag
unfoldable pub short_by : List ℕ → ℕ → ℕ → Option ℕ
short_by b p tag =
    cond (eqb tag 97) (Some (p + 2))
    (cond (eqb tag 98) (Some (p + 5))
    (cond (eqb tag 70) (Some (p + 9))
    (cond (eqb tag 106) (Some (p + 1))
    (cond (eqb tag 119) (short_name b p)
    (cond (eqb tag 109) (short_binary b p)
    None)))))

-- with ten bytes in reach
unfoldable pub short_end : List ℕ → ℕ → Option ℕ
short_end b p = cond (leb (p + 10) (length b)) (short_by b p (get_or b p 0)) None
