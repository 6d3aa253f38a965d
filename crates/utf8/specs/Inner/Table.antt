-- Unicode's table of well-formed byte sequences (The Unicode Standard, Table 3-7): a character's bytes by ranges, with no code point in sight.
-- It says just what Unicode.antt says (proofs/Table.antt, `same`), so that nobody has to believe it. `rows` of src/lib.rt has the same rows, and
-- what it makes of a text is told here too.
use Rattle.std.specs.Prelude.{ℕ, ◌≤◌, Bool, true, false, cond, ◌&&◌, List, [], ◌∷◌, length, ◌==◌, nat_le}

-- the bytes from the first to the last, both among them
infixl 60 ◌to◌
pub data Range : Type 0 where
  ◌to◌ : ℕ → ℕ → Range

unfoldable pub table : List (List Range)
table =
    ((0x00 to 0x7F) ∷ [])
    ∷ ((0xC2 to 0xDF) ∷ (0x80 to 0xBF) ∷ [])
    ∷ ((0xE0 to 0xE0) ∷ (0xA0 to 0xBF) ∷ (0x80 to 0xBF) ∷ [])
    ∷ ((0xE1 to 0xEC) ∷ (0x80 to 0xBF) ∷ (0x80 to 0xBF) ∷ [])
    ∷ ((0xED to 0xED) ∷ (0x80 to 0x9F) ∷ (0x80 to 0xBF) ∷ [])
    ∷ ((0xEE to 0xEF) ∷ (0x80 to 0xBF) ∷ (0x80 to 0xBF) ∷ [])
    ∷ ((0xF0 to 0xF0) ∷ (0x90 to 0xBF) ∷ (0x80 to 0xBF) ∷ (0x80 to 0xBF) ∷ [])
    ∷ ((0xF1 to 0xF3) ∷ (0x80 to 0xBF) ∷ (0x80 to 0xBF) ∷ (0x80 to 0xBF) ∷ [])
    ∷ ((0xF4 to 0xF4) ∷ (0x80 to 0x8F) ∷ (0x80 to 0xBF) ∷ (0x80 to 0xBF) ∷ [])
    ∷ []

-- the byte sequences of a row: as many bytes as it has ranges, and each within its own
pub data Fits : List Range → List ℕ → Type 0 where
  done : Fits [] []
  next : {low high x : ℕ} {row : List Range} {l : List ℕ} → low ≤ x → x ≤ high → Fits row l → Fits ((low to high) ∷ row) (x ∷ l)

-- and those of a table: some row has them
pub data Listed : List (List Range) → List ℕ → Type 0 where
  here : {row : List Range} {rows : List (List Range)} {l : List ℕ} → Fits row l → Listed (row ∷ rows) l
  there : {row : List Range} {rows : List (List Range)} {l : List ℕ} → Listed rows l → Listed (row ∷ rows) l

-- How the code goes by the rows: the first byte tells which row it is, and then the others must be of that row.
unfoldable pub has : Range → ℕ → Bool
has (low to high) x = nat_le low x && nat_le x high

-- whether the first byte of s lies in a row's first range; and whether the front of s, as many bytes as the row has ranges, is of the row
unfoldable pub opens : List Range → List ℕ → Bool
opens [] s = false
opens (range ∷ row) [] = false
opens (range ∷ row) (x ∷ s) = has range x

unfoldable pub fits : List Range → List ℕ → Bool
fits [] s = true
fits (range ∷ row) [] = false
fits (range ∷ row) (x ∷ s) = has range x && fits row s

-- what is said of the length where no row that was looked at has the first byte
abbrev pub undecided : ℕ
undecided = 5

-- what is known of it after a row more, n being what the rows before have told; 0 where the row refuses what stands there
unfoldable pub tried : ℕ → List Range → List ℕ → ℕ
tried n row s = cond (n == undecided) (cond (opens row s) (cond (fits row s) (length row) 0) undecided) n

unfoldable pub by_rows : ℕ → List (List Range) → List ℕ → ℕ
by_rows n [] s = n
by_rows n (row ∷ rows) s = by_rows (tried n row s) rows s
