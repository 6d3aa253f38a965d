-- What reading a number at a place answers, for every list of bytes and every place in it or past it.
use Rattle.std.specs.Prelude.{ℕ, ◌+◌, List, Bool, cond, length, leb, eqb, ℤ, Option, Some, None}
use Rattle.fields.specs.Be.{be_at, signed}

-- whether the k bytes from `at` on are all there
unfoldable pub holds : ℕ → List ℕ → ℕ → Bool
holds k b at = leb (at + k) (length b)

-- the number that those bytes spell; none is Eof: "bytes missing"
unfoldable pub field_at : ℕ → List ℕ → ℕ → Option ℕ
field_at k b at = cond (holds k b at) (Some (be_at k b at)) None

-- the same of four bytes in two's complement
unfoldable pub integer_at : List ℕ → ℕ → Option ℤ
integer_at b at = cond (holds 4 b at) (Some (signed (be_at 4 b at))) None

-- a number of k bytes at p, and what is said of it and of the place behind it; or what is said where it is missing
unfoldable pub number_then : {A : Type 0} → A → ℕ → List ℕ → (ℕ → ℕ → A) → ℕ → A
number_then {A} missing k b f p = go (field_at k b p)
  where
    go : Option ℕ → A
    go (Some n) = f n (p + k)
    go None = missing

-- a byte at p that has to be v, and what is said of the place behind it; or what is said of another
unfoldable pub byte_then : {A : Type 0} → A → (ℕ → A) → ℕ → List ℕ → (ℕ → A) → ℕ → A
byte_then missing other v b f p = number_then missing 1 b (λ x q. cond (eqb x v) (f q) (other x)) p

-- the number alone; 0 where it is missing, which is for a place where it is known to be there
abbrev pub number_at : ℕ → List ℕ → ℕ → ℕ
number_at k b at = cond (holds k b at) (be_at k b at) 0
