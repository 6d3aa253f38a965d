-- What the check's functions answer of bytes and of single characters.
use Rattle.std.specs.Prelude.{◌≡◌, ℕ, ◌+◌, ◌*◌, ◌<◌, ◌≤◌, true, List, [], ◌∷◌, ◌++◌, length, drop, slice_index, Option, Some, None}
use Rattle.utf8.specs.Unicode.{scalar, encode}
use Rattle.utf8.specs.Good.{spelled, Scalars}

-- the bytes from i up to j are there, and each is a character of ASCII
pub record Plain (s : List ℕ) (i j : ℕ) : Type 0 where
  pub order : i ≤ j
  pub within : j ≤ length s
  pub low : (k : ℕ) → i ≤ k → k < j → slice_index s k < 0x80

-- that, and there is no more of them
pub record Run (s : List ℕ) (i j : ℕ) : Type 0 where
  pub plain : Plain s i j
  pub stops : j < length s → 0x80 ≤ slice_index s j

-- the number that a run of bytes spells where the first is worth least
unfoldable pub le : List ℕ → ℕ
le [] = 0
le (x ∷ s) = x + le s * 256

-- the first k bytes of s spell whole good characters
pub record Spells (s : List ℕ) (k : ℕ) : Type 0 where
  pub chars : List ℕ
  pub scalars : Scalars chars
  pub within : k ≤ length s
  pub front : s ≡ spelled chars ++ drop k s

-- a whole good character stands at the front
pub record Begins (s : List ℕ) : Type 0 where
  pub char : ℕ
  pub good : scalar char ≡ true
  pub rest : List ℕ
  pub is : s ≡ encode char ++ rest

-- r is the length of the whole good character that begins s, and None where none does
pub data Char (s : List ℕ) : Option ℕ → Type 0 where
  none : (Begins s → ⊥) → Char s None
  one : {n : ℕ} → 0 < n → n ≤ length s → (c : ℕ) → scalar c ≡ true → s ≡ encode c ++ drop n s → Char s (Some n)
