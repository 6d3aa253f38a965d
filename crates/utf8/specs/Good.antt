-- How many leading bytes of a text form whole good characters: one number does (proofs/Unique.antt), and `good_bytes` (Inner/Find.antt) computes it.
use Rattle.std.specs.Prelude.{◌≡◌, ℕ, ◌≤◌, true, List, [], ◌∷◌, ◌++◌, length, take, drop}
use Rattle.utf8.specs.Unicode.{scalar, encode}

-- the bytes of a row of characters
unfoldable pub spelled : List ℕ → List ℕ
spelled [] = []
spelled (c ∷ cs) = encode c ++ spelled cs

pub data Scalars : List ℕ → Type 0 where
  none : Scalars []
  more : {c : ℕ} {cs : List ℕ} → scalar c ≡ true → Scalars cs → Scalars (c ∷ cs)

-- "UTF-8 is Unicode's": the bytes of a row of Unicode's scalar values
pub record Utf8 (l : List ℕ) : Type 0 where
  pub chars : List ℕ
  pub scalars : Scalars chars
  pub is : l ≡ spelled chars

-- the first k bytes of s are whole good characters, and behind them none begins
pub record Good (s : List ℕ) (k : ℕ) : Type 0 where
  pub within : k ≤ length s
  pub text : Utf8 (take k s)
  pub stuck : (c : ℕ) → scalar c ≡ true → (rest : List ℕ) → ¬ (drop k s ≡ encode c ++ rest)
