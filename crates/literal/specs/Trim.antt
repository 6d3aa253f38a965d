-- What is left of a text without its trailing zero bytes. It rests on the list of the bytes alone.
use Rattle.std.specs.Prelude.{◌≡◌, List, ℕ, ◌-◌, ◌≤◌, ◌<◌, length, get_or}

-- "A tag 99 text .. loses trailing zero bytes": the first n bytes of s are left. Every byte from n on is 0, and where n isn't 0 the byte
-- before it isn't
pub record Trimmed (s : List ℕ) (n : ℕ) : Type 0 where
  pub inside : n ≤ length s
  pub zeros : (i : ℕ) → n ≤ i → i < length s → get_or s i 0 ≡ 0
  pub last : 0 < n → get_or s (n - 1) 0 ≡ 0 → ⊥
