-- A number of 4 bytes as an i64 has it: as it stands, and 2 ^ 32 less where it is negative. Assumes nothing.
use Prim.Native.Nat.{ℕ, ◌^◌, ◌<◌, ◌≤◌}
use native.Mathlib.Omega.{arith}
use mathlib.Core.Path.{◌≡◌}
use lib.IntN.{pos, ◌-ℤ◌}
use lib.Signed.{mag}
use mir.Syntax.{w64}
use mir.Val.{to_z}
use borrow.Author.Tests.{lt-ltb, le-ltb}
use Rattle.fields.specs.Be.{signed}

module _ (n : ℕ) (fits : n < 4294967296) where
  pub positive : to_z w64 n ≡ pos n
  positive = rw (lt-ltb n (2 ^ 63) (omega arith))

  pub signed_low : n < 2147483648 → to_z w64 n ≡ signed n
  unfolding signed
  signed_low h = rw (lt-ltb n 2147483648 h) positive

  pub signed_high : 2147483648 ≤ n → to_z w64 n -ℤ pos 4294967296 ≡ signed n
  unfolding signed
  signed_high h = rw (le-ltb n 2147483648 h, positive)

  pub mag_high : 2147483648 ≤ n → mag (to_z w64 n -ℤ pos 4294967296) < 2 ^ 63
  mag_high h = rw (positive, lt-ltb n 4294967296 fits) (omega arith)
