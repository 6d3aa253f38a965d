-- Which bits spell the one NaN of the logic. Assumes nothing.
use Prim.Native.Nat.{ℕ, ◌%◌, ◌≤◌, ◌<◌}
use mathlib.Core.Path.{◌≡◌, refl, sym, ◌∙◌}
use mathlib.Core.Bool.{true, not, false≢true}
use borrow.Author.Tests.{lt-ltb, le-ltb}
use lib.Dec.{T}
use lib.Ieee.{Float, nan, inf, fin, binary64, is_nan, of_bits, nan_bits}
use lib.Ieee.Bits.{nan_bits_is, nan_bits_above}

only_nan : (x : Float) → is_nan x ≡ true → x ≡ nan
unfolding is_nan
only_nan nan e = refl
only_nan (inf s) e = absurd (false≢true e)
only_nan (fin s m d) e = absurd (false≢true e)

module _ (n : ℕ) where
  pub is-nan : 0x7ff0000000000000 < n % 0x8000000000000000 → of_bits binary64 n ≡ nan
  is-nan h = only_nan (of_bits binary64 n) (sym (nan_bits_is binary64 n) ∙ nan_bits_above binary64 n ∙ lt-ltb _ _ h)

  pub no_nan : n % 0x8000000000000000 ≤ 0x7ff0000000000000 → T (not (nan_bits binary64 n))
  no_nan h = rw (nan_bits_above binary64 n ∙ le-ltb _ _ h) tt
