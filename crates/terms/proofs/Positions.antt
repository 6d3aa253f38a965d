-- An atom by its position, as it is asked for: one law for each way that its row can go. Assumes nothing.
use Prim.Native.Nat.{ℕ, ◌+◌, ◌/◌, ◌%◌, ◌^◌}
use mathlib.Core.Path.{◌≡◌, sym}
use mathlib.Core.List.{List}
use mathlib.Core.Bool.{true, false}
use lib.ListN.{get_or}
use borrow.Author.Tests.{eq-eqb, ne_eqb}
use Rattle.std.specs.Prelude.{Some, None, Ok}
use Rattle.numbers.specs.Bits.{bit}
use Rattle.numbers.specs.declared.Refusal.TheVariants as why
use Rattle.fields.specs.Field.{field_at}
use Rattle.rows.specs.Row.{no}
use Rattle.rows.specs.Layout.{position_at}
use Rattle.rows.proofs.Laws.{position-none, position_eof, position-other, position-to}
use Rattle.reading.specs.declared.Asked.{Asked}
use Rattle.reading.specs.Asked.{allowed_of}

module _ (asked : Asked) (b : List ℕ) (at : ℕ) where
  pub no_tag : asked.names ≡ false → position_at (allowed_of asked) b at ≡ no why.Tag
  unfolding allowed_of
  no_tag h = sym (position-none (allowed_of asked) b at h)

  module _ (h : asked.names ≡ true) where
    a_tag : (allowed_of asked).names ≡ true
    unfolding allowed_of
    a_tag = h

    pub no_byte : field_at 1 b at ≡ None → position_at (allowed_of asked) b at ≡ no why.Eof
    no_byte l = sym (position_eof (allowed_of asked) b at a_tag l)

    module _ {k : ℕ} (l : field_at 1 b at ≡ Some k) where
      -- the bit that is looked at
      abbrev its_bit : ℕ
      its_bit = get_or asked.known (k / 64) 0 / 2 ^ (k % 64) % 2

      pub unknown : ¬ (its_bit ≡ 1) → position_at (allowed_of asked) b at ≡ no why.Tag
      unfolding allowed_of bit
      unknown n = sym (position-other (allowed_of asked) b at a_tag l (ne_eqb _ 1 n))

      pub known : its_bit ≡ 1 → position_at (allowed_of asked) b at ≡ Ok (at + 1)
      unfolding allowed_of bit
      known n = sym (position-to (allowed_of asked) b at a_tag l (eq-eqb _ 1 n))
