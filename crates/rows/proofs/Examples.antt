-- Rows that document 01 names, as the definition computes them. Assumes nothing.
use mathlib.Core.Path.{◌≡◌, refl}
use mathlib.Core.List.{[], ◌∷◌}
use lib.ListN.{replicate}
use Rattle.fields.specs.Be.{be, be_at}
use Rattle.fields.specs.Field.{holds, field_at, number_then}
use Rattle.utf8.specs.Unicode.{scalar, encode}
use Rattle.utf8.specs.Inner.Find.{decode, starts, char_bytes, good_from, good_bytes}
use Rattle.literal.specs.Inner.Trim.{trimmed}
use Rattle.literal.specs.Inner.Parse.{is_literal}
use Rattle.rows.specs.Row.{bytes, name, count_then}
use Rattle.numbers.specs.Caps.{bits_byte}
use Rattle.rows.specs.Layout.{number_text, bits_then, row_at}
use Rattle.std.specs.Prelude.{Ok, Err}
use Rattle.numbers.specs.Refusal.{number_of, extra_of}
use Rattle.numbers.specs.declared.Refusal.TheVariants as refusal

-- 77 0 0 0 0 8 is accepted, and 7 bits are not
pub empty_bits : row_at (0 ∷ 0 ∷ 0 ∷ 0 ∷ 8 ∷ []) 77 0 ≡ Ok 5
unfolding row_at bits_then bits_byte bytes count_then number_then holds field_at be_at be
empty_bits = refl

pub empty_bits_7 : row_at (0 ∷ 0 ∷ 0 ∷ 0 ∷ 7 ∷ []) 77 0 ≡ Err refusal.Bits
unfolding row_at bits_then bits_byte bytes count_then number_then holds field_at be_at be
empty_bits_7 = refl

-- a text of tag 99 that is neither UTF-8 nor a literal is refused as text: Text comes before Literal
pub text-first : row_at (255 ∷ replicate 30 0) 99 0 ≡ Err refusal.Text
unfolding row_at number_text name bytes holds good_bytes good_from char_bytes decode scalar encode starts
text-first = refl

-- an empty one is no literal
pub no-literal : row_at (replicate 31 0) 99 0 ≡ Err refusal.Literal
unfolding row_at number_text name bytes holds good_bytes good_from char_bytes decode scalar encode starts trimmed is_literal
no-literal = refl

-- and the jig shows them as 5, 3 and 4, with no extra
pub shown : (number_of refusal.Bits ≡ 5) × ((number_of refusal.Text ≡ 3) × ((number_of refusal.Literal ≡ 4) × ((extra_of refusal.Bits ≡ 0) × ((extra_of refusal.Text ≡ 0) × (extra_of refusal.Literal ≡ 0)))))
shown = (refl, (refl, (refl, (refl, (refl, refl)))))
