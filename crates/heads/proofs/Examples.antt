-- Heads of short inputs, worked out: integers at both ends, a bits byte, caps, a sign byte of 2, and where a pid and a reference are refused. Assumes nothing.
use mathlib.Core.Path.{◌≡◌, refl}
use mathlib.Core.List.{[], ◌∷◌}
use mathlib.Core.Bool.{true}
use lib.IntN.{negsuc}
use lib.Ieee.{nan, of_bits, of_fields}
use Rattle.numbers.specs.Caps as cap
use Rattle.fields.specs.Be.{be, be_at, signed}
use Rattle.fields.specs.Field.{holds, field_at, number_then}
use Rattle.utf8.specs.Unicode.{scalar, encode}
use Rattle.utf8.specs.Inner.Find.{good_bytes, good_from, char_bytes, decode, starts}
use Rattle.numbers.specs.declared.Refusal.TheVariants as refusal
use Rattle.std.specs.Prelude.{Ok}
use Rattle.rows.specs.Row as row
use Rattle.rows.specs.Layout as layout
use Rattle.heads.specs.Inner.Run.{part_of}
use Rattle.heads.specs.Inner.Head.{no, run, double, big, fixed, row_value, count, node, pid_numbers, pid, reference, term, head_at, part_at}
use Rattle.heads.specs.declared.Value.TheVariants as value

pub less_one : head_at (98 ∷ 255 ∷ 255 ∷ 255 ∷ 255 ∷ []) 0 ≡ record { tag = 98; value = Ok (value.Integer (negsuc 0)) }
unfolding head_at term row_value fixed layout.row_at row.bytes holds field_at be_at be signed
less_one = refl

pub least : head_at (98 ∷ 128 ∷ 0 ∷ 0 ∷ 0 ∷ []) 0 ≡ record { tag = 98; value = Ok (value.Integer (negsuc 2147483647)) }
unfolding head_at term row_value fixed layout.row_at row.bytes holds field_at be_at be signed
least = refl

-- a quiet NaN with its sign set
pub a_nan : head_at (70 ∷ 255 ∷ 248 ∷ 0 ∷ 0 ∷ 0 ∷ 0 ∷ 0 ∷ 0 ∷ []) 0 ≡ record { tag = 70; value = Ok (value.Double nan 0xfff8000000000000) }
unfolding head_at term row_value fixed double layout.row_at row.bytes holds field_at be_at be of_bits of_fields
a_nan = refl

pub all_bits : head_at (77 ∷ 0 ∷ 0 ∷ 0 ∷ 0 ∷ 8 ∷ []) 0 ≡ record { tag = 77; value = Ok (value.BitString (run 6 0) 8) }
unfolding head_at term row_value fixed layout.row_at layout.bits_then cap.bits_byte number_then row.count_then row.bytes holds field_at be_at be
all_bits = refl

pub bits : head_at (77 ∷ 0 ∷ 0 ∷ 0 ∷ 0 ∷ 7 ∷ []) 0 ≡ record { tag = 77; value = no refusal.Bits 0 }
unfolding head_at term row_value layout.row_at layout.bits_then cap.bits_byte number_then row.count_then holds field_at be_at be
bits = refl

-- "nonzero is negative"
pub sign : head_at (110 ∷ 1 ∷ 2 ∷ 5 ∷ []) 0 ≡ record { tag = 110; value = Ok (value.Big (run 3 1) 2 true) }
unfolding head_at term row_value fixed big layout.row_at layout.digits number_then row.bytes holds field_at be_at be
sign = refl

-- 10,000,000 elements, of which none need be there, and one more; 1,000,001 pairs
pub longest : head_at (131 ∷ 108 ∷ 0 ∷ 152 ∷ 150 ∷ 128 ∷ []) 1 ≡ record { tag = 108; value = Ok (value.List cap.elements) }
unfolding head_at term count number_then row.count_then holds field_at be_at be
longest = refl

pub longer : head_at (131 ∷ 108 ∷ 0 ∷ 152 ∷ 150 ∷ 129 ∷ []) 1 ≡ record { tag = 108; value = no refusal.Size 1 }
unfolding head_at term count number_then row.count_then holds field_at be_at be
longer = refl

pub pairs : head_at (131 ∷ 116 ∷ 0 ∷ 15 ∷ 66 ∷ 65 ∷ []) 1 ≡ record { tag = 116; value = no refusal.Size 1 }
unfolding head_at term count number_then row.count_then holds field_at be_at be
pairs = refl

-- a pid whose atom child is a tuple, and one whose id is missing: both at the child's start
pub no-atom : head_at (131 ∷ 88 ∷ 104 ∷ 2 ∷ 106 ∷ 106 ∷ []) 1 ≡ record { tag = 88; value = no refusal.Tag 2 }
unfolding head_at term pid node
no-atom = refl

pub no_id : head_at (131 ∷ 88 ∷ 119 ∷ 0 ∷ 0 ∷ []) 1 ≡ record { tag = 88; value = no refusal.Eof 2 }
unfolding head_at term pid node pid_numbers number_then row_value fixed layout.row_at row.name row.bytes good_bytes good_from char_bytes decode scalar encode starts holds field_at be_at be
no_id = refl

-- tag 82 is no head, and no atom of one: document 02's P3 leaves heads and parts as they were
pub no-position : head_at (82 ∷ 0 ∷ []) 0 ≡ record { tag = 82; value = no refusal.Tag 0 }
unfolding head_at term row_value layout.row_at
no-position = refl

pub no-position_child : head_at (131 ∷ 88 ∷ 82 ∷ 0 ∷ 0 ∷ 0 ∷ 0 ∷ 0 ∷ 0 ∷ 0 ∷ 0 ∷ 0 ∷ 0 ∷ 0 ∷ 0 ∷ 0 ∷ []) 1 ≡ record { tag = 88; value = no refusal.Tag 2 }
unfolding head_at term pid node
no-position_child = refl

pub no-position-part : part_at (82 ∷ 0 ∷ []) 0 ≡ []
unfolding part_at part_of head_at term row_value layout.row_at
no-position-part = refl

-- a reference whose count is missing, at its own start
pub no-count : head_at (131 ∷ 90 ∷ 0 ∷ []) 1 ≡ record { tag = 90; value = no refusal.Eof 1 }
unfolding head_at term reference number_then holds field_at be_at be
no-count = refl

pub past : head_at (106 ∷ []) 7 ≡ record { tag = 0; value = no refusal.Eof 7 }
unfolding head_at
past = refl

pub name-part : part_at (119 ∷ 2 ∷ 111 ∷ 107 ∷ []) 0 ≡ 111 ∷ 107 ∷ []
unfolding part_at part_of head_at term row_value fixed layout.row_at number_then row.name row.bytes good_bytes good_from char_bytes decode scalar encode starts holds field_at be_at be
name-part = refl

pub no_part : part_at (107 ∷ 0 ∷ 1 ∷ 97 ∷ []) 0 ≡ []
unfolding part_at part_of head_at term row_value fixed layout.row_at number_then row.bytes holds field_at be_at be
no_part = refl
