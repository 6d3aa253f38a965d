-- Why a call is refused: the number that the jig shows for it, and the extra that goes with it.
use Rattle.std.specs.Prelude.{ℕ}
use Rattle.numbers.specs.Numbers as number
use Rattle.numbers.specs.declared.Refusal.{Refusal}
use Rattle.numbers.specs.declared.Refusal.TheVariants as refusal

abbrev pub number_of : Refusal → ℕ
number_of refusal.Eof = number.Eof
number_of refusal.Tag = number.Tag
number_of refusal.Text = number.Text
number_of refusal.Literal = number.Literal
number_of refusal.Bits = number.Bits
number_of refusal.Size = number.Size
number_of (refusal.Trailing n) = number.Trailing
number_of refusal.Deep = number.Deep
number_of (refusal.Room n) = number.Room
number_of refusal.Long = number.Long
number_of refusal.Name = number.Name
number_of (refusal.Version n) = number.Version
number_of (refusal.Kind n) = number.Kind
number_of refusal.Limit = number.Limit
number_of refusal.Store = number.Store
number_of refusal.Absent = number.Absent
number_of refusal.Items = number.Items
number_of refusal.Segment = number.Segment

-- the bytes left, the cells needed, the byte found; 0 where there is none
abbrev pub extra_of : Refusal → ℕ
extra_of (refusal.Trailing n) = n
extra_of (refusal.Room n) = n
extra_of (refusal.Version n) = n
extra_of (refusal.Kind n) = n
extra_of other = 0
