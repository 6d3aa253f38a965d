-- What is asked of a reader: what it allows, and how deep it reads. Tag 99 is read by all of them.
use Rattle.std.specs.Prelude.{ℕ, [], ◌∷◌, true, false}
use Rattle.numbers.specs.Bits.{bit}
use Rattle.numbers.specs.Allowed.{Allowed}
use Rattle.reading.specs.declared.Asked.{Asked}

unfoldable pub allowed_of : Asked → Allowed
allowed_of asked = record { texts = true; names = asked.names; known = bit asked.known }

abbrev pub limit_of : Asked → ℕ
limit_of asked = asked.limit

-- plain reading, so deep
abbrev pub plainly : ℕ → Asked
plainly limit = record { known = 0 ∷ 0 ∷ 0 ∷ 0 ∷ []; names = false; limit = limit }
