-- The name cache in slots, a form of cache: which slots are filled, what storing a name does, and what a slot answers. Document 01, "Name cache".
use Rattle.std.specs.Prelude.{ℕ, zero, suc, ◌+◌, ◌*◌, ◌^◌, ◌/◌, ◌%◌, List, [], ◌∷◌, Bool, cond, eqb, leb, length, get_or, set, take, drop, Some, None, Result, Ok, Err}
use Rattle.std.specs.Int.Bits.{bit_or}
use Rattle.std.specs.Int.Count.{ones}
use Rattle.std.proofs.lemmas.List.Edits.{sets}
use Rattle.numbers.specs.Bits.{bit}
use Rattle.numbers.specs.declared.Refusal.{Refusal}
use Rattle.numbers.specs.declared.Refusal.TheVariants as refusal
use Rattle.names.specs.Form.{Held, Form}
use Rattle.cache.specs.declared.Cache.{Cache}
use Rattle.cache.specs.declared.Name.{Name}

-- "256 slots of 256 bytes": the bytes of a slot, and of the store
abbrev pub slot_bytes : ℕ
slot_bytes = 256

abbrev pub store_bytes : ℕ
store_bytes = 65536

-- "Which slots are filled is kept in four 64-bit words, .. bit i mod 64 of word i div 64"
unfoldable pub filled : List ℕ → ℕ → Bool
filled words i = bit words i

-- "the count of names is the ones in all four"
unfoldable pub count_of : List ℕ → ℕ
count_of words = ones (get_or words 0 0) + ones (get_or words 1 0) + ones (get_or words 2 0) + ones (get_or words 3 0)

-- which is how many of the 256 slots are filled: of the first n
unfoldable pub filled_slots : List ℕ → ℕ → ℕ
filled_slots words zero = 0
filled_slots words (suc n) = filled_slots words n + cond (filled words n) 1 0

-- storing a name: its slot's bit; and "one length byte, then up to 255 of name". "Slot bytes past the name stay."
unfoldable pub marked : List ℕ → ℕ → List ℕ
marked words i = set words (i / 64) (bit_or (get_or words (i / 64) 0) (2 ^ (i % 64)))

unfoldable pub stored : List ℕ → ℕ → List ℕ → List ℕ
stored store i n = sets store (i * slot_bytes) (length n ∷ n)

-- so what a slot holds
unfoldable pub name_in : List ℕ → ℕ → List ℕ
name_in store i = take (get_or store (i * slot_bytes) 0) (drop (i * slot_bytes + 1) store)

unfoldable pub view : (words store : List ℕ) → ℕ → Held
view words store i = cond (filled words i) (Some (name_in store i)) None

-- and the slots are a form of cache, the record and the lent store together. A longer name is Name, "name over 255 bytes"
pub record Slots : Type 0 where
  pub cache : Cache
  pub store : List ℕ

unfoldable pub put : Slots → ℕ → List ℕ → Result Slots Refusal
put s i n =
    cond (leb (length n) 255)
    (Ok (record { cache = record { filled = marked s.cache.filled i }; store = stored s.store i n }))
    (Err refusal.Name)

abbrev pub slots : Form
slots = record { State = Slots; held = λ s. view s.cache.filled s.store; put = put }

-- "A get by slot (a byte) answers the name's place, Store or Absent": the place and the length
unfoldable pub got_at : (words store : List ℕ) → ℕ → Result Name Refusal
got_at words store i =
    cond (eqb (length store) store_bytes)
    (cond (filled words i) (Ok (record { at = i * slot_bytes + 1; len = get_or store (i * slot_bytes) 0 })) (Err refusal.Absent))
    (Err refusal.Store)

-- "a second call returns the name's part of the store, empty when refused"
abbrev pub part_of : List ℕ → Result Name Refusal → List ℕ
part_of store (Ok n) = take n.len (drop n.at store)
part_of store (Err r) = []
