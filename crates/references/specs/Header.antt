-- The atom header: what its bytes say, of themselves and of no cache. Document 01, "Name cache", and document 02, P2 and P3.
use Rattle.std.specs.Prelude.{ℕ, zero, suc, ◌+◌, ◌/◌, ◌%◌, List, [], ◌∷◌, Bool, true, false, cond, ◌&&◌, eqb, ltb, length, get_or, Result, Ok, Err, map}
use Rattle.numbers.specs.Caps as cap
use Rattle.numbers.specs.declared.Refusal.{Refusal}
use Rattle.numbers.specs.declared.Refusal.TheVariants as refusal
use Rattle.fields.specs.Field.{holds, number_then, byte_then}
use Rattle.rows.specs.Row as row
use Rattle.references.specs.declared.Opening.{Opening}
use Rattle.references.specs.declared.Reference.{Reference}
use Rattle.references.specs.declared.Reference.TheVariants as ref

-- "Header: 131, 68, n": the flags begin behind these
abbrev pub flags_at : ℕ
flags_at = 3

-- "Reference i has half byte i, low half first": within its flag byte, and of a header
unfoldable pub half_of : (flag i : ℕ) → ℕ
half_of flag i = cond (eqb (i % 2) 0) (flag % 16) (flag / 16)

unfoldable pub half_byte : List ℕ → ℕ → ℕ
half_byte b i = half_of (get_or b (flags_at + i / 2) 0) i

-- "its bit worth 8 means new"
unfoldable pub new_in : (flag i : ℕ) → Bool
new_in flag i = eqb (half_of flag i / 8 % 2) 1

unfoldable pub is_new : List ℕ → ℕ → Bool
is_new b i = new_in (get_or b (flags_at + i / 2) 0) i

-- the three bits below are its segment number. "The segment bits are ignored."
unfoldable pub segment : List ℕ → ℕ → ℕ
segment b i = half_byte b i % 8

-- document 02, P3: "18 Segment where a segment number is not 0". Whether those of the first n references, old ones too, are all 0
unfoldable pub one_segment : List ℕ → ℕ → Bool
one_segment b zero = true
one_segment b (suc n) = one_segment b n && eqb (segment b n) 0

-- "ETF puts the long-length bit in the half byte after the last reference", of n: lengths have 2 bytes where its bit worth 1 is set, else 1 byte
unfoldable pub long_bit : List ℕ → ℕ → Bool
long_bit b n = eqb (half_byte b n % 2) 1

-- "n of 0 has no flags. Else n div 2 + 1 flag bytes, then n references."
unfoldable pub flagged : List ℕ → ℕ → Result Opening Refusal
flagged b n =
    cond (eqb n 0) (Ok (record { count = 0; long = false; first = flags_at }))
    (cond (holds (n / 2 + 1) b flags_at) (Ok (record { count = n; long = long_bit b n; first = flags_at + (n / 2 + 1) })) (Err refusal.Eof))

-- "Header: 131, 68, n". Another first byte is Tag, "wrong first byte"; another second byte is Kind, "not a header", with that byte
unfoldable pub start_of : List ℕ → Result Opening Refusal
start_of b =
    let missing = Err refusal.Eof in
    cond (ltb cap.input (length b)) (Err refusal.Long)
    (byte_then missing (λ _. Err refusal.Tag) 131 b
    (byte_then missing (λ kind. Err (refusal.Kind kind)) 68 b (number_then missing 1 b (λ n _. flagged b n))) 0)

-- "A new one has slot, length, UTF-8 name": a name of n bytes at p, and the same behind its length of `wide` bytes
unfoldable pub named : List ℕ → (slot n p : ℕ) → Result Reference Refusal
named b slot n p = go (row.name b n p)
  where
    go : Result ℕ Refusal → Result Reference Refusal
    go (Ok e) = Ok (ref.New slot p n)
    go (Err r) = Err r

unfoldable pub new_at : List ℕ → (wide slot p : ℕ) → Result Reference Refusal
new_at b wide slot p = number_then (Err refusal.Eof) wide b (named b slot) p

-- "an old one only its slot"
unfoldable pub reference_at : List ℕ → Bool → (wide p : ℕ) → Result Reference Refusal
reference_at b new wide p = number_then (Err refusal.Eof) 1 b (λ slot q. cond new (new_at b wide slot q) (Ok (ref.Old slot))) p

-- what a header says: its references in order, up to the first refusal; and where the rest begins, or that refusal
pub record Said : Type 0 where
  pub references : List Reference
  pub rest : Result ℕ Refusal

-- no reference more; a reference, and what stands behind it
abbrev pub ending : Result ℕ Refusal → Said
ending rest = record { references = []; rest = rest }

abbrev pub passed : Reference → Said → Said
passed r s = record { references = r ∷ s.references; rest = s.rest }

-- the place behind a reference at p
abbrev pub past : ℕ → Reference → ℕ
past p (ref.Old slot) = p + 1
past p (ref.New slot at n) = at + n

unfoldable pub behind : ℕ → (ℕ → Said) → Result Reference Refusal → Said
behind p more (Ok r) = passed r (more (past p r))
behind p more (Err r) = ending (Err r)

-- k references from p on, of which the first is reference i
unfoldable pub references : List ℕ → (wide i k p : ℕ) → Said
references b wide i zero p = ending (Ok p)
references b wide i (suc k) p = behind p (references b wide (i + 1) k) (reference_at b (is_new b i) wide p)

-- the references of a header, by how it begins, and the whole header
abbrev pub referred : List ℕ → Opening → Said
referred b o = references b (cond o.long 2 1) 0 o.count o.first

unfoldable pub opened : List ℕ → Result Opening Refusal → Said
opened b (Ok o) = referred b o
opened b (Err r) = ending (Err r)

unfoldable pub header_of : List ℕ → Said
header_of b = opened b (start_of b)

-- the slots of references in order, old ones included: what a term behind the header refers to by its position
abbrev pub slot_of : Reference → ℕ
slot_of (ref.Old slot) = slot
slot_of (ref.New slot at n) = slot

abbrev pub slots_of : List Reference → List ℕ
slots_of rs = map slot_of rs
