-- A header and one term to the input's end: what stands before the term, and what a read leaves. Document 02, P3.
use Rattle.std.specs.Prelude.{ℕ, ◌<◌, ◌≡◌, List, Bool, true, cond, ◌||◌, eqb, ltb, length, Result, Ok, Err, is_ok}
use Rattle.numbers.specs.Caps as cap
use Rattle.numbers.specs.Refusal.{number_of, extra_of}
use Rattle.numbers.specs.declared.Refusal.{Refusal}
use Rattle.numbers.specs.declared.Refusal.TheVariants as refusal
use Rattle.numbers.specs.Allowed.{Allowed}
use Rattle.references.specs.declared.Opening.{Opening}
use Rattle.references.specs.Header.{segment, one_segment, start_of, header_of, slots_of}
use Rattle.names.specs.Form.{Held, Form, Left, left, over}
use Rattle.names.specs.Positions.{known_at}
use Rattle.cache.specs.declared.Cache.{Cache}
use Rattle.cache.specs.Names.{store_bytes, Slots, slots}
use Rattle.positions.specs.Positions.{noted}
use Rattle.header.specs.Header.{header_over}
use Rattle.tape.specs.Read.{Before, refuses, opens, Accepted}

-- "18 Segment where a segment number is not 0, found before any name is stored and after the flag bytes are present": whether there is none
unfoldable pub flat : List ℕ → Result Opening Refusal → Bool
flat b (Ok o) = one_segment b o.count
flat b (Err r) = true

-- the header over a cache of any form: else as the header reader has it
unfoldable pub headed : (F : Form) → List ℕ → F.State → Left F.State
headed F b s = cond (flat b (start_of b)) (over F b (header_of b) s) (left (Err refusal.Segment) s)

-- "the byte is a position in this header's list of references, old ones included .. looked up after the whole header": what is allowed in the
-- term behind a header, where the slots hold what `held` says
unfoldable pub allowed_in : (ℕ → Held) → List ℕ → Allowed
allowed_in held b = record { texts = true; names = true; known = known_at held (slots_of (header_of b).references) }

-- what stands before the term, by what the header left
abbrev pub before : Allowed → Result ℕ Refusal → Before
before allow (Ok rest) = opens rest allow
before allow (Err r) = refuses (number_of r) (extra_of r)

unfoldable pub message_before : (F : Form) → List ℕ → Left F.State → Before
message_before F b l = before (allowed_in (F.held l.cache) b) l.rest

-- the same over slots. "Order: Limit, Store, Long, then reading left to right" (document 01); Long is the header's first
unfoldable pub message_over : List ℕ → ℕ → Cache → List ℕ → Left Slots
message_over b limit c s =
    let cache : Slots = record { cache = c; store = s } in
    cond (eqb limit 0 || ltb cap.nesting limit) (left (Err refusal.Limit) cache)
    (cond (eqb (length s) store_bytes) (headed slots b cache) (left (Err refusal.Store) cache))

-- the run that keeps the last header's positions: a header that was read to its end is noted, whatever became of its term
unfoldable pub noted_by : List ℕ → Left Slots → List ℕ → List ℕ
noted_by b l run = cond (is_ok l.rest) (noted (slots_of (header_of b).references) run) run

-- "State demand 3 once for both readings .. with, for byte 131 here, a header that the header reader accepts on the same cache and whose segment
-- numbers are all 0": such a header, and no more
pub record IsHeader (front : List ℕ) (c : Cache) (s : List ℕ) : Type 0 where
  pub whole : (header_over front c s).rest ≡ Ok (length front)
  pub segments : (i : ℕ) → i < length (slots_of (header_of front).references) → segment front i ≡ 0

-- an accepted message: such a header, and one whole term as the layouts describe it, over the positions of that header
pub record AcceptedMessage (b : List ℕ) (limit : ℕ) (c : Cache) (s : List ℕ) (words : ℕ) : Type 0 where
  pub front : List ℕ
  pub header : IsHeader front c s
  pub term : Accepted (allowed_in (slots.held (header_over front c s).cache) front) front b limit words
