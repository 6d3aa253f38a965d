-- What an atom header leaves of a cache in slots. Document 01, "Name cache".
use Rattle.std.specs.Prelude.{ℕ, List, cond, eqb, length, Err}
use Rattle.numbers.specs.declared.Refusal.TheVariants as refusal
use Rattle.references.specs.declared.Opening.{Opening}
use Rattle.references.specs.Header.{referred, header_of}
use Rattle.names.specs.Form.{Left, left, over}
use Rattle.cache.specs.declared.Cache.{Cache}
use Rattle.cache.specs.Names.{store_bytes, Slots, slots}
use Rattle.header.specs.declared.HeaderRead.{HeaderRead}

-- "Order: .. Store, Long, then reading left to right"
unfoldable pub header_over : List ℕ → Cache → List ℕ → Left Slots
header_over b c s =
    let cache : Slots = record { cache = c; store = s } in
    cond (eqb (length s) store_bytes) (over slots b (header_of b) cache) (left (Err refusal.Store) cache)

-- the same of its references alone, by how it begins
abbrev pub referred_over : List ℕ → Opening → Cache → List ℕ → Left Slots
referred_over b o c s = over slots b (referred b o) (record { cache = c; store = s })

-- what is answered of it: the rest and the record. The store is lent
abbrev pub answer_of : Left Slots → HeaderRead
answer_of l = record { rest = l.rest; cache = l.cache.cache }
