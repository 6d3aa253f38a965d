-- Document 01's term layouts: the rows without children, in its order and words. `p` is the place behind the tag.
use Rattle.std.specs.Prelude.{ℕ, List, cond, ◌||◌, eqb, take, drop, Ok}
use Rattle.literal.specs.Inner.Trim.{trimmed}
use Rattle.literal.specs.Inner.Parse.{is_literal}
use Rattle.numbers.specs.declared.Refusal.TheVariants as refusal
use Rattle.numbers.specs.Caps as cap
use Rattle.numbers.specs.Allowed.{Allowed}
use Rattle.rows.specs.Row.{Row, no, and_then, bytes, sized, name, counted}

-- "31 bytes of text": "checked as UTF-8, loses trailing zero bytes, and must then read as a Rust f64 literal"
unfoldable pub number_text : List ℕ → ℕ → Row
number_text b p =
    let text = take 31 (drop p b) in
    and_then (name b 31 p) (λ e. cond (is_literal (take (trimmed text) text)) (Ok e) (no refusal.Literal))

-- "length of 4 bytes, bits byte, bytes"; "length cap first, bits next, bytes last": behind the length
unfoldable pub bits_then : List ℕ → ℕ → ℕ → Row
bits_then b n p = sized 1 b (λ k q. cond (cap.bits_byte n k) (bytes b n q) (no refusal.Bits)) p

-- "sign byte (nonzero is negative), n digit bytes, least first"
unfoldable pub digits : List ℕ → ℕ → ℕ → Row
digits b n p = and_then (bytes b 1 p) (bytes b n)

unfoldable pub row_at : List ℕ → ℕ → ℕ → Row
row_at b tag p =
    cond (eqb tag 97) (bytes b 1 p)
    (cond (eqb tag 98) (bytes b 4 p)
    (cond (eqb tag 99) (number_text b p)
    (cond (eqb tag 70) (bytes b 8 p)
    (cond (eqb tag 100 || eqb tag 118) (sized 2 b (name b) p)
    (cond (eqb tag 119) (sized 1 b (name b) p)
    (cond (eqb tag 106) (Ok p)
    (cond (eqb tag 107) (sized 2 b (bytes b) p)
    (cond (eqb tag 109) (counted cap.binary b (bytes b) p)
    (cond (eqb tag 77) (counted cap.binary b (bits_then b) p)
    (cond (eqb tag 110) (sized 1 b (digits b) p)
    (cond (eqb tag 111) (sized 4 b (digits b) p)
    (no refusal.Tag))))))))))))

-- document 02, P3: "tag 82 and one byte is also an atom", where the byte is a position that is known; elsewhere it is Tag
unfoldable pub position_at : Allowed → List ℕ → ℕ → Row
position_at allow b p =
    cond allow.names (sized 1 b (λ k q. cond (allow.known k) (bytes b 0 q) (no refusal.Tag)) p) (no refusal.Tag)

-- the rows without children of what is allowed: 82, and 99 where it is read
unfoldable pub leaf_at : Allowed → List ℕ → ℕ → ℕ → Row
leaf_at allow b tag p =
    cond (eqb tag 82) (position_at allow b p)
    (cond (eqb tag 99) (cond allow.texts (number_text b p) (no refusal.Tag))
    (row_at b tag p))
