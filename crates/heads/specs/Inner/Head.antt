-- What a head answers, as the code finds it: "the tag and all its row names but children, byte runs and ids by place" (document 01), row by
-- row in its words. It is what agree/specs/Head.antt says, by `head-is` in agree/proofs/HeadIs.antt, so nobody has to believe it.
-- `at` is a term's start. Which rows without children are refused, and why, is said in the specs of `rows`.
use Rattle.std.specs.Prelude.{ℕ, ◌+◌, ◌*◌, List, cond, not, ◌||◌, eqb, ltb, pos, length, get_or, take, drop, Option, Some, None, Result, Ok, Err}
use Rattle.std.specs.Float.{binary64}
use Rattle.std.specs.Float.Ieee.{of_bits}
use Rattle.std.specs.Option.{ok_or}
use Rattle.fields.specs.Be.{signed}
use Rattle.fields.specs.Field.{holds, number_then, number_at}
use Rattle.literal.specs.Inner.Trim.{trimmed}
use Rattle.numbers.specs.Caps as cap
use Rattle.numbers.specs.declared.Refusal.{Refusal}
use Rattle.numbers.specs.declared.Refusal.TheVariants as refusal
use Rattle.rows.specs.Row.{Row, count_then}
use Rattle.rows.specs.Layout as layout
use Rattle.heads.specs.declared.Value.{Value}
use Rattle.heads.specs.declared.Value.TheVariants as value
use Rattle.heads.specs.declared.Run.{Run}
use Rattle.heads.specs.declared.Refused.{Refused}
use Rattle.heads.specs.declared.Headed.{Headed}
use Rattle.heads.specs.Inner.Run.{run_of, part_of}

-- why, and where
abbrev pub refused : Refusal → ℕ → Refused
refused r o = record { why = r; offset = o }

abbrev pub no : Refusal → ℕ → Result Value Refused
no r o = Err (refused r o)

abbrev pub run : ℕ → ℕ → Run
run p n = record { at = p; len = n }

-- "31 bytes of text": "The base gives the trimmed text's place, not its number"
unfoldable pub number_text : List ℕ → ℕ → Value
number_text b p = value.NumberText (run p (trimmed (take 31 (drop p b))))

-- "8 bytes, a double's bits, kept exactly"
unfoldable pub double : List ℕ → ℕ → Value
double b p = value.Double (of_bits binary64 (number_at 8 b p)) (number_at 8 b p)

-- "sign byte (nonzero is negative), n digit bytes"
unfoldable pub big : List ℕ → ℕ → ℕ → Value
big b q n = value.Big (run (q + 1) n) (number_at 1 b q) (not (eqb (number_at 1 b q) 0))

-- the bytes behind their number, which has k bytes
abbrev pub behind : ℕ → List ℕ → ℕ → Run
behind k b p = run (p + k) (number_at k b p)

-- the fields of the rows without children, in document 01's order; `p` is the place behind the tag, and the last of these tags is 111
unfoldable pub fixed : List ℕ → ℕ → ℕ → Value
fixed b tag p =
    cond (eqb tag 97) (value.Integer (pos (number_at 1 b p)))
    (cond (eqb tag 98) (value.Integer (signed (number_at 4 b p)))
    (cond (eqb tag 99) (number_text b p)
    (cond (eqb tag 70) (double b p)
    (cond (eqb tag 100 || eqb tag 118) (value.Atom (behind 2 b p))
    (cond (eqb tag 119) (value.Atom (behind 1 b p))
    (cond (eqb tag 106) value.Nil
    (cond (eqb tag 107) (value.String (behind 2 b p))
    (cond (eqb tag 109) (value.Binary (behind 4 b p))
    (cond (eqb tag 77) (value.BitString (run (p + 5) (number_at 4 b p)) (number_at 1 b (p + 4)))
    (cond (eqb tag 110) (big b (p + 1) (number_at 1 b p))
    (big b (p + 4) (number_at 4 b p))))))))))))

-- what is there of the row of a term that starts at `at`; it "refuses as reading would", a tag that has no row too
abbrev pub if_there : {A : Type 0} → Row → ℕ → A → Result A Refused
if_there (Ok e) at v = Ok v
if_there (Err r) at v = Err (refused r at)

-- a row without children has its fields
unfoldable pub row_value : List ℕ → ℕ → ℕ → Result Value Refused
row_value b tag at = if_there (layout.row_at b tag (at + 1)) at (fixed b tag (at + 1))

-- a count of 4 bytes within its cap, behind the tag
unfoldable pub count : ℕ → List ℕ → ℕ → Result ℕ Refused
count most b at = count_then (λ r. Err (refused r at)) most b (λ n q. Ok n) (at + 1)

abbrev pub and_then : {A B : Type 0} → Result A Refused → (A → Result B Refused) → Result B Refused
and_then (Ok x) f = f x
and_then (Err e) f = Err e

abbrev pub counted : ℕ → List ℕ → ℕ → (ℕ → Value) → Result Value Refused
counted most b at f = and_then (count most b at) (λ n. Ok (f n))

-- "arity of 1 byte"
unfoldable pub small_tuple : List ℕ → ℕ → Result Value Refused
small_tuple b at = number_then (no refusal.Eof at) 1 b (λ n q. Ok (value.Tuple n)) (at + 1)

-- "the atom of 88, 90 and 120 (a place too), where a child tag other than 100, 118, 119 is Tag at once": the name of the child at c
unfoldable pub node : List ℕ → ℕ → Result Run Refused
node b c =
    let tag = get_or b c 0 in
    cond (ltb c (length b))
    (cond (eqb tag 100 || eqb tag 118) (if_there (layout.row_at b tag (c + 1)) c (behind 2 b (c + 1)))
    (cond (eqb tag 119) (if_there (layout.row_at b tag (c + 1)) c (behind 1 b (c + 1)))
    (Err (refused refusal.Tag c))))
    (Err (refused refusal.Eof c))

-- numbers of k bytes, all of which have to be there
abbrev pub sized : ℕ → List ℕ → ℕ → (ℕ → Option Value) → Option Value
sized k b p f = number_then None k b (λ n q. f n) p

-- where one is missing, that is Eof at the last term reached
abbrev pub or_eof : Option Value → ℕ → Result Value Refused
or_eof v o = ok_or v (refused refusal.Eof o)

-- "atom child, id, serial, creation, 4 bytes each"
unfoldable pub pid_numbers : List ℕ → Run → Option Value
pid_numbers b r =
    let q = r.at + r.len in
    sized 4 b q (λ id. sized 4 b (q + 4) (λ serial. sized 4 b (q + 8) (λ creation. Some (value.Pid r id serial creation))))

unfoldable pub pid : List ℕ → ℕ → Result Value Refused
pid b at = and_then (node b (at + 1)) (λ r. or_eof (pid_numbers b r) (at + 1))

-- "count of 2 bytes, atom child, creation 4, count ids of 4"
unfoldable pub reference_numbers : List ℕ → ℕ → Run → Option Value
reference_numbers b k r =
    let q = r.at + r.len in
    sized 4 b q (λ creation. cond (holds (k * 4) b (q + 4)) (Some (value.Reference k r creation (q + 4))) None)

unfoldable pub reference : List ℕ → ℕ → Result Value Refused
reference b at = number_then (no refusal.Eof at) 2 b (λ k q. and_then (node b (at + 3)) (λ r. or_eof (reference_numbers b k r) (at + 3))) (at + 1)

-- "atom child, id 8, creation 4"
unfoldable pub port_numbers : List ℕ → Run → Option Value
port_numbers b r =
    let q = r.at + r.len in
    sized 8 b q (λ id. sized 4 b (q + 8) (λ creation. Some (value.Port r id creation)))

unfoldable pub port : List ℕ → ℕ → Result Value Refused
port b at = and_then (node b (at + 1)) (λ r. or_eof (port_numbers b r) (at + 1))

-- "size 4 (ignored), arity 1, 16 bytes, index 4, free count 4"
unfoldable pub function : List ℕ → ℕ → Option Value
function b p =
    sized 4 b p (λ size. sized 1 b (p + 4) (λ arity.
    sized 4 b (p + 21) (λ index. sized 4 b (p + 25) (λ free. Some (value.Function size arity (p + 5) index free)))))

-- the rows with children, and all others
unfoldable pub term : List ℕ → ℕ → ℕ → Result Value Refused
term b tag at =
    cond (eqb tag 104) (small_tuple b at)
    (cond (eqb tag 105) (counted cap.elements b at value.Tuple)
    (cond (eqb tag 108) (counted cap.elements b at value.List)
    (cond (eqb tag 116) (counted cap.pairs b at value.Map)
    (cond (eqb tag 88) (pid b at)
    (cond (eqb tag 90) (reference b at)
    (cond (eqb tag 120) (port b at)
    (cond (eqb tag 113) (Ok value.Export)
    (cond (eqb tag 112) (or_eof (function b (at + 1)) at)
    (row_value b tag at)))))))))

-- "A head reader takes bytes and any offset": over 16,777,216 bytes Long, at the end or past it Eof, and then by the tag
unfoldable pub head_at : List ℕ → ℕ → Headed
head_at b at =
    cond (ltb cap.input (length b)) (record { tag = 0; value = no refusal.Long 0 })
    (cond (ltb at (length b))
    (record { tag = get_or b at 0; value = term b (get_or b at 0) at })
    (record { tag = 0; value = no refusal.Eof at }))

-- the second call
unfoldable pub part_at : List ℕ → ℕ → List ℕ
part_at b at = part_of b (run_of (head_at b at).value)
