-- What a head answers, in document 01's two sentences: its fields by place, and when it is refused, by what reading answers at the same place.
use Rattle.std.specs.Prelude.{ℕ, ◌+◌, List, Bool, cond, not, ◌&&◌, ◌||◌, eqb, ltb, pos, length, get_or, take, drop, Ok, Err}
use Rattle.std.specs.Float.{binary64}
use Rattle.std.specs.Float.Ieee.{of_bits}
use Rattle.fields.specs.Be.{signed}
use Rattle.fields.specs.Field.{number_at}
use Rattle.literal.specs.Inner.Trim.{trimmed}
use Rattle.numbers.specs.Caps as cap
use Rattle.numbers.specs.Numbers as number
use Rattle.reading.specs.Told as reading
use Rattle.reading.specs.Answer.{read_at}
use Rattle.reading.specs.Terms.{is_atom}
use Rattle.heads.specs.declared.Value.{Value}
use Rattle.heads.specs.declared.Value.TheVariants as value
use Rattle.heads.specs.declared.Run.{Run}
use Rattle.heads.specs.Told.{Told}

-- bytes by their place and their number
abbrev pub run : ℕ → ℕ → Run
run p n = record { at = p; len = n }

-- "the atom of 88, 90 and 120 (a place too)": which tags have one, and where it starts in a term that starts at `at`
unfoldable pub has_atom : ℕ → Bool
has_atom tag = eqb tag 88 || eqb tag 90 || eqb tag 120

unfoldable pub atom_at : ℕ → ℕ → ℕ
atom_at tag at = cond (eqb tag 90) (at + 3) (at + 1)

-- "length of 2 / 1 bytes, name": how wide the length of an atom with this tag is; and of an atom that starts at c, its name by place and length
unfoldable pub length_bytes : ℕ → ℕ
length_bytes tag = cond (eqb tag 119) 1 2

unfoldable pub name_place : ℕ → ℕ → ℕ
name_place tag c = c + 1 + length_bytes tag

unfoldable pub name_length : List ℕ → ℕ → ℕ → ℕ
name_length b tag c = number_at (length_bytes tag) b (c + 1)

-- "integer, double (as a float), atom, binary or other fixed fields: the tag and all its row names but children, byte runs and ids by place":
-- the rows in document 01's order, of which the last is 112. A field begins at p, behind the tag, and the numbers behind an atom at q
unfoldable pub fields_at : List ℕ → ℕ → ℕ → Value
fields_at b tag at =
    let p = at + 1 in
    let c = atom_at tag at in
    let s = name_place (get_or b c 0) c in
    let n = name_length b (get_or b c 0) c in
    let q = s + n in
    cond (eqb tag 97) (value.Integer (pos (number_at 1 b p)))
    (cond (eqb tag 98) (value.Integer (signed (number_at 4 b p)))
    (cond (eqb tag 99) (value.NumberText (run p (trimmed (take 31 (drop p b)))))
    (cond (eqb tag 70) (value.Double (of_bits binary64 (number_at 8 b p)) (number_at 8 b p))
    (cond (eqb tag 100 || eqb tag 118 || eqb tag 119) (value.Atom (run (name_place tag at) (name_length b tag at)))
    (cond (eqb tag 104) (value.Tuple (number_at 1 b p))
    (cond (eqb tag 105) (value.Tuple (number_at 4 b p))
    (cond (eqb tag 106) value.Nil
    (cond (eqb tag 107) (value.String (run (p + 2) (number_at 2 b p)))
    (cond (eqb tag 108) (value.List (number_at 4 b p))
    (cond (eqb tag 109) (value.Binary (run (p + 4) (number_at 4 b p)))
    (cond (eqb tag 77) (value.BitString (run (p + 5) (number_at 4 b p)) (number_at 1 b (p + 4)))
    (cond (eqb tag 110) (value.Big (run (p + 2) (number_at 1 b p)) (number_at 1 b (p + 1)) (not (eqb (number_at 1 b (p + 1)) 0)))
    (cond (eqb tag 111) (value.Big (run (p + 5) (number_at 4 b p)) (number_at 1 b (p + 4)) (not (eqb (number_at 1 b (p + 4)) 0)))
    (cond (eqb tag 116) (value.Map (number_at 4 b p))
    (cond (eqb tag 88) (value.Pid (run s n) (number_at 4 b q) (number_at 4 b (q + 4)) (number_at 4 b (q + 8)))
    (cond (eqb tag 90) (value.Reference (number_at 2 b p) (run s n) (number_at 4 b q) (q + 4))
    (cond (eqb tag 120) (value.Port (run s n) (number_at 8 b q) (number_at 4 b (q + 8)))
    (cond (eqb tag 113) value.Export
    (value.Function (number_at 4 b p) (number_at 1 b (p + 4)) (p + 5) (number_at 4 b (p + 21)) (number_at 4 b (p + 25)))))))))))))))))))))

-- "where a child tag other than 100, 118, 119 is Tag at once": a child is there, and its tag is another. Plain reading refuses 82 as Tag there, so that it
-- needs no word here
unfoldable pub at_once : List ℕ → ℕ → ℕ → Bool
at_once b tag at = ltb (atom_at tag at) (length b) && has_atom tag && not (is_atom b (atom_at tag at))

-- "A refusal's offset is the start of the last term reached": the last was the term itself or its atom, and no child that a head doesn't read
unfoldable pub own_offset : ℕ → ℕ → ℕ → Bool
own_offset tag at o = eqb o at || has_atom tag && eqb o (atom_at tag at)

-- "takes bytes and any offset"; "It refuses as reading would", where reading answers a: an input that is too long isn't read at all; at an
-- offset of its own. Else, where reading is refused further on or is Done, it says what its row does
unfoldable pub head_then : {A : Type 0} → (refuse : ℕ → ℕ → ℕ → A) → (says : ℕ → A) → List ℕ → ℕ → reading.Told → A
head_then refuse says b at a =
    let tag = get_or b at 0 in
    let refused = refuse a.number a.offset a.extra in
    cond (ltb cap.input (length b)) refused
    (cond (at_once b tag at) (refuse number.Tag (atom_at tag at) 0)
    (cond (not (eqb a.number 0) && own_offset tag at a.offset) refused
    (says tag)))

-- the tag is 0 where no byte was read
unfoldable pub head_of : List ℕ → ℕ → ℕ × Told
head_of b at = (cond (ltb cap.input (length b)) 0 (get_or b at 0), head_then (λ n o x. Err (n, o, x)) (λ tag. Ok (fields_at b tag at)) b at (read_at b at cap.nesting))

-- "A second call returns an atom's or binary's (tag 109) part of the input, else an empty part": its place and its length, and its bytes
unfoldable pub run_by : List ℕ → ℕ → ℕ → ℕ × ℕ
run_by b at tag =
    cond (eqb tag 100 || eqb tag 118 || eqb tag 119) (name_place tag at, name_length b tag at)
    (cond (eqb tag 109) (at + 1 + 4, number_at 4 b (at + 1))
    (0, 0))

unfoldable pub run_at : List ℕ → ℕ → ℕ × ℕ
run_at b at = head_then (λ n o x. (0, 0)) (run_by b at) b at (read_at b at cap.nesting)

unfoldable pub part : List ℕ → ℕ → List ℕ
part b at = take (run_at b at).1 (drop (run_at b at).0 b)
