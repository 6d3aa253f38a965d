-- The numbers the jig shows (documents 01 and 02), by name, and the list of those that a refusal may bear.
use Rattle.std.specs.Prelude.{ℕ, ◌≡◌, List, [], ◌∷◌, Bool, true, false, ◌||◌, eqb}

abbrev pub Done : ℕ
Done = 0

abbrev pub Eof : ℕ
Eof = 1

abbrev pub Tag : ℕ
Tag = 2

abbrev pub Text : ℕ
Text = 3

abbrev pub Literal : ℕ
Literal = 4

abbrev pub Bits : ℕ
Bits = 5

abbrev pub Size : ℕ
Size = 6

abbrev pub Trailing : ℕ
Trailing = 7

abbrev pub Deep : ℕ
Deep = 8

abbrev pub Room : ℕ
Room = 9

abbrev pub Long : ℕ
Long = 10

abbrev pub Name : ℕ
Name = 11

abbrev pub Version : ℕ
Version = 12

abbrev pub Kind : ℕ
Kind = 13

abbrev pub Limit : ℕ
Limit = 14

abbrev pub Store : ℕ
Store = 15

abbrev pub Absent : ℕ
Absent = 16

-- document 02's, from here on
abbrev pub Items : ℕ
Items = 17

abbrev pub Segment : ℕ
Segment = 18

-- "A refusal bears a number from document 01 or 02": a request adds its own, in a line before the last
abbrev pub refusals : List ℕ
refusals =
    Eof ∷ Tag ∷ Text ∷ Literal ∷ Bits ∷ Size ∷ Trailing ∷ Deep ∷ Room ∷ Long ∷ Name ∷ Version ∷ Kind ∷ Limit ∷ Store ∷ Absent ∷
    Items ∷ Segment ∷
    []

-- whether a number stands in a list, and that it is a refusal's
unfoldable pub among : ℕ → List ℕ → Bool
among n [] = false
among n (m ∷ l) = eqb n m || among n l

abbrev pub Listed : ℕ → Type 0
Listed n = among n refusals ≡ true
