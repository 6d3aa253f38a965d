-- What reading answers on document 01's records, as the definition computes it; each shuts out a wrong reading that it names. The reading
-- is of the term behind byte 131, so the place is 1. At the end, answers that `refusal` may not give. Assumes nothing.
use Prim.Native.Nat.{ℕ}
use native.Mathlib.Omega.{arith}
use mathlib.Core.Path.{◌≡◌, refl, ap}
use mathlib.Core.List.{List, [], ◌∷◌}
use Rattle.fields.specs.Be.{be, be_at}
use Rattle.fields.specs.Field.{holds, field_at, number_then}
use Rattle.utf8.specs.Unicode.{scalar, encode}
use Rattle.utf8.specs.Inner.Find.{decode, starts, char_bytes, good_from, good_bytes}
use Rattle.numbers.specs.Numbers as number
use Rattle.rows.specs.Row as row
use Rattle.numbers.specs.Allowed.{plain}
use Rattle.rows.specs.Layout.{leaf_at, row_at}
use Rattle.reading.specs.Told.{Told}
use Rattle.reading.specs.declared.Kind.{Kind}
use Rattle.reading.specs.declared.Kind.TheVariants as kind
use Rattle.reading.specs.declared.Segment.{Segment}
use Rattle.reading.specs.Reading.{State, Result, done, no, and_then, entered, fields, pass, sized, counted}
use Rattle.reading.specs.Terms.{elems, pair, pairs, required, is_atom, is_natural, is_pid, small_tuple, large_tuple, list, map, pid, reference, export, captured, function, body, term}
use Rattle.reading.specs.Answer.{refusal}

-- reading behind byte 131. `unfolding behind` opens all that it computes with
unfoldable pub behind : List ℕ → ℕ → Result
unfolding be be_at holds field_at scalar encode decode starts char_bytes good_from good_bytes row.bytes row.name row.count_then number_then leaf_at row_at and_then entered fields pass sized counted elems pair pairs required is_atom is_natural is_pid small_tuple large_tuple list map pid reference export captured function body term
behind b limit = term plain b limit limit (record { at = 1; last = 0; begun = 0; deepest = 0 })

-- where reading stands: the next byte, the last start, the terms begun, the deepest nesting
abbrev pub stands : ℕ → ℕ → ℕ → ℕ → State
stands p last begun deepest = record { at = p; last = last; begun = begun; deepest = deepest }

abbrev pub segment : Kind → ℕ → Segment
segment k n = record { kind = k; number = n }

-- 131: Eof at 1
pub nothing : behind (131 ∷ []) 64 ≡ no 1 0 (stands 1 1 0 0) []
unfolding behind
nothing = refl

-- 131 106: Done
pub nil : behind (131 ∷ 106 ∷ []) 64 ≡ done (stands 2 1 1 1)
unfolding behind
nil = refl

-- 131 104 2 97 5: Eof, offset 5, path tuple:1, terms 2. A reader that refuses an arity over the bytes left before the first child, or
-- sets the offset only once a byte is there, answers another offset
pub second_missing : behind (131 ∷ 104 ∷ 2 ∷ 97 ∷ 5 ∷ []) 64 ≡ no 1 0 (stands 5 5 2 2) (segment kind.Tuple 1 ∷ [])
unfolding behind
second_missing = refl

-- 131 88 104 2 106 106: Tag, offset 5, path empty, terms 4. A reader that judges a child's tag before it is read begins one term only, and
-- one that enters a segment for a pid's atom has a path
pub pid_of_tuple : behind (131 ∷ 88 ∷ 104 ∷ 2 ∷ 106 ∷ 106 ∷ []) 64 ≡ no 2 0 (stands 6 5 4 3) []
unfolding behind
pid_of_tuple = refl

-- 131 88: Eof at the atom child's start, path empty: none is entered for it
pub atom-missing : behind (131 ∷ 88 ∷ []) 64 ≡ no 1 0 (stands 2 2 1 1) []
unfolding behind
atom-missing = refl

-- 131 88 119 1 97: Eof at the atom child's start, not at the pid's own
pub id_missing : behind (131 ∷ 88 ∷ 119 ∷ 1 ∷ 97 ∷ []) 64 ≡ no 1 0 (stands 5 2 2 2) []
unfolding behind
id_missing = refl

-- 131 104 1 106, limit 1: Deep at 3, path tuple:0; a start that is refused is neither counted nor nested; limit 2: Done
pub too_deep : behind (131 ∷ 104 ∷ 1 ∷ 106 ∷ []) 1 ≡ no 8 0 (stands 3 3 1 1) (segment kind.Tuple 0 ∷ [])
unfolding behind
too_deep = refl

pub deep_enough : behind (131 ∷ 104 ∷ 1 ∷ 106 ∷ []) 2 ≡ done (stands 4 3 2 2)
unfolding behind
deep_enough = refl

-- 131 108 0 152 150 128: Eof at 6, path list:0; last byte 129: Size at 1
pub list-at_cap : behind (131 ∷ 108 ∷ 0 ∷ 152 ∷ 150 ∷ 128 ∷ []) 64 ≡ no 1 0 (stands 6 6 1 1) (segment kind.List 0 ∷ [])
unfolding behind
list-at_cap = refl

pub list-over_cap : behind (131 ∷ 108 ∷ 0 ∷ 152 ∷ 150 ∷ 129 ∷ []) 64 ≡ no 6 0 (stands 2 1 1 1) []
unfolding behind
list-over_cap = refl

-- 131 116 0 15 66 65: Size
pub map-over_cap : behind (131 ∷ 116 ∷ 0 ∷ 15 ∷ 66 ∷ 65 ∷ []) 64 ≡ no 6 0 (stands 2 1 1 1) []
unfolding behind
map-over_cap = refl

-- a map's value that is missing: its segment has the key's offset
pub value-missing : behind (131 ∷ 116 ∷ 0 ∷ 0 ∷ 0 ∷ 1 ∷ 97 ∷ 1 ∷ []) 64 ≡ no 1 0 (stands 8 8 2 2) (segment kind.Value 6 ∷ [])
unfolding behind
value-missing = refl

-- what `refusal` may not answer: no extra where one was given, as by Trailing with a byte left; a segment; the counts exchanged
pub extra_dropped : {r : Told} → r.extra ≡ 0 → ¬ (r ≡ refusal number.Trailing 2 1 1 1 [])
extra_dropped h e = omega (arith, h, ap (λ (a : Told). a.extra) e)

pub some-segment : {r : Told} {n o x c d : ℕ} → r.len ≡ 1 → ¬ (r ≡ refusal n o x c d [])
some-segment h e = omega (arith, h, ap (λ (a : Told). a.len) e)

pub counts_exchanged : {r : Told} {n o x c d : ℕ} → ¬ (c ≡ d) → r.begun ≡ d → ¬ (r ≡ refusal n o x c d [])
counts_exchanged k h e = k (omega (arith, h, ap (λ (a : Told). a.begun) e))
