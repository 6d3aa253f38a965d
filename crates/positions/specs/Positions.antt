-- The names that a term behind a header refers to by their positions in it, where the cache is slots: what is noted of a header, and what a position
-- answers. Document 02, P3.
use Rattle.std.specs.Prelude.{ℕ, ◌+◌, List, ◌∷◌, cond, eqb, ltb, length, get_or, Result, Ok, Err}
use Rattle.std.proofs.lemmas.List.Edits.{sets}
use Rattle.numbers.specs.Caps as cap
use Rattle.numbers.specs.declared.Refusal.{Refusal}
use Rattle.numbers.specs.declared.Refusal.TheVariants as refusal
use Rattle.fields.specs.Field.{number_then, byte_then}
use Rattle.cache.specs.Names.{store_bytes, got_at}
use Rattle.cache.specs.declared.Name.{Name}

-- "a position in this header's list of references, old ones included": a run of bytes keeps how many they are, and behind that the slot of each. What
-- lies behind those stays
unfoldable pub noted : (slots run : List ℕ) → List ℕ
noted slots run = sets run 0 (length slots ∷ slots)

-- the name at position k, as the cache answers for a slot: its place and its length, or Store, or Absent for "a position past the list or an empty slot"
unfoldable pub position_in : (words store run : List ℕ) → ℕ → Result Name Refusal
position_in words store run k =
    cond (eqb (length store) store_bytes)
    (cond (ltb k (get_or run 0 0)) (got_at words store (get_or run (k + 1) 0)) (Err refusal.Absent))
    (Err refusal.Store)

-- "tag 82 and one byte is also an atom": the position that the one at a place of the input has. Another tag there is Tag
unfoldable pub position_of : List ℕ → ℕ → Result ℕ Refusal
position_of b at =
    let missing = Err refusal.Eof in
    cond (ltb cap.input (length b)) (Err refusal.Long)
    (byte_then missing (λ _. Err refusal.Tag) 82 b (number_then missing 1 b (λ k _. Ok k)) at)

-- and its name, for a place that a cell of tag 82 has. "Order: .. Store, Long, then reading left to right" (document 01)
abbrev pub asked : (words store run : List ℕ) → Result ℕ Refusal → Result Name Refusal
asked words store run (Ok k) = position_in words store run k
asked words store run (Err r) = Err r

unfoldable pub cell_in : (b words store run : List ℕ) → (at : ℕ) → Result Name Refusal
cell_in b words store run at = cond (eqb (length store) store_bytes) (asked words store run (position_of b at)) (Err refusal.Store)
