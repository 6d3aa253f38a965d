-- Which names a term behind a header may refer to, whatever the form of cache. Document 02, P3.
use Rattle.std.specs.Prelude.{ℕ, List, Bool, false, cond, ltb, length, get_or, is_some}
use Rattle.names.specs.Form.{Held}

-- "the byte is a position in this header's list of references, old ones included", "looked up after the whole header": whether position k is known,
-- of references with these slots in order, where the slots hold what `held` says. "A position past the list or an empty slot" is not
unfoldable pub known_at : (ℕ → Held) → List ℕ → ℕ → Bool
known_at held slots k = cond (ltb k (length slots)) (is_some (held (get_or slots k 0))) false
