-- How many bytes are left of a text without its trailing zero bytes, as it is computed: the one number of which Trimmed holds (proofs/Trims.antt).
use Rattle.std.specs.Prelude.{cond, ◌&&◌, List, [], ◌∷◌, ℕ, suc, eqb}

unfoldable pub trimmed : List ℕ → ℕ
trimmed [] = 0
trimmed (x ∷ s) = cond (eqb (trimmed s) 0 && eqb x 0) 0 (suc (trimmed s))
