-- Lists whose numbers are all below a bound, as a run of bytes or of words is: writes of such numbers keep it so. Assumes nothing.
use Prim.Native.Nat.{ℕ, zero, suc, ◌<◌}
use mathlib.Core.List.{List, [], ◌∷◌}
use lib.ListN.{get_or, set}
use lib.Seq.{sets}

abbrev pub Below : ℕ → List ℕ → Type 0
Below b l = (k : ℕ) → get_or l k 0 < b

pub set_below : (b : ℕ) (l : List ℕ) (i v : ℕ) → Below b l → v < b → Below b (set l i v)
set_below b [] i v h g k = h k
set_below b (x ∷ l) zero v h g zero = g
set_below b (x ∷ l) zero v h g (suc k) = h (suc k)
set_below b (x ∷ l) (suc i) v h g zero = h zero
set_below b (x ∷ l) (suc i) v h g (suc k) = set_below b l i v (λ m. h (suc m)) g k

pub sets_below : (b : ℕ) (l : List ℕ) (i : ℕ) (vs : List ℕ) → Below b l → Below b vs → Below b (sets l i vs)
sets_below b l i [] h g = h
sets_below b l i (v ∷ vs) h g = sets_below b (set l i v) (suc i) vs (set_below b l i v h (g zero)) (λ m. g (suc m))
