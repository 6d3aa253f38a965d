-- Caches and names that tell a right function from a wrong one, as the definitions compute them. Assumes nothing.
use Prim.Native.Nat.{ℕ}
use native.Mathlib.Omega.{arith}
use mathlib.Core.Path.{◌≡◌, refl, ap, sym, ◌∙◌}
use mathlib.Core.Bool.{true, false, false≢true}
use mathlib.Core.List.{List, [], ◌∷◌}
use lib.ListN.{length, replicate}
use borrow.Author.Tests.{eq-eqb}
use Rattle.numbers.specs.Bits as bits
use Rattle.cache.specs.declared.Cache.{Cache}
use Rattle.cache.specs.Names.{store_bytes, filled, got_at, part_of}

-- a cache in which slot 255 is filled is no empty one
pub last-slot-filled : {r : Cache} → filled r.filled 255 ≡ true → ¬ (r ≡ record { filled = replicate 4 0 })
unfolding filled bits.bit
last-slot-filled {r} h e =
    let f : filled r.filled 255 ≡ false = ap (λ (c : Cache). filled c.filled 255) e in
    false≢true (sym f ∙ h)

-- a store of which slot 0 begins 1 97. Its name is the byte 97: a part with the length byte has two. Where the slot isn't filled, the part
-- is empty, whatever lies there
module _ (rest : List ℕ) (h : length rest ≡ 65534) where
  pub name-part : part_of (1 ∷ 97 ∷ rest) (got_at (1 ∷ 0 ∷ 0 ∷ 0 ∷ []) (1 ∷ 97 ∷ rest) 0) ≡ 97 ∷ []
  unfolding got_at filled bits.bit
  name-part = rw (eq-eqb (length (1 ∷ 97 ∷ rest)) store_bytes (omega arith)) refl

  pub absent-part : part_of (1 ∷ 97 ∷ rest) (got_at (0 ∷ 0 ∷ 0 ∷ 0 ∷ []) (1 ∷ 97 ∷ rest) 0) ≡ []
  unfolding got_at filled bits.bit
  absent-part = rw (eq-eqb (length (1 ∷ 97 ∷ rest)) store_bytes (omega arith)) refl
