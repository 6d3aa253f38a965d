-- What is asked plainly allows what document 01 does, and whatever is asked, texts are read. Assumes nothing.
use Prim.Native.Nat.{ℕ, zero, suc, ◌/◌, ◌%◌, ◌^◌}
use native.Mathlib.Nat.{zero-div}
use mathlib.Core.Path.{◌≡◌, refl, ap, fun_ext}
use mathlib.Core.Bool.{Bool, true, false}
use mathlib.Core.List.{List, [], ◌∷◌}
use lib.ListN.{get_or}
use Rattle.numbers.specs.Bits.{bit}
use Rattle.numbers.specs.Allowed.{plain}
use Rattle.reading.specs.Told.{Told}
use Rattle.reading.specs.declared.Asked.{Asked}
use Rattle.reading.specs.Answer.{read_by, read_at}
use Rattle.reading.specs.Asked.{allowed_of, limit_of, plainly}

abbrev zeros : List ℕ
zeros = 0 ∷ 0 ∷ 0 ∷ 0 ∷ []

none : (i : ℕ) → get_or zeros i 0 ≡ 0
none zero = refl
none (suc zero) = refl
none (suc (suc zero)) = refl
none (suc (suc (suc zero))) = refl
none (suc (suc (suc (suc i)))) = refl

no-bit : (k : ℕ) → bit zeros k ≡ false
unfolding bit
no-bit k = rw (none (k / 64), zero-div (2 ^ (k % 64)))

pub asks_plain : (limit : ℕ) → allowed_of (plainly limit) ≡ plain
unfolding allowed_of
asks_plain limit = ap (λ (f : ℕ → Bool). record { texts = true; names = false; known = f }) (fun_ext no-bit)

pub asks_texts : (asked : Asked) → (allowed_of asked).texts ≡ true
unfolding allowed_of
asks_texts asked = refl

-- what was asked plainly is answered as document 01 has it
pub plain_read : (b : List ℕ) (at limit : ℕ) {asked : Asked} {r : Told} → asked ≡ plainly limit → r ≡ read_by (allowed_of asked) b at (limit_of asked) → r ≡ read_at b at limit
plain_read b at limit e h = rw (e, asks_plain limit) at h
