-- What `trimmed` means, and that no other number means that. Assumes nothing.
use mathlib.Core.Path.{◌≡◌, refl}
use mathlib.Core.Bool.{Bool, true, false}
use mathlib.Core.List.{List, [], ◌∷◌}
use Prim.Native.Nat.{ℕ, zero, suc, ◌+◌, ◌-◌, ◌≤◌, ◌<◌}
use native.Mathlib.Numerals.{unary_clauses}
use native.Mathlib.Omega.{arith}
use borrow.Author.Tests.{eqb-true, eqb-false}
use lib.Dec.{eqb}
use lib.ListN.{length, get_or}
use native.Mathlib.Nat.{add-sub_cancel}
use Rattle.literal.specs.Trim.{Trimmed}
use Rattle.literal.specs.Inner.Trim.{trimmed}

-- a byte before a text: nothing is left where nothing was and the byte is 0
longer : (x : ℕ) {s : List ℕ} (n : ℕ) → Trimmed s n → (n ≡ 0 → x ≡ 0 → ⊥) → Trimmed (x ∷ s) (suc n)
longer x {s} n k h = record { inside = omega (arith, k.inside); zeros = zeros; last = simp unary_clauses (last n h k.last) }
  where
    zeros : (i : ℕ) → suc n ≤ i → i < suc (length s) → get_or (x ∷ s) i 0 ≡ 0
    zeros zero l m = absurd (omega arith)
    zeros (suc i) l m = k.zeros i (omega arith) (omega arith)

    last : (n : ℕ) → (n ≡ 0 → x ≡ 0 → ⊥) → (0 < n → get_or s (n - 1) 0 ≡ 0 → ⊥) → 0 < suc n → get_or (x ∷ s) n 0 ≡ 0 → ⊥
    last zero h g l = h refl
    last (suc n) h g l = simp unary_clauses at (g (omega arith))

gone : (x : ℕ) {s : List ℕ} {n : ℕ} → Trimmed s n → n ≡ 0 → x ≡ 0 → Trimmed (x ∷ s) 0
gone x {s} {n} k e f = record { inside = omega arith; zeros = zeros; last = λ l. absurd (omega arith) }
  where
    zeros : (i : ℕ) → 0 ≤ i → i < suc (length s) → get_or (x ∷ s) i 0 ≡ 0
    zeros zero l m = f
    zeros (suc i) l m = k.zeros i (omega arith) (omega arith)

pub trimmed-is : (s : List ℕ) → Trimmed s (trimmed s)
unfolding trimmed
trimmed-is [] = record { inside = omega arith; zeros = λ i l m. absurd (omega arith); last = λ l. absurd (omega arith) }
trimmed-is (x ∷ s) = go (trimmed-is s) (eqb (trimmed s) 0) refl (eqb x 0) refl
  where
    go : Trimmed s (trimmed s) → (t : Bool) → eqb (trimmed s) 0 ≡ t → (u : Bool) → eqb x 0 ≡ u → Trimmed (x ∷ s) (trimmed (x ∷ s))
    go k true e true f = rw (e, f) (gone x k (eqb-true _ _ e) (eqb-true _ _ f))
    go k true e false f = rw (e, f) (longer x (trimmed s) k (λ n. eqb-false _ _ f))
    go k false e u f = rw e (longer x (trimmed s) k (λ n. absurd (eqb-false _ _ e n)))

pub trimmed_once : {s : List ℕ} {m n : ℕ} → Trimmed s m → Trimmed s n → m ≡ n
trimmed_once {s} {m} {n} a b =
    let x : ¬ (m < n) = λ l. b.last (omega arith) (a.zeros (n - 1) (omega arith) (omega (arith, b.inside))) in
    let y : ¬ (n < m) = λ l. a.last (omega arith) (b.zeros (m - 1) (omega arith) (omega (arith, a.inside))) in
    omega arith

-- the last byte that isn't 0
pub trimmed_behind : (s : List ℕ) (i : ℕ) → i < length s → ¬ (get_or s i 0 ≡ 0) → ((k : ℕ) → i + 1 ≤ k → k < length s → get_or s k 0 ≡ 0)
    → i + 1 ≡ trimmed s
trimmed_behind s i l n z = trimmed_once (record { inside = omega arith; zeros = z; last = λ h e. n (rw (add-sub_cancel i 1) at e) }) (trimmed-is s)

pub trimmed-empty : (s : List ℕ) → ((k : ℕ) → k < length s → get_or s k 0 ≡ 0) → 0 ≡ trimmed s
trimmed-empty s z = trimmed_once (record { inside = omega arith; zeros = λ k h l. z k l; last = λ h. absurd (omega arith) }) (trimmed-is s)
