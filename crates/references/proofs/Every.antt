-- What every reference of a header has: what the one at any place has. So each of them lies in the input and names a slot. Assumes nothing.
use Prim.Native.Nat.{ℕ, zero, suc, ◌+◌, ◌<◌, ◌≤◌}
use native.Mathlib.Omega.{arith}
use mathlib.Core.Path.{◌≡◌, refl, ap}
use mathlib.Core.List.{List, [], ◌∷◌}
use mathlib.Core.Bool.{Bool, cond}
use lib.ListN.{length, get_or}
use Rattle.std.specs.Prelude.{Result, Ok, Err}
use Rattle.numbers.specs.declared.Refusal.{Refusal}
use Rattle.fields.proofs.Inverse.{is_below}
use Rattle.references.specs.declared.Opening.{Opening}
use Rattle.references.specs.declared.Reference.{Reference}
use Rattle.references.specs.declared.Reference.TheVariants as ref
use Rattle.references.specs.Header.{Said, is_new, start_of, reference_at, past, behind, references, opened, header_of, slots_of}
use Rattle.references.proofs.Reading.{found}

-- std's goes by the place; this one goes with the list, as the definitions do
pub data All (P : Reference → Type 0) : List Reference → Type 0 where
  none : All P []
  more : {r : Reference} {rs : List Reference} → P r → All P rs → All P (r ∷ rs)

-- what a reference has, if it is none of the refusals
abbrev pub If : (Reference → Type 0) → Result Reference Refusal → Type 0
If P (Ok r) = P r
If P (Err r) = Unit {0}

module _ (b : List ℕ) (P : Reference → Type 0) (place : (new : Bool) (wide p : ℕ) → If P (reference_at b new wide p)) where
  abbrev Has : Said → Type 0
  Has h = All P h.references

  has-behind : (p : ℕ) (next : ℕ → Said) (r : Result Reference Refusal) → If P r → ((q : ℕ) → Has (next q)) → Has (behind p next r)
  unfolding behind
  has-behind p next (Ok r) h k = more h (k (past p r))
  has-behind p next (Err r) h k = none

  pub has-references : (wide i k p : ℕ) → Has (references b wide i k p)
  unfolding references
  has-references wide i zero p = none
  has-references wide i (suc k) p = has-behind p _ _ (place (is_new b i) wide p) (has-references wide (i + 1) k)

  has-opened : (o : Result Opening Refusal) → Has (opened b o)
  unfolding opened
  has-opened (Ok o) = has-references (cond o.long 2 1) 0 o.count o.first
  has-opened (Err r) = none

  pub every : Has (header_of b)
  unfolding header_of
  every = has-opened (start_of b)

module _ (b : List ℕ) where
  -- a reference whose slot is a byte, and whose name lies in the input
  pub data Fits : Reference → Type 0 where
    old : {slot : ℕ} → Fits (ref.Old slot)
    new : {slot at n : ℕ} → slot < 256 → at + n ≤ length b → Fits (ref.New slot at n)

  -- the references of a header fit, where it is bytes
  module _ (low : (k : ℕ) → get_or b k 0 < 256) where
    fits-at : (new : Bool) (wide p : ℕ) → If Fits (reference_at b new wide p)
    fits-at t wide p = go (reference_at b t wide p) refl
      where
        go : (r : Result Reference Refusal) → reference_at b t wide p ≡ r → If Fits r
        go (Ok (ref.Old slot)) e = old
        go (Ok (ref.New slot at n)) e = let f = found b t wide p e in new (is_below 1 b p low f.first) f.inside
        go (Err r) e = tt

    pub all_fit : All Fits (header_of b).references
    all_fit = every b Fits fits-at

-- references that are read to their end have a slot each
pub record Slotted (k : ℕ) (h : Said) : Type 0 where
  pub each : {e : ℕ} → h.rest ≡ Ok e → length (slots_of h.references) ≡ k

slots-behind : (p k : ℕ) (next : ℕ → Said) (r : Result Reference Refusal) → ((q : ℕ) → Slotted k (next q)) → Slotted (suc k) (behind p next r)
unfolding behind
slots-behind p k next (Ok r) h = record { each = λ e. ap suc ((h (past p r)).each e) }
slots-behind p k next (Err r) h = record { each = λ e. absurd (let z : ◌≡◌ {A = ℕ} 0 1 = cc in omega arith) }

pub all_slots : (b : List ℕ) (wide i k p : ℕ) → Slotted k (references b wide i k p)
unfolding references
all_slots b wide i zero p = record { each = λ e. refl }
all_slots b wide i (suc k) p = slots-behind p k (references b wide (i + 1) k) (reference_at b (is_new b i) wide p) (all_slots b wide (i + 1) k)
