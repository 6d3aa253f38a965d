-- Which answers name a run of bytes, and what becomes of one that names none: it has no part, and nothing behind it is read. Assumes nothing.
use Prim.Native.Nat.{ℕ}
use mathlib.Core.Path.{◌≡◌, refl}
use mathlib.Core.List.{List, []}
use Rattle.std.specs.Prelude.{None, Result, Ok, Err}
use Rattle.heads.specs.Inner.Run.{run_of, part_of}
use Rattle.heads.specs.Inner.Head.{and_then}
use Rattle.heads.specs.declared.Refused.{Refused}
use Rattle.heads.specs.declared.Run.{Run}
use Rattle.heads.specs.declared.Value.{Value}
use Rattle.heads.specs.declared.Value.TheVariants as value

-- an answer is an atom's, a binary's, a refusal, or none of these
module _ (P : Result Value Refused → Type 0) (atom : (r : Run) → P (Ok (value.Atom r))) (binary : (r : Run) → P (Ok (value.Binary r))) (no : (e : Refused) → P (Err e)) (other : (v : Value) → run_of (Ok v) ≡ None → P (Ok v)) where
  pub by_run : (v : Result Value Refused) → P v
  by_run (Ok (value.Atom r)) = atom r
  by_run (Ok (value.Binary r)) = binary r
  by_run (Ok (value.Integer z)) = other (value.Integer z) refl
  by_run (Ok (value.NumberText r)) = other (value.NumberText r) refl
  by_run (Ok (value.Double x n)) = other (value.Double x n) refl
  by_run (Ok (value.Tuple n)) = other (value.Tuple n) refl
  by_run (Ok value.Nil) = other value.Nil refl
  by_run (Ok (value.String r)) = other (value.String r) refl
  by_run (Ok (value.List n)) = other (value.List n) refl
  by_run (Ok (value.BitString r k)) = other (value.BitString r k) refl
  by_run (Ok (value.Big r s g)) = other (value.Big r s g) refl
  by_run (Ok (value.Map n)) = other (value.Map n) refl
  by_run (Ok (value.Pid r i j k)) = other (value.Pid r i j k) refl
  by_run (Ok (value.Reference i r j q)) = other (value.Reference i r j q) refl
  by_run (Ok (value.Port r i j)) = other (value.Port r i j) refl
  by_run (Ok value.Export) = other value.Export refl
  by_run (Ok (value.Function i j p k l)) = other (value.Function i j p k l) refl
  by_run (Err e) = no e

-- an atom child that gives no name is refused, and so is the term, for the same reason
pub not_named : (f : Run → Result Value Refused) (v : Result Run Refused) → ((r : Run) → v ≡ Ok r → ⊥) → (e : Refused) × (v ≡ Err e) × (and_then v f ≡ Err e)
not_named f (Ok r) k = absurd (k r refl)
not_named f (Err e) k = (e, refl, refl)

-- what is neither an atom's nor a binary's, a refusal too, has no part
pub no_part : (b : List ℕ) (v : Result Value Refused) → ((r : Run) → v ≡ Ok (value.Atom r) → ⊥) → ((r : Run) → v ≡ Ok (value.Binary r) → ⊥) → [] ≡ part_of b (run_of v)
unfolding part_of
no_part b =
    by_run (λ (v : Result Value Refused). ((r : Run) → v ≡ Ok (value.Atom r) → ⊥) → ((r : Run) → v ≡ Ok (value.Binary r) → ⊥) → [] ≡ part_of b (run_of v))
    (λ r j k. absurd (j r refl))
    (λ r j k. absurd (k r refl))
    (λ e j k. refl)
    (λ v e j k. rw e)
