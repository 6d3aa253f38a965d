-- What a number of the list is, whatever else a request adds to it: more than 0, and shown by an answer that has it; what an answer comes
-- to; and laws of tests, by which a proof goes by a number as a `match` does. Assumes nothing.
use Prim.Native.Nat.{ℕ, zero, suc, ◌<◌}
use native.Mathlib.Omega.{arith}
use mathlib.Core.Path.{◌≡◌, refl, ap}
use mathlib.Core.Bool.{Bool, true, false, cond, ◌||◌}
use mathlib.Core.Logic.{◌⊎◌, inl, inr}
use borrow.Author.Tests.{eqb-true, eqb-false, ne_eqb}
use lib.Dec.{eqb}
use Rattle.std.specs.Prelude.{Result, Ok, Err}
use Rattle.std.specs.Result.{IsErr, IsErrAnd}
use Rattle.numbers.specs.Numbers.{among, Listed}
use Rattle.numbers.specs.Refusal.{number_of}
use Rattle.numbers.specs.declared.Refusal.{Refusal}
use Rattle.numbers.specs.declared.Refusal.TheVariants as refusal

-- what an answer comes to: Done, or refused by a number. Each type of answers has a definition of this, named after it
pub data Outcome : Type 0 where
  done : Outcome
  refused : ℕ → Outcome

-- the same of an answer that is or has a number: 0 is Done
abbrev pub outcome : ℕ → Outcome
outcome zero = done
outcome (suc n) = refused (suc n)

-- an outcome that may be shown: a refusal bears a number of the list, so never 0
abbrev pub Shown : Outcome → Type 0
Shown done = Unit {0}
Shown (refused n) = Listed n

pub listed_some : (n : ℕ) → Listed n → 0 < n
unfolding among
listed_some zero h = absurd cc
listed_some (suc n) h = omega arith

pub listed_shown : (n : ℕ) → Listed n → Shown (outcome n)
listed_shown zero h = tt
listed_shown (suc n) h = h

pub shown_listed : (n : ℕ) → Shown (outcome n) → ¬ (n ≡ 0) → Listed n
shown_listed zero h k = absurd (k refl)
shown_listed (suc n) h k = h

-- the number of every refusal stands in the list
pub refusal_listed : (r : Refusal) → Listed (number_of r)
unfolding among
refusal_listed refusal.Eof = refl
refusal_listed refusal.Tag = refl
refusal_listed refusal.Text = refl
refusal_listed refusal.Literal = refl
refusal_listed refusal.Bits = refl
refusal_listed refusal.Size = refl
refusal_listed (refusal.Trailing n) = refl
refusal_listed refusal.Deep = refl
refusal_listed (refusal.Room n) = refl
refusal_listed refusal.Long = refl
refusal_listed refusal.Name = refl
refusal_listed (refusal.Version n) = refl
refusal_listed (refusal.Kind n) = refl
refusal_listed refusal.Limit = refl
refusal_listed refusal.Store = refl
refusal_listed refusal.Absent = refl
refusal_listed refusal.Items = refl
refusal_listed refusal.Segment = refl

-- what a `?` hands on
pub handed : {T : Type 0} (r : Result T Refusal) {e : Refusal} → IsErr r × IsErrAnd r (λ x. x ≡ e) → r ≡ Err e
handed (Err x) h = ap Err h.1
handed (Ok x) h = absurd h.1

-- what both answers of a test have, its answer has
pub by_test : {A : Type 0} (P : A → Type 0) (x : Bool) (v w : A) → P v → P w → P (cond x v w)
by_test P true v w h k = h
by_test P false v w h k = k

-- a number that is none of two or three
pub ne_two : (x a b : ℕ) → ¬ ((x ≡ a) ⊎ (x ≡ b)) → eqb x a || eqb x b ≡ false
ne_two x a b h = rw (ne_eqb x a (λ e. h (inl e)), ne_eqb x b (λ e. h (inr e)))

pub ne_three : (x a b c : ℕ) → ¬ ((x ≡ a) ⊎ ((x ≡ b) ⊎ (x ≡ c))) → eqb x a || eqb x b || eqb x c ≡ false
ne_three x a b c h = rw (ne_eqb x a (λ e. h (inl e)), ne_two x b c (λ e. h (inr e)))

-- what a `match` tells its last arm, that the number is none of the others', as tests that fail: `search none_of` finds each among what the
-- arm is told
pub ruleset none_of = (ne_eqb, ne_two, ne_three)

-- by an arm: what holds at its number, and of any other, which the arms behind it are told, holds
pub arm : (P : ℕ → Type 0) {N : Type 0} (x k : ℕ) → P k → (N × ¬ (x ≡ k) → P x) → N → P x
arm P x k hit miss n = go (eqb x k) refl
  where
    go : (t : Bool) → eqb x k ≡ t → P x
    go true e = rw (eqb-true x k e) hit
    go false e = miss (n, eqb-false x k e)
