-- Over the definition alone: reading is Done, or refused by a number of the list, at any place and with any limit. Assumes nothing.
use Prim.Native.Nat.{ℕ, ◌≤◌}
use native.Mathlib.Omega.{arith}
use mathlib.Core.Path.{◌≡◌, refl}
use mathlib.Core.List.{List}
use mathlib.Core.Bool.{Bool, true, false}
use lib.Dec.{ltb}
use lib.ListN.{length}
use borrow.Author.Tests.{ltb-true, ltb-false}
use Rattle.numbers.specs.Allowed.{Allowed}
use Rattle.numbers.specs.Numbers.{among, Listed}
use Rattle.numbers.proofs.Laws.{outcome, Shown, listed_shown}
use Rattle.reading.specs.Reading.{State, Result, done, no}
use Rattle.reading.specs.Terms.{term}
use Rattle.reading.specs.Answer.{answer, read_by}
use Rattle.reading.proofs.Answers.{by-start}
use Rattle.reading.proofs.Keeps.{Keeps, Held, keeps}
use Rattle.reading.proofs.Bounds.{at-end}

module _ (allow : Allowed) (b : List ℕ) (limit : ℕ) where
  listed : Keeps b limit (λ s. s.at ≤ length b) (λ l n p s. Listed n)
  listed = record {
    inside = λ s h. h;
    moves = λ s p h k l. l;
    begins = λ s n m h k. omega arith;
    stops = λ l n s m h. m;
    reaches = λ l n s m h. m;
    wide = λ l n p s h. h;
    enters = λ l n g p s h. h;
  }

  answer-shown : (l : ℕ) (o : Result) → Held (λ s. s.at ≤ length b) (λ l n p s. Listed n) l o → Shown (outcome (answer o).number)
  unfolding answer
  answer-shown l (done t) h = tt
  answer-shown l (no n x t p) h = listed_shown n h

  pub read_shown : (at : ℕ) → Shown (outcome (read_by allow b at limit).number)
  unfolding read_by answer among
  read_shown at = by-start limit (length b) (λ a. Shown (outcome a.number)) _ refl refl (λ h k l. go (ltb at (length b)) refl)
    where
      first : State
      first = record { at = at; last = 0; begun = 0; deepest = 0 }

      go : (x : Bool) → ltb at (length b) ≡ x → Shown (outcome (answer (term allow b limit limit first)).number)
      go true e = answer-shown limit (term allow b limit limit first) (keeps allow listed limit first (omega (arith, ltb-true at (length b) e)))
      go false e = rw (at-end allow b limit limit first (ltb-false at (length b) e)) refl
