-- What a write answers, and what it leaves of the lent bytes. Document 02, P1.
use Rattle.std.specs.Prelude.{ℕ, cond, List, ◌++◌, length, drop, nat_le, Result, Ok, Err}
use Rattle.numbers.specs.declared.Refusal.{Refusal}
use Rattle.numbers.specs.declared.Refusal.TheVariants as refusal
use Rattle.measure.specs.Item.{Item}
use Rattle.measure.specs.Term.{written, accepted}

pub record Left : Type 0 where
  pub answer : Result ℕ Refusal
  pub bytes : List ℕ

abbrev pub left : Result ℕ Refusal → List ℕ → Left
left answer bytes = record { answer = answer; bytes = bytes }

-- "A refused write leaves the lent bytes unchanged. Refusals: 17 Items (..), then 9 Room with the bytes needed." A Done one says how many bytes it
-- wrote, and leaves those behind the term
unfoldable pub write_over : List Item → List ℕ → Left
write_over s old =
    let n = length (written s) in
    cond (accepted s) (cond (nat_le n (length old)) (left (Ok n) (written s ++ drop n old)) (left (Err (refusal.Room n)) old)) (left (Err refusal.Items) old)
