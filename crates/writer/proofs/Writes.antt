-- What a write leaves, by what its row needs: a law for each way it can go, and that its number is Done or stands in the list. Assumes nothing.
use Rattle.std.proofs.Common.{◌≡◌, ℕ, ◌<◌, ◌≤◌, Bool, true, false, cond, leb, List, ◌++◌, length, take, drop, Option, Some, None, Result, Ok, Err, sym, refl, ap, ◌∙◌, arith, le-leb, leb-true}
use lib.Seq.{take-append_seam}
use borrow.Author.Tests.{lt-leb}
use Rattle.numbers.specs.Numbers as number
use Rattle.numbers.specs.Numbers.{among}
use Rattle.numbers.proofs.Laws.{outcome, Shown, by_test}
use Rattle.numbers.specs.Refusal.{number_of}
use Rattle.numbers.specs.declared.Refusal.{Refusal}
use Rattle.numbers.specs.declared.Refusal.TheVariants as refusal
use Rattle.measure.specs.Item.{Item}
use Rattle.measure.specs.Term.{written, accepted, needed}
use Rattle.writer.specs.Write.{Left, left, write_over}
use Rattle.writer.specs.Inner.Put.{Fits}

-- what the bytes needed say
by_need : (s : List Item) (n : ℕ) → Some n ≡ needed s → (accepted s ≡ true) × (n ≡ length (written s))
unfolding needed
by_need s n e = go (accepted s) refl e
  where
    go : (x : Bool) → accepted s ≡ x → Some n ≡ cond {A = Option ℕ} x (Some (length (written s))) None → (accepted s ≡ true) × (n ≡ length (written s))
    go true a e = (a, cc)
    go false a e = absurd (cc)

not-needed : (s : List Item) → None ≡ needed s → accepted s ≡ false
unfolding needed
not-needed s e = go (accepted s) refl e
  where
    go : (x : Bool) → accepted s ≡ x → None ≡ cond {A = Option ℕ} x (Some (length (written s))) None → accepted s ≡ false
    go true a e = absurd (cc)
    go false a e = a

pub refused : (s : List Item) (old : List ℕ) → None ≡ needed s → left (Err refusal.Items) old ≡ write_over s old
unfolding write_over
refused s old e = rw (not-needed s e) refl

module _ (s : List Item) (old : List ℕ) (n : ℕ) (e : Some n ≡ needed s) where
  pub no_room : length old < n → left (Err (refusal.Room n)) old ≡ write_over s old
  unfolding write_over
  no_room l = let (a, w) = by_need s n e in rw (a, ← w, lt-leb n (length old) l) refl

  pub done : n ≤ length old → left (Ok n) (written s ++ drop n old) ≡ write_over s old
  unfolding write_over
  done l = let (a, w) = by_need s n e in rw (a, ← w, le-leb n (length old) l) refl

  pub fits : n ≤ length old → Fits s n (length old)
  fits l = let (a, w) = by_need s n e in record { good = a; ends = w; lent = l }

-- a Done one: the row is accepted, and its bytes are the front of what was lent, as many as the answer says
pub done_writes : (s : List Item) (old : List ℕ) {n : ℕ} → (write_over s old).answer ≡ Ok n → (accepted s ≡ true) × (take n (write_over s old).bytes ≡ written s)
unfolding write_over
done_writes s old {n} e = go (accepted s) (leb (length (written s)) (length old)) refl e
  where
    go : (x y : Bool) → accepted s ≡ x → (cond x (cond y (left (Ok (length (written s))) (written s ++ drop (length (written s)) old)) (left (Err (refusal.Room (length (written s)))) old)) (left (Err refusal.Items) old)).answer ≡ Ok n → (accepted s ≡ true) × (take n (cond x (cond y (left (Ok (length (written s))) (written s ++ drop (length (written s)) old)) (left (Err (refusal.Room (length (written s)))) old)) (left (Err refusal.Items) old)).bytes ≡ written s)
    go true true a e = let k : length (written s) ≡ n = cc in (a, ap (λ (m : ℕ). take m (written s ++ drop (length (written s)) old)) (sym k) ∙ take-append_seam (written s) _)
    go true false a e = absurd (cc)
    go false y a e = absurd (cc)

-- what a write says that it wrote lies within the lent bytes
pub in_room : (s : List Item) (old : List ℕ) {n : ℕ} → (write_over s old).answer ≡ Ok n → n ≤ length old
unfolding write_over
in_room s old {n} e = go (accepted s) (leb (length (written s)) (length old)) refl e
  where
    go : (x y : Bool) → leb (length (written s)) (length old) ≡ y → (cond x (cond y (left (Ok (length (written s))) (written s ++ drop (length (written s)) old)) (left (Err (refusal.Room (length (written s)))) old)) (left (Err refusal.Items) old)).answer ≡ Ok n → n ≤ length old
    go true true l e = let k : length (written s) ≡ n = cc in omega (arith, leb-true _ _ l)
    go true false l e = absurd (cc)
    go false y l e = absurd (cc)

-- the number that the jig shows of an answer
abbrev pub number_in : Result ℕ Refusal → ℕ
number_in (Ok n) = number.Done
number_in (Err e) = number_of e

-- "17 Items .., then 9 Room"
pub write_shown : (s : List Item) (old : List ℕ) → Shown (outcome (number_in (write_over s old).answer))
unfolding write_over among
write_shown s old =
    by_test (λ (l : Left). Shown (outcome (number_in l.answer))) (accepted s) _ _
    (by_test (λ (l : Left). Shown (outcome (number_in l.answer))) (leb (length (written s)) (length old)) _ _ tt refl) refl
