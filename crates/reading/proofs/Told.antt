-- What an answer says, number by number, is all that it is: its refusal comes back from the number and the extra, and so the whole answer. One
-- that says Done is `Ok`, any other `Err`. Assumes nothing.
use Prim.Native.Nat.{ℕ, ◌-◌}
use mathlib.Core.Path.{◌≡◌, refl, sym, ap, ◌∙◌}
use mathlib.Core.List.{List, [], ◌∷◌}
use mathlib.Core.Bool.{cond}
use native.Mathlib.Omega.{arith}
use borrow.Author.Tests.{ne_eqb}
use lib.Dec.{eqb}
use lib.ListN.{get_or}
use Rattle.std.specs.Prelude.{Result, Ok, Err}
use Rattle.numbers.specs.Numbers as number
use Rattle.numbers.specs.Refusal.{number_of, extra_of}
use Rattle.numbers.specs.declared.Refusal.{Refusal}
use Rattle.numbers.specs.declared.Refusal.TheVariants as why
use Rattle.numbers.proofs.Laws.{refusal_listed, listed_some}
use Rattle.reading.specs.declared.Answer.{Answer}
use Rattle.reading.specs.declared.Done.{Done}
use Rattle.reading.specs.declared.Refused.{Refused}
use Rattle.reading.specs.Told.{Told, told, told_of}

-- every refusal, with an extra, in the order of their numbers
abbrev refusals : ℕ → List Refusal
refusals x =
    why.Eof ∷ why.Tag ∷ why.Text ∷ why.Literal ∷ why.Bits ∷ why.Size ∷ why.Trailing x ∷ why.Deep ∷ why.Room x ∷ why.Long ∷ why.Name ∷ why.Version x ∷
    why.Kind x ∷ why.Limit ∷ why.Store ∷ why.Absent ∷ why.Items ∷ why.Segment ∷
    []

-- the refusal of a number and an extra
abbrev why_of : (number extra : ℕ) → Refusal
why_of n x = get_or (refusals x) (n - 1) why.Eof

why_back : (r : Refusal) → why_of (number_of r) (extra_of r) ≡ r
why_back why.Eof = refl
why_back why.Tag = refl
why_back why.Text = refl
why_back why.Literal = refl
why_back why.Bits = refl
why_back why.Size = refl
why_back (why.Trailing n) = refl
why_back why.Deep = refl
why_back (why.Room n) = refl
why_back why.Long = refl
why_back why.Name = refl
why_back (why.Version n) = refl
why_back (why.Kind n) = refl
why_back why.Limit = refl
why_back why.Store = refl
why_back why.Absent = refl
why_back why.Items = refl
why_back why.Segment = refl

pub refused_some : (r : Refusal) → ¬ (number_of r ≡ number.Done)
refused_some r e = omega (arith, e, listed_some (number_of r) (refusal_listed r))

-- the answer that says so
abbrev outcome_of : Told → Result Done Refused
outcome_of t =
    cond (eqb t.number number.Done) (Ok (record { end = t.end; value = t.offset }))
    (Err (record { why = why_of t.number t.extra; offset = t.offset; path = record { len = t.len; segments = t.path } }))

abbrev answer_of : Told → Answer
answer_of t = record { outcome = outcome_of t; begun = t.begun; deepest = t.deepest }

told_back : (o : Result Done Refused) (c n : ℕ) → answer_of (told o c n) ≡ record { outcome = o; begun = c; deepest = n }
told_back (Ok d) c n = refl
told_back (Err r) c n = rw (ne_eqb (number_of r.why) number.Done (refused_some r.why), why_back r.why) refl

-- two answers that say the same are the same
pub told_alike : {a b : Answer} → told_of a ≡ told_of b → a ≡ b
told_alike {a} {b} e = sym (told_back a.outcome a.begun a.deepest) ∙ ap answer_of e ∙ told_back b.outcome b.begun b.deepest

-- what an answer's case tells of its number
pub ok_done : (o : Result Done Refused) (c n : ℕ) {d : Done} → o ≡ Ok d → (told o c n).number ≡ number.Done
ok_done o c n e = rw e refl

pub err_refused : (o : Result Done Refused) (c n : ℕ) {r : Refused} → o ≡ Err r → ¬ ((told o c n).number ≡ number.Done)
err_refused o c n {r} e = rw e (refused_some r.why)
