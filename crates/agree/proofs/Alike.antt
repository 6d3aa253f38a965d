-- What a head tells, number by number, is all that it is: two heads that tell the same are the same. So what specs/Head.antt says of a head
-- leaves one answer. Assumes nothing.
use Prim.Native.Nat.{ℕ}
use mathlib.Core.Path.{◌≡◌, refl, sym, ap, ◌∙◌}
use mathlib.Core.List.{[]}
use Rattle.std.specs.Prelude.{Result, Ok, Err}
use Rattle.numbers.specs.Refusal.{number_of, extra_of}
use Rattle.numbers.specs.declared.Refusal.{Refusal}
use Rattle.numbers.specs.declared.Refusal.TheVariants as why
use Rattle.reading.specs.declared.Answer.{Answer}
use Rattle.reading.specs.declared.Done.{Done}
use Rattle.reading.specs.declared.Refused as reading
use Rattle.reading.proofs.Told.{told_alike}
use Rattle.heads.proofs.head.Reads as heads_head
use Rattle.heads.specs.Inner.Head.{refused}
use Rattle.heads.specs.Told.{Told, told, told_head}
use Rattle.heads.specs.declared.Value.{Value}
use Rattle.heads.specs.declared.Refused.{Refused}
use Rattle.heads.specs.declared.Headed.{Headed}
use Rattle.agree.specs.Head.{head_of}
use Rattle.agree.proofs.Promised.{head-promised}

-- a refusal comes back from its number and its extra, since it does out of an answer of reading
abbrev answer : Refusal → Answer
answer w = record { outcome = Err (record { why = w; offset = 0; path = record { len = 0; segments = [] } }); begun = 0; deepest = 0 }

abbrev why_in : Result Done reading.Refused → Refusal
why_in (Ok d) = why.Eof
why_in (Err r) = r.why

why_alike : (v w : Refusal) → number_of v ≡ number_of w → extra_of v ≡ extra_of w → v ≡ w
why_alike v w n x = ap (λ (a : Answer). why_in a.outcome) (told_alike {a = answer v} {b = answer w} (rw (n, x) refl))

abbrev told_why : Refused → ℕ × ℕ × ℕ
told_why r = (number_of r.why, r.offset, extra_of r.why)

refused_alike : (r s : Refused) → told_why r ≡ told_why s → r ≡ s
refused_alike r s e =
    let w = why_alike r.why s.why (ap (λ (t : ℕ × ℕ × ℕ). t.0) e) (ap (λ (t : ℕ × ℕ × ℕ). t.2) e) in
    ap (λ (x : Refusal). refused x r.offset) w ∙ ap (refused s.why) (ap (λ (t : ℕ × ℕ × ℕ). t.1) e)

value_alike : (v w : Result Value Refused) → told v ≡ told w → v ≡ w
value_alike (Ok v) (Ok w) e = cc
value_alike (Ok v) (Err s) e = absurd cc
value_alike (Err r) (Ok w) e = absurd cc
value_alike (Err r) (Err s) e = ap Err (refused_alike r s (cc))

abbrev headed : ℕ → Result Value Refused → Headed
headed t v = record { tag = t; value = v }

pub told_head_alike : {h k : Headed} → told_head h ≡ told_head k → h ≡ k
told_head_alike {h} {k} e =
    ap (λ (t : ℕ). headed t h.value) (ap (λ (t : ℕ × Told). t.0) e) ∙ ap (headed k.tag) (value_alike h.value k.value (ap (λ (t : ℕ × Told). t.1) e))

-- a promise, of the lifetimes of what is lent, the arguments, the answer, and the parameters at the end
module _ {L : Type 0} {A R S : L → Type 0} (Promise : (κ : L) → A κ → R κ → S κ → Type 0) where
  -- the answer is the one head that tells this
  abbrev Answers : ((κ : L) → R κ → Headed) → ((κ : L) → A κ → ℕ × Told) → Type 0
  Answers its is = (κ : L) (a : A κ) (r : R κ) (s : S κ) → Promise κ a r s → (h : Headed) → told_head h ≡ is κ a → its κ r ≡ h

pub head-determined : Answers heads_head.Post (λ κ r. r) (λ κ a. head_of a.0.now a.1.0)
head-determined = λ κ a r s p h e. told_head_alike (head-promised κ a r s p ∙ sym e)
