-- The first number that a call tells is Done or the number of a refusal, as the answer beneath it is. Assumes nothing.
use Prim.Native.Nat.{ℕ}
use mathlib.Core.Path.{subst}
use mathlib.Core.List.{List, [], ◌∷◌}
use Rattle.std.specs.Prelude.{Result, Ok, Err}
use Rattle.numbers.specs.Refusal.{number_of}
use Rattle.numbers.specs.declared.Refusal.{Refusal}
use Rattle.numbers.proofs.Laws.{outcome, Shown, listed_shown, refusal_listed}
use Rattle.reading.specs.Told.{Told}
use Rattle.heads.specs.Inner.Head.{head_at}
use Rattle.heads.specs.Told as heads
use Rattle.heads.specs.Told.{told, told_head}
use Rattle.heads.specs.declared.Refused.{Refused}
use Rattle.heads.specs.declared.Headed.{Headed}
use Rattle.heads.specs.declared.Value.{Value}
use Rattle.heads.specs.declared.Value.TheVariants as value
use Rattle.agree.specs.Head.{head_of}
use Rattle.agree.proofs.HeadIs.{head-is}
use Rattle.cache.specs.declared.Name.{Name}
use Rattle.fragments.specs.declared.FirstFragment.{FirstFragment}
use Rattle.fragments.specs.declared.NextFragment.{NextFragment}
use Rattle.jig.specs.Shown.{Tells, name_words, place_words, first_words, next_words}
use Rattle.headwords.specs.Words.{value_words, told_words, head_words}

-- numbers told, the first of which is Done or the number of a refusal
abbrev pub FirstShown : List ℕ → Type 0
FirstShown [] = ⊥
FirstShown (n ∷ l) = Shown (outcome n)

pub answer-told : {P : Told → Type 0} {told old new : List ℕ} → ((r : Told) → P r → Shown (outcome r.number)) → Tells P told old new → FirstShown told
answer-told h t = rw t.shows (h t.answer t.promised)

why_told : (r : Refusal) → Shown (outcome (number_of r))
why_told r = listed_shown (number_of r) (refusal_listed r)

value-told : (tag : ℕ) (v : Value) → FirstShown (value_words tag v)
value-told tag (value.Integer z) = tt
value-told tag (value.NumberText r) = tt
value-told tag (value.Double x bits) = tt
value-told tag (value.Atom r) = tt
value-told tag (value.Tuple n) = tt
value-told tag value.Nil = tt
value-told tag (value.String r) = tt
value-told tag (value.List n) = tt
value-told tag (value.Binary r) = tt
value-told tag (value.BitString r k) = tt
value-told tag (value.Big r sign negative) = tt
value-told tag (value.Map n) = tt
value-told tag (value.Pid r id serial creation) = tt
value-told tag (value.Reference k r creation ids) = tt
value-told tag (value.Port r id creation) = tt
value-told tag value.Export = tt
value-told tag (value.Function size arity p index free) = tt

words-told : (h : Headed) → FirstShown (head_words h)
words-told h = go h.value
  where
    go : (v : Result Value Refused) → FirstShown (told_words (h.tag, told v))
    go (Ok v) = value-told h.tag v
    go (Err e) = why_told e.why

pub head-told : (b : List ℕ) (at : ℕ) → FirstShown (told_words (head_of b at))
head-told b at = subst (λ (h : ℕ × heads.Told). FirstShown (told_words h)) (head-is b at) (words-told (head_at b at))

pub name-told : (found : Result Name Refusal) → FirstShown (name_words found)
name-told (Ok n) = tt
name-told (Err r) = why_told r

pub place-told : (found : Result ℕ Refusal) → FirstShown (place_words found)
place-told (Ok n) = tt
place-told (Err r) = why_told r

pub first-told : (found : Result FirstFragment Refusal) → FirstShown (first_words found)
first-told (Ok f) = tt
first-told (Err r) = why_told r

pub next-told : (found : Result NextFragment Refusal) → FirstShown (next_words found)
next-told (Ok f) = tt
next-told (Err r) = why_told r
