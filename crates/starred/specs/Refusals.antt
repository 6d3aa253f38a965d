-- Of each type of answers, which are refusals, and by which number.
use Rattle.std.specs.Prelude.{ℕ, ◌≡◌, Option, None, Result, Err}
use Rattle.numbers.specs.Numbers as number
use Rattle.numbers.specs.Refusal.{number_of}
use Rattle.numbers.specs.declared.Refusal.{Refusal}
use Rattle.reading.specs.declared.Answer.{Answer}
use Rattle.reading.specs.declared.Refused as reading
use Rattle.heads.specs.declared.Headed.{Headed}
use Rattle.heads.specs.declared.Refused as heads

-- a field that is missing
abbrev pub missing_by : {A : Type 0} → Option A → ℕ → Type 0
missing_by r n = (r ≡ None) × (n ≡ number.Eof)

abbrev pub refused_by : {A : Type 0} → Result A Refusal → ℕ → Type 0
refused_by r n = (why : Refusal) × ((r ≡ Err why) × (n ≡ number_of why))

abbrev pub answer_by : Answer → ℕ → Type 0
answer_by a n = (e : reading.Refused) × ((a.outcome ≡ Err e) × (n ≡ number_of e.why))

abbrev pub head_by : Headed → ℕ → Type 0
head_by h n = (e : heads.Refused) × ((h.value ≡ Err e) × (n ≡ number_of e.why))
