-- What reading a run of fields answers: the place behind them, or a refusal.
use Rattle.std.specs.Prelude.{ℕ, ◌+◌, List, cond, eqb, leb, take, drop, Result, Ok, Err}
use Rattle.fields.specs.Field.{holds, number_then}
use Rattle.utf8.specs.Inner.Find.{good_bytes}
use Rattle.numbers.specs.declared.Refusal.{Refusal}
use Rattle.numbers.specs.declared.Refusal.TheVariants.{Eof, Text, Size}

abbrev pub Row : Type 0
Row = Result ℕ Refusal

abbrev pub no : Refusal → Row
no r = Err r

-- what comes behind fields that are there
abbrev pub and_then : Row → (ℕ → Row) → Row
and_then (Ok p) f = f p
and_then (Err r) f = Err r

-- n bytes, whatever they are
unfoldable pub bytes : List ℕ → ℕ → ℕ → Row
bytes b n p = cond (holds n b p) (Ok (p + n)) (no Eof)

-- a number of k bytes, and what it says of what comes behind it
abbrev pub sized : ℕ → List ℕ → (ℕ → ℕ → Row) → ℕ → Row
sized k b f p = number_then (no Eof) k b f p

-- n bytes of text
unfoldable pub name : List ℕ → ℕ → ℕ → Row
name b n p = and_then (bytes b n p) (λ e. cond (eqb (good_bytes (take n (drop p b))) n) (Ok e) (no Text))

-- "over a cap": a count of 4 bytes that may be `most` at most, and what is said of it and of the place behind it; or what is said of its
-- refusal
unfoldable pub count_then : {A : Type 0} → (Refusal → A) → ℕ → List ℕ → (ℕ → ℕ → A) → ℕ → A
count_then refused most b f p = number_then (refused Eof) 4 b (λ n q. cond (leb n most) (f n q) (refused Size)) p

-- the count alone
unfoldable pub count_at : ℕ → List ℕ → ℕ → Result ℕ Refusal
count_at most b p = count_then Err most b (λ n q. Ok n) p

abbrev pub counted : ℕ → List ℕ → (ℕ → ℕ → Row) → ℕ → Row
counted most b f p = count_then no most b f p
