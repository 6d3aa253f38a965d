-- What a fragment's header answers: "Fragments: 131, tag 69, two 8-byte numbers, one byte, rest at 19; or 131, tag 70, two 8-byte numbers,
-- rest at 18" (document 01). The numbers are the message's sequence and the fragment's own.
use Rattle.std.specs.Prelude.{ℕ, List, cond, ltb, length, Result, Ok, Err}
use Rattle.numbers.specs.Caps as cap
use Rattle.numbers.specs.declared.Refusal.{Refusal}
use Rattle.numbers.specs.declared.Refusal.TheVariants as refusal
use Rattle.fields.specs.Field.{number_then, byte_then}
use Rattle.fragments.specs.declared.FirstFragment.{FirstFragment}
use Rattle.fragments.specs.declared.NextFragment.{NextFragment}
use Rattle.fragments.specs.declared.Opening.{Opening}

abbrev pub missing : {A : Type 0} → Result A Refusal
missing = Err refusal.Eof

-- what both begin with: "131, tag .., two 8-byte numbers". "Long, then reading left to right"; Version: "fragment's first byte; that byte";
-- Kind: "not a .. fragment ..; the tag"
unfoldable pub opened : ℕ → List ℕ → Result Opening Refusal
opened tag b =
    cond (ltb cap.input (length b)) (Err refusal.Long)
    (byte_then missing (λ v. Err (refusal.Version v)) 131 b (byte_then missing (λ t. Err (refusal.Kind t)) tag b
    (number_then missing 8 b (λ s p. number_then missing 8 b (λ f q. Ok (record { sequence = s; fragment = f })) p))) 0)

-- and what is said of an opening that there is
abbrev pub behind : {A : Type 0} → (Opening → Result A Refusal) → Result Opening Refusal → Result A Refusal
behind says (Ok o) = says o
behind says (Err r) = Err r

-- "131, tag 69, two 8-byte numbers, one byte, rest at 19"
unfoldable pub first_at : List ℕ → Result FirstFragment Refusal
first_at b =
    behind
    (λ o. number_then missing 1 b (λ n p. Ok (record { rest = p; sequence = o.sequence; fragment = o.fragment; count = n })) 18)
    (opened 69 b)

-- "131, tag 70, two 8-byte numbers, rest at 18"
unfoldable pub next_at : List ℕ → Result NextFragment Refusal
next_at b = behind (λ o. Ok (record { rest = 18; sequence = o.sequence; fragment = o.fragment })) (opened 70 b)
