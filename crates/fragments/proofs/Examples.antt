-- Fragments of the ETF chapter's shapes, worked out: a first one and a later one, whole, followed, cut at every byte, and with a wrong
-- version and a wrong tag. Assumes nothing.
use Prim.Native.Nat.{ℕ, zero, suc}
use mathlib.Core.Path.{◌≡◌, refl}
use mathlib.Core.List.{List, [], ◌∷◌, ◌++◌}
use lib.ListN.{take, replicate}
use Rattle.std.specs.Prelude.{Ok, Err}
use Rattle.fields.specs.Be.{be, be_at}
use Rattle.fields.specs.Field.{holds, field_at, number_then, byte_then}
use Rattle.numbers.specs.declared.Refusal.TheVariants as refusal
use Rattle.fragments.specs.Fragment.{opened, first_at, next_at}

-- sequence 258, fragment 3, one name; and fragment 2 of the same message
abbrev pub a_first : List ℕ
a_first = 131 ∷ 69 ∷ 0 ∷ 0 ∷ 0 ∷ 0 ∷ 0 ∷ 0 ∷ 1 ∷ 2 ∷ 0 ∷ 0 ∷ 0 ∷ 0 ∷ 0 ∷ 0 ∷ 0 ∷ 3 ∷ 1 ∷ []

abbrev pub a_next : List ℕ
a_next = 131 ∷ 70 ∷ 0 ∷ 0 ∷ 0 ∷ 0 ∷ 0 ∷ 0 ∷ 1 ∷ 2 ∷ 0 ∷ 0 ∷ 0 ∷ 0 ∷ 0 ∷ 0 ∷ 0 ∷ 2 ∷ []

pub first-whole : first_at a_first ≡ Ok (record { rest = 19; sequence = 258; fragment = 3; count = 1 })
unfolding first_at opened byte_then number_then field_at holds be_at be
first-whole = refl

-- the name's flags, slot, length and text, and a term behind them, are the rest
pub first_more : first_at (a_first ++ (8 ∷ 5 ∷ 1 ∷ 97 ∷ 106 ∷ [])) ≡ first_at a_first
unfolding first_at opened byte_then number_then field_at holds be_at be
first_more = refl

pub next-whole : next_at a_next ≡ Ok (record { rest = 18; sequence = 258; fragment = 2 })
unfolding next_at opened byte_then number_then field_at holds be_at be
next-whole = refl

pub next_more : next_at (a_next ++ (106 ∷ [])) ≡ next_at a_next
unfolding next_at opened byte_then number_then field_at holds be_at be
next_more = refl

-- what `f` says of the first k - 1, k - 2, .. 0 bytes
pub cuts : {A : Type 0} → (List ℕ → A) → List ℕ → ℕ → List A
cuts f b zero = []
cuts f b (suc k) = f (take k b) ∷ cuts f b k

pub first_cut : cuts first_at a_first 19 ≡ replicate 19 (Err refusal.Eof)
unfolding cuts first_at opened byte_then number_then field_at holds be_at be
first_cut = refl

pub next_cut : cuts next_at a_next 18 ≡ replicate 18 (Err refusal.Eof)
unfolding cuts next_at opened byte_then number_then field_at holds be_at be
next_cut = refl

-- a wrong first byte is told before the missing bytes behind it
pub first-version : first_at (130 ∷ []) ≡ Err (refusal.Version 130)
unfolding first_at opened byte_then number_then field_at holds be_at be
first-version = refl

pub next-version : next_at (130 ∷ 69 ∷ []) ≡ Err (refusal.Version 130)
unfolding next_at opened byte_then number_then field_at holds be_at be
next-version = refl

-- each refuses the other's tag
pub first_kind : first_at a_next ≡ Err (refusal.Kind 70)
unfolding first_at opened byte_then number_then field_at holds be_at be
first_kind = refl

pub next_kind : next_at a_first ≡ Err (refusal.Kind 69)
unfolding next_at opened byte_then number_then field_at holds be_at be
next_kind = refl
