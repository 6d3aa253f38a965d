-- A cache of names: what a form of it is, and what a header leaves of one. Document 01, "Name cache", with what it says of slots left out.
use Rattle.std.specs.Prelude.{ℕ, List, [], ◌∷◌, take, drop, Option, Result, Ok, Err}
use Rattle.numbers.specs.declared.Refusal.{Refusal}
use Rattle.references.specs.declared.Reference.{Reference}
use Rattle.references.specs.declared.Reference.TheVariants as ref
use Rattle.references.specs.Header.{Said}

-- the name that a slot holds, if it holds one
abbrev pub Held : Type 0
Held = Option (List ℕ)

-- a form of cache: what it is made of, what each slot holds, and the cache with a name that is put into a slot, or why that is refused
pub record Form : Type 1 where
  pub State : Type 0
  pub held : State → ℕ → Held
  pub put : State → ℕ → List ℕ → Result State Refusal

-- what a header leaves: where the rest begins, or why it is refused, and the cache
pub record Left (State : Type 0) : Type 0 where
  pub rest : Result ℕ Refusal
  pub cache : State

module _ {State : Type 0} where
  abbrev pub left : Result ℕ Refusal → State → Left State
  left rest s = record { rest = rest; cache = s }

  -- by what became of a name: "A name with its length is stored when complete; a later fault keeps it"
  unfoldable pub after : State → (State → Left State) → Result State Refusal → Left State
  after s more (Ok t) = more t
  after s more (Err r) = left (Err r) s

-- references over a cache, in order, up to the first refusal, be it the header's or the cache's own
unfoldable pub put_all : (F : Form) → List ℕ → Result ℕ Refusal → List Reference → F.State → Left F.State
put_all F b rest [] s = left rest s
put_all F b rest (ref.Old slot ∷ rs) s = put_all F b rest rs s
put_all F b rest (ref.New slot at n ∷ rs) s = after s (put_all F b rest rs) (F.put s slot (take n (drop at b)))

-- what a header says, over a cache
abbrev pub over : (F : Form) → List ℕ → Said → F.State → Left F.State
over F b h s = put_all F b h.rest h.references s
