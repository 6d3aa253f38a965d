-- The map that a cache is, and what names do to it; which of a header's names are completed; and what makes a form of cache a lawful one.
use Rattle.std.specs.Prelude.{ℕ, zero, suc, ◌+◌, ◌<◌, ◌≡◌, List, [], ◌∷◌, cond, eqb, get_or, take, drop, Some, None, Result, Ok, Err}
use Rattle.references.specs.declared.Reference.{Reference}
use Rattle.references.specs.declared.Reference.TheVariants as ref
use Rattle.numbers.specs.declared.Refusal.{Refusal}
use Rattle.names.specs.Form.{Held, Form}

-- a map in which slot i holds a name
unfoldable pub updated : (ℕ → Held) → ℕ → List ℕ → ℕ → Held
updated held i n j = cond (eqb i j) (Some n) (held j)

-- a name on its way to a slot, and a map into which some are put in order
pub record Named : Type 0 where
  pub slot : ℕ
  pub name : List ℕ

unfoldable pub updated_all : (ℕ → Held) → List Named → ℕ → Held
updated_all held [] = held
updated_all held (n ∷ ns) = updated_all (updated held n.slot n.name) ns

-- a header's new names in order, up to the first refusal: those that it completes over a cache
unfoldable pub completing : {State : Type 0} → Named → (State → List Named) → Result State Refusal → List Named
completing n more (Ok t) = n ∷ more t
completing n more (Err r) = []

unfoldable pub completed : (F : Form) → List ℕ → List Reference → F.State → List Named
completed F b [] s = []
completed F b (ref.Old slot ∷ rs) s = completed F b rs s
completed F b (ref.New slot at n ∷ rs) s = completing (record { slot = slot; name = take n (drop at b) }) (completed F b rs) (F.put s slot (take n (drop at b)))

-- how many of the first k slots hold a name
abbrev pub one : Held → ℕ
one None = 0
one (Some n) = 1

unfoldable pub held_slots : (ℕ → Held) → ℕ → ℕ
held_slots held zero = 0
held_slots held (suc k) = held_slots held k + one (held k)

-- bytes
abbrev pub Bytes : List ℕ → Type 0
Bytes l = (k : ℕ) → get_or l k 0 < 256

-- A form is lawful over the caches that its own calls make (`Sound`) where a name that is put into one changes one slot of the map, and leaves
-- such a cache.
pub record Lawful (F : Form) (Sound : F.State → Type 0) : Type 0 where
  pub put_view : {s : F.State} → Sound s → {i : ℕ} → i < 256 → {n : List ℕ} → Bytes n → {t : F.State} → F.put s i n ≡ Ok t →
      (j : ℕ) → F.held t j ≡ updated (F.held s) i n j
  pub put_sound : {s : F.State} → Sound s → {i : ℕ} → i < 256 → {n : List ℕ} → Bytes n → {t : F.State} → F.put s i n ≡ Ok t → Sound t
