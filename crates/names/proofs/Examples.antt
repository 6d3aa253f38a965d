-- Forms beside the slots. A map itself is a lawful one, which takes every name. One that walks past a name isn't, over any cache in which a slot
-- is empty, and one that forgets the other slots isn't, over any in which one holds a name. Assumes nothing.
use Prim.Native.Nat.{ℕ}
use native.Mathlib.Omega.{arith}
use mathlib.Core.Path.{◌≡◌, refl, sym, ap}
use mathlib.Core.Bool.{cond}
use mathlib.Core.List.{List, []}
use lib.Dec.{eqb}
use Rattle.std.specs.Prelude.{Some, None, Result, Ok, Err}
use Rattle.numbers.specs.declared.Refusal.{Refusal}
use Rattle.names.specs.Form.{Held, Form}
use Rattle.names.specs.Inner.Map.{updated, Bytes, Lawful}

-- a form that is made of the map itself, by what it makes of one when a name is put
abbrev maps_by : ((ℕ → Held) → ℕ → List ℕ → ℕ → Held) → Form
maps_by f = record { State = ℕ → Held; held = λ s. s; put = λ s i n. Ok (f s i n) }

abbrev map_of : Result (ℕ → Held) Refusal → ℕ → Held
map_of (Ok s) = s
map_of (Err r) = λ j. None

pub maps_lawful : Lawful (maps_by updated) (λ s. Unit {0})
maps_lawful = record {
  put_view = λ {s} h {i} k {n} l {t} e j. ap (λ (p : Result (ℕ → Held) Refusal). map_of p j) (sym e);
  put_sound = λ h k l e. tt;
}

no_name : {n : List ℕ} → None ≡ Some n → ⊥
no_name e = absurd (let z : ◌≡◌ {A = ℕ} 0 1 = cc in omega arith)

low : Bytes []
low k = omega arith

-- a name that is walked past isn't there
pub walks_past : {Sound : (ℕ → Held) → Type 0} → Lawful (maps_by (λ s i n. s)) Sound → {s : ℕ → Held} → s 5 ≡ None → Sound s → ⊥
unfolding updated
walks_past L e h = no_name {n = []} (rw e at (L.put_view h {i = 5} (omega arith) {n = []} low refl 5))

-- and one that is forgotten with another's coming isn't there any more
pub forgets : {Sound : (ℕ → Held) → Type 0} → Lawful (maps_by (λ s i n j. cond (eqb i j) (Some n) None)) Sound → {s : ℕ → Held} {n : List ℕ} → s 6 ≡ Some n → Sound s → ⊥
unfolding updated
forgets L {s} {n} e h = no_name {n = n} (rw e at (L.put_view h {i = 5} (omega arith) {n = []} low refl 6))
