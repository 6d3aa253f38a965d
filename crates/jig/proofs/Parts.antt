-- The parts that the second calls hand out, by place and length. Assumes nothing.
use mathlib.Core.Path.{◌≡◌, refl}
use mathlib.Core.List.{List}
use Prim.Native.Nat.{ℕ}
use lib.ListN.{get_or, take, drop}
use Rattle.std.specs.Prelude.{Result, Ok, Err}
use Rattle.numbers.specs.declared.Refusal.{Refusal}
use Rattle.cache.specs.declared.Name.{Name}
use Rattle.cache.specs.Names as names
use Rattle.agree.specs.Head.{run_at, part}
use Rattle.headwords.specs.Words.{part_words}
use Rattle.jig.specs.Shown.{name_words}

-- the bytes at the place that is told are the part
pub part-told : (b : List ℕ) (at : ℕ) → let told = part_words (run_at b at) in take (get_or told 1 0) (drop (get_or told 0 0) b) ≡ part b at
unfolding part
part-told b at = refl

-- and of a name in the store
pub name-told : (store : List ℕ) (g : Result Name Refusal) → take (get_or (name_words g) 2 0) (drop (get_or (name_words g) 1 0) store) ≡ names.part_of store g
name-told store (Ok n) = refl
name-told store (Err r) = refl
