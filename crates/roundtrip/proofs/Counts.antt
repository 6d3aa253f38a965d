-- Trees that say a row have a term for each of its items and one for each tail. Assumes nothing.
use Prim.Native.Nat.{◌+◌}
use native.Mathlib.Omega.{arith}
use mathlib.Core.Path.{◌≡◌, refl}
use mathlib.Core.Bool.{Bool, cond}
use mathlib.Core.List.{List, [], ◌∷◌, ◌++◌}
use lib.ListN.{length, length-append}
use Rattle.layouts.specs.Tree.{Forest, sizes}
use Rattle.measure.specs.Item.{Item}
use Rattle.roundtrip.specs.RoundTrip.{tails}
use Rattle.roundtrip.proofs.Says.{Says, no_more, tail, one_more}

tails-append : (l m : List Item) → tails (l ++ m) ≡ tails l + tails m
unfolding tails
tails-append [] m = omega arith
tails-append (i ∷ l) m = omega (arith, tails-append l m)

pub counted : {x : Bool} {ts : Forest} {s : List Item} → Says x ts s → sizes ts ≡ length s + tails s + cond x 1 0
unfolding sizes tails
counted no_more = refl
counted tail = refl
counted (one_more {l = l} {m} f k w) = omega (arith, counted k, counted w, f.tails, length-append l m, tails-append l m)
