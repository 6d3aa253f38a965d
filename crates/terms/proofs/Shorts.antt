-- A child that `shortcut` finds is read so. Assumes nothing.
use mathlib.Core.Path.{◌≡◌, sym}
use Rattle.std.specs.Prelude.{Option, Some, None, MatchOption}
use mathlib.Core.List.{List}
use Prim.Native.Nat.{ℕ, ◌+◌, ◌-◌, ◌≤◌}
use native.Mathlib.Omega.{arith}
use lib.ListN.{length}
use Rattle.numbers.specs.Caps as cap
use Rattle.shortcut.specs.Inner.Short.{short_end}
use Rattle.shortcut.proofs.Shorts.{ShortRow, short_row}
use Rattle.reading.proofs.Families.{term-row}
use Rattle.terms.specs.Inner.Lent.{Short}

pub short-is : (b : List ℕ) (rem at : ℕ) (r : Option ℕ) → ¬ (rem ≡ 0) → length b ≤ cap.input → r ≡ short_end b at → MatchOption r Unit (λ end. Short b rem at end)
short-is b rem at None some size e = tt
short-is b rem at (Some end) some size e =
    let r : ShortRow b at end = short_row b at size (sym e) in
    record {
      some = some;
      after = r.after;
      inside = r.inside;
      same = λ allow limit last count deep.
          let d : limit + 1 - rem ≡ limit - (rem - 1) = omega (arith, some) in
          rw d (term-row allow b limit rem (record { at = at; last = last; begun = count; deepest = deep }) (omega (arith, r.after, r.inside)) some (r.same allow));
    }
