-- `showterm::read`: an accepted record has no more cells than the tape has room for.
use Prim.Native.Nat.{ℕ}
use native.Mathlib.Omega.{arith}
use mathlib.Core.Path.{◌≡◌, refl}
use Rattle.std.specs.Prelude.{Result, Ok, Err}
use Rattle.reading.specs.declared.Done.{Done}
use Rattle.reading.specs.declared.Refused.{Refused}
use Rattle.reading.specs.Told.{told}
use Rattle.tape.proofs.Accepts.{in_room}
use Rattle.tape.proofs.Records.{record_sure}
use Rattle.showterm.proofs.read.Goals as goal

-- the terms begun are told as they are
begun : (o : Result Done Refused) (c n : ℕ) → (told o c n).begun ≡ c
begun (Ok d) c n = refl
begun (Err r) c n = refl

pub returns : goal.returns
returns c e =
    let a = c.read.result in
    omega (arith, begun a.outcome a.begun a.deepest, in_room (record_sure _ _) c.read.ensures e, c.read.auto.tape)
