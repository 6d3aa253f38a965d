-- Two numbers that lie side by side are one number. Assumes nothing.
use Prim.Native.Nat.{ℕ, ◌+◌, ◌*◌, ◌^◌, ◌≤◌}
use native.Mathlib.Omega.{arith}
use mathlib.Core.Path.{◌≡◌}
use mathlib.Core.List.{List}
use lib.ListN.{length, drop, length-drop}
use lib.Seq.{length-take-le, take-add, drop-drop}
use Rattle.fields.specs.Be.{be_at}
use Rattle.fields.proofs.Laws.{be-append}

pub be_joined : (j k : ℕ) (b : List ℕ) (at m n : ℕ) → at + (j + k) ≤ length b → m ≡ be_at j b at → n ≡ be_at k b (at + j) → m * 256 ^ k + n ≡ be_at (j + k) b at
unfolding be_at
be_joined j k b at m n h e f =
    rw (e, f, take-add, drop-drop, be-append, length-take-le k (drop (at + j) b) (simp length-drop (omega arith)))
