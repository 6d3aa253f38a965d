-- Two numbers that lie side by side are one number, and one of a byte is the byte. Assumes nothing.
use Rattle.std.proofs.Common.{◌≡◌, ℕ, ◌+◌, ◌*◌, ◌^◌, ◌<◌, ◌≤◌, List, length, get_or, take, drop, arith, length-drop, length-take-le, drop-cons, drop-drop, take-add}
use Rattle.utf8.specs.Inner.Check.{le}
use Rattle.utf8.proofs.Eights.{le-append}

-- the number of the k bytes from `at` on, the first worth least
abbrev pub le_at : ℕ → List ℕ → ℕ → ℕ
le_at k b at = le (take k (drop at b))

pub le_joined : (j k : ℕ) (b : List ℕ) (at m n : ℕ) → at + (j + k) ≤ length b → m ≡ le_at j b at → n ≡ le_at k b (at + j) → m + n * 256 ^ j ≡ le_at (j + k) b at
le_joined j k b at m n h e f =
    rw (e, f, take-add, drop-drop, le-append, length-take-le j (drop at b) (simp length-drop (omega arith)))

pub le-one : (b : List ℕ) (at : ℕ) → at < length b → le_at 1 b at ≡ get_or b at 0
unfolding le
le-one b at h = rw (drop-cons b at 0) (omega arith)
