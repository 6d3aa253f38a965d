-- Laws of writes, for who fills a cache or notes its slots: a run of bytes that is written one by one, and a bit. Assumes nothing.
use Prim.Native.Nat.{ℕ, suc, ◌+◌, ◌*◌, ◌^◌, ◌%◌, ◌≤◌, ◌<◌}
use native.Mathlib.Nat.{one-mul}
use native.Mathlib.Numerals.{add-one}
use native.Mathlib.Omega.{arith}
use mathlib.Core.Path.{◌≡◌, sym, ap, ◌∙◌}
use mathlib.Core.List.{List, ◌++◌, append_assoc}
use lib.ListN.{length, get_or, set, take, drop, drop_of_length-le}
use lib.Pow.{shl_exact}
use lib.Seq.{sets, sets-eq, drop-cons, drop-drop}
use borrow.Rule.Slice.PartMut.{put_mid}

-- one byte of a run, and the rest of it
pub sets_more : (l s : List ℕ) (k i : ℕ) → i < length s → sets l (k + i) (drop i s) ≡ sets (set l (k + i) (get_or s i 0)) (k + (i + 1)) (drop (i + 1) s)
sets_more l s k i h =
    let e : k + (i + 1) ≡ suc (k + i) = omega arith in
    rw (e, add-one i, drop-cons s i 0 h)

-- behind the last
pub sets_all : (l s : List ℕ) (k i : ℕ) → length s ≤ i → sets l k (drop i s) ≡ l
sets_all l s k i h = rw (drop_of_length-le s h)

-- or copied into a part
pub copied : (l s : List ℕ) (k : ℕ) {n : ℕ} → n ≡ length s → k + length s ≤ length l → put_mid k n l s ≡ sets l k s
copied l s k e h =
    rw e (ap (λ (x : List ℕ). take k l ++ (s ++ x)) (drop-drop (length s) k l) ∙ sym (append_assoc (take k l) s (drop (k + length s) l)) ∙ sym (sets-eq s l k h))

-- the code's 2 ^ k
pub shifted : (k : ℕ) → k < 64 → 1 * 2 ^ k % 2 ^ 64 ≡ 2 ^ k
shifted k h = shl_exact {a = 1} 1 k 64 (omega arith) (omega arith) ∙ one-mul (2 ^ k)
