-- Copies: byte by byte, and of sixteen bytes for the first few of them. Assumes nothing.
use Rattle.std.proofs.Common.{◌≡◌, ℕ, suc, ◌+◌, ◌-◌, ◌/◌, ◌<◌, ◌≤◌, List, length, get_or, take, drop, set, refl, ap, ◌∙◌, add-one, arith, length-drop, length-take-le, get_or-drop, take-take}
use lib.Seq.{paste, paste-suc}
use Rattle.std.specs.Simd.{first_chunks}
use Rattle.std.proofs.lemmas.List.{take_rest}
use Rattle.writer.specs.Inner.Put.{Wrote}
use Rattle.writer.proofs.Wrote.{first, wider}

-- one more
pub copied : (old s : List ℕ) (p at i : ℕ) {new : List ℕ} → p + i < length old → at + i < length s → new ≡ paste old p (drop at s) i →
    set new (p + i) (get_or s (at + i) 0) ≡ paste old p (drop at s) (i + 1)
copied old s p at i h k e =
    ap (λ (x : List ℕ). set x (p + i) (get_or s (at + i) 0)) e ∙
    rw (add-one i, ← get_or-drop at s i 0) (paste-suc old p (drop at s) i 0 h (simp length-drop (omega arith)))

-- the part of the texts that is copied
pub part : (s : List ℕ) (at n : ℕ) → take (at + n - at) (drop at s) ≡ take n (drop at s)
part s at n = let e : at + n - at ≡ n = omega arith in ap (λ (m : ℕ). take m (drop at s)) e

-- the first sixteen bytes from a place on, as std cuts a slice into sixteens
pub first_sixteen : (s : List ℕ) (at : ℕ) (sixteens : List (List ℕ)) (d : List ℕ) → at + 16 ≤ length s
    → (let t = take (length s - at) (drop at s) in sixteens ≡ first_chunks 16 (length t / 16) t) → get_or sixteens 0 d ≡ take 16 (drop at s)
first_sixteen s at sixteens d h e =
    let size = length-drop at s in
    let some : length (drop at s) / 16 ≡ suc (length (drop at s) / 16 - 1) = omega arith in
    rw (e, take_rest s at, some) refl

-- the first few of sixteen bytes are a text
pub sixteen : {old new : List ℕ} (s : List ℕ) (p at n : ℕ) {end : ℕ} → n ≤ 16 → at + 16 ≤ length s → p + 16 ≤ end → p ≤ length old →
    Wrote old new p (p + 16) (p + 16) (take 16 (drop at s)) → Wrote old new p (p + n) end (take n (drop at s))
sixteen s p at n h i j k w =
    let l : length (take 16 (drop at s)) ≡ 16 = length-take-le 16 (drop at s) (simp length-drop (omega arith)) in
    rw (← take-take n 16 (drop at s) h) (first n (omega arith) k (wider refl (omega arith) w))
