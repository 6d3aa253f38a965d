-- Storing a name: its slot holds it then, every other slot holds what it held, and the store keeps its length and stays one of bytes.
-- Assumes nothing.
use Prim.Native.Nat.{ℕ, zero, suc, ◌+◌, ◌-◌, ◌*◌, ◌≤◌, ◌<◌}
use native.Mathlib.Omega.{arith}
use mathlib.Core.Path.{◌≡◌, refl, sym, ap, ◌∙◌}
use mathlib.Core.Logic.{◌⊎◌, inl, inr}
use mathlib.Core.Bool.{Bool, true, false}
use mathlib.Core.List.{List, [], ◌∷◌, ◌++◌, append_assoc}
use borrow.Author.Tests.{ltb-true, ltb-false}
use lib.Dec.{ltb}
use lib.ListN.{length, get_or, set, take, drop}
use lib.Seq.{sets, sets-eq, length-sets, length-take-le, get_or_at, drop_at, take_at, drop-drop, get_or-set_other, drop-set-lt, drop-set-add, take-set-le}
use Rattle.cache.specs.Names.{slot_bytes, stored, store_bytes, name_in}
use Rattle.cache.proofs.Below.{Below, sets_below}

-- what no write within a run changes, the run of writes doesn't change
kept : {A : Type 0} (f : List ℕ → A) (vs s : List ℕ) (q : ℕ) → ((l : List ℕ) (k v : ℕ) → q ≤ k → k < q + length vs → f (set l k v) ≡ f l) → f (sets s q vs) ≡ f s
kept f [] s q h = refl
kept f (v ∷ vs) s q h = kept f vs (set s q v) (suc q) (λ l k u g e. h l k u (omega arith) (omega arith)) ∙ h s q v (omega arith) (omega arith)

-- a write before a part, or behind it
set_outside : (n p : ℕ) (l : List ℕ) (k v : ℕ) → (k < p) ⊎ (p + n ≤ k) → take n (drop p (set l k v)) ≡ take n (drop p l)
set_outside n p l k v (inl h) = ap (take n) (drop-set-lt p l k v h)
set_outside n p l k v (inr h) =
    let e : p + (k - p) ≡ k = omega arith in
    ap (λ (x : ℕ). take n (drop p (set l x v))) (sym e) ∙ ap (take n) (drop-set-add p l (k - p) v) ∙ take-set-le n (drop p l) (k - p) v (omega arith)

-- a length and a name are written, and read back
read_back : (s : List ℕ) (q : ℕ) (n : List ℕ) → q + suc (length n) ≤ length s → take (get_or (sets s q (length n ∷ n)) q 0) (drop (q + 1) (sets s q (length n ∷ n))) ≡ n
read_back s q n h =
    let front : List ℕ = take q s in
    let behind : List ℕ = drop (q + suc (length n)) s in
    let size : length front ≡ q = length-take-le q s (omega arith) in
    ap (λ (l : List ℕ). take (get_or l q 0) (drop (q + 1) l)) (sets-eq (length n ∷ n) s q h ∙ append_assoc front (length n ∷ n) behind)
    ∙ ap (λ (m : ℕ). take m (drop (q + 1) (front ++ (length n ∷ (n ++ behind))))) (get_or_at front (length n) (n ++ behind) 0 q size)
    ∙ ap (take (length n)) (sym (drop-drop 1 q (front ++ (length n ∷ (n ++ behind)))) ∙ ap (drop 1) (drop_at front (length n ∷ (n ++ behind)) q size))
    ∙ take_at n behind (length n) refl

pub stored_same : (s : List ℕ) (i : ℕ) (n : List ℕ) → length s ≡ store_bytes → i < 256 → length n ≤ 255 → name_in (stored s i n) i ≡ n
unfolding name_in stored
stored_same s i n h g f = read_back s (i * slot_bytes) n (omega arith)

-- the bytes of one slot are none of another's
apart : (i j n : ℕ) → n ≤ 255 → (i ≡ j → ⊥) → (k : ℕ) → i * slot_bytes ≤ k → k < i * slot_bytes + suc n → (k < j * slot_bytes) ⊎ (j * slot_bytes + slot_bytes ≤ k)
apart i j n h d k g f = go (ltb i j) refl
  where
    go : (t : Bool) → ltb i j ≡ t → (k < j * slot_bytes) ⊎ (j * slot_bytes + slot_bytes ≤ k)
    go true e = inl (omega (arith, ltb-true i j e))
    go false e = inr (omega (arith, ltb-false i j e))

pub stored_other : (s : List ℕ) (i : ℕ) (n : List ℕ) (j : ℕ) → Below 256 s → length n ≤ 255 → (i ≡ j → ⊥) → name_in (stored s i n) j ≡ name_in s j
unfolding name_in stored
stored_other s i n j h g d =
    ap (λ (m : ℕ). take m (drop (j * slot_bytes + 1) (sets s (i * slot_bytes) (length n ∷ n))))
    (kept (λ (l : List ℕ). get_or l (j * slot_bytes) 0) (length n ∷ n) s (i * slot_bytes) (λ l k v a b. get_or-set_other l k (j * slot_bytes) v 0 (length_byte (apart i j (length n) g d k a b))))
    ∙ kept (λ (l : List ℕ). take (get_or s (j * slot_bytes) 0) (drop (j * slot_bytes + 1) l)) (length n ∷ n) s (i * slot_bytes)
    (λ l k v a b. set_outside (get_or s (j * slot_bytes) 0) (j * slot_bytes + 1) l k v (name-bytes (apart i j (length n) g d k a b)))
  where
    length_byte : {k : ℕ} → (k < j * slot_bytes) ⊎ (j * slot_bytes + slot_bytes ≤ k) → j * slot_bytes ≡ k → ⊥
    length_byte (inl e) p = omega arith
    length_byte (inr e) p = omega arith

    name-bytes : {k : ℕ} → (k < j * slot_bytes) ⊎ (j * slot_bytes + slot_bytes ≤ k) → (k < j * slot_bytes + 1) ⊎ (j * slot_bytes + 1 + get_or s (j * slot_bytes) 0 ≤ k)
    name-bytes (inl e) = inl (omega arith)
    name-bytes (inr e) = inr (omega (arith, h (j * slot_bytes)))

pub stored-length : (s : List ℕ) (i : ℕ) (n : List ℕ) → length (stored s i n) ≡ length s
unfolding stored
stored-length s i n = length-sets s (i * slot_bytes) (length n ∷ n)

pub stored-below : (s : List ℕ) (i : ℕ) (n : List ℕ) → Below 256 s → length n ≤ 255 → Below 256 n → Below 256 (stored s i n)
unfolding stored
stored-below s i n h g f = sets_below 256 s (i * slot_bytes) (length n ∷ n) h (λ k. go k)
  where
    go : (k : ℕ) → get_or (length n ∷ n) k 0 < 256
    go zero = omega arith
    go (suc k) = f k
