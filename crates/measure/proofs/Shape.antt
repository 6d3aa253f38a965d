-- Every item's tree has one form: its first bytes, its children, with a tail where it is a list, and nothing behind them. So its bytes, and how
-- deep it is nested, are told of all kinds at once. Assumes nothing.
use Rattle.std.proofs.Common.{◌≡◌, ℕ, suc, ◌≤◌, Bool, true, false, cond, ltb, leb, ◌↔◌, List, [], ◌∷◌, ◌++◌, length, pos, negsuc, sym, refl, append_assoc, append-nil, arith}
use native.Mathlib.Nat.{le-max_left, le-max_right, max-le}
use Rattle.fields.specs.Be.{bytes_of}
use Rattle.layouts.specs.Tree.{Tree, Forest, node, none, more, count, depth, depths, bytes, bytes_all}
use Rattle.measure.specs.Item.{Item, integer, double, atom, binary, tuple, list, map, nil, wrong, kids_of}
use Rattle.measure.specs.Term.{ended, big, integer_tree, tree_of}
use Rattle.measure.specs.Inner.Own.{head_in, head_of, tail_of}
use Rattle.measure.proofs.Forests.{empty}

-- the children with a tail, where there is one
unfoldable tailed : List ℕ → Forest → Forest
tailed [] ts = ts
tailed (x ∷ l) ts = ended ts

-- a tree of that form
data Shape (head tail : List ℕ) (ts : Forest) : Tree → Type 0 where
  shape : (tag : ℕ) (front : List ℕ) → head ≡ tag ∷ front → Shape head tail ts (node tag front (tailed tail ts) [])

-- of one of two trees
either : (x : Bool) (t u : Tree) {ts : Forest} → Shape (head_in t) [] ts t → Shape (head_in u) [] ts u → Shape (head_in (cond x t u)) [] ts (cond x t u)
either true t u a b = a
either false t u a b = b

plain : (tag : ℕ) (front : List ℕ) (ts : Forest) → Shape (tag ∷ front) [] ts (node tag front ts [])
unfolding tailed
plain tag front ts = shape tag front refl

shape_of : (i : Item) (ts : Forest) → count ts ≡ kids_of i → Shape (head_of i) (tail_of i) ts (tree_of i ts)
unfolding tree_of head_of tail_of kids_of integer_tree big tailed
shape_of (integer (pos n)) ts c = rw (empty ts c) (either (ltb n 256) _ _ (plain _ _ none) (either (ltb n 2147483648) _ _ (plain _ _ none) (plain _ _ none)))
shape_of (integer (negsuc n)) ts c = rw (empty ts c) (either (ltb n 2147483648) _ _ (plain _ _ none) (plain _ _ none))
shape_of (double n) ts c = rw (empty ts c) (plain _ _ none)
shape_of (atom s) ts c = rw (empty ts c) (either (leb (length s) 255) _ _ (plain _ _ none) (plain _ _ none))
shape_of (binary s) ts c = rw (empty ts c) (plain _ _ none)
shape_of (tuple n) ts c = go (leb n 255)
  where
    go : (x : Bool) → Shape (head_in (cond x (node 104 (bytes_of 1 n) none []) (node 105 (bytes_of 4 n) none []))) [] ts (cond x (node 104 (bytes_of 1 n) ts []) (node 105 (bytes_of 4 n) ts []))
    go true = plain _ _ ts
    go false = plain _ _ ts
shape_of (list n) ts c = shape 108 (bytes_of 4 n) refl
shape_of (map n) ts c = plain _ _ ts
shape_of nil ts c = rw (empty ts c) (plain _ _ none)
shape_of wrong ts c = rw (empty ts c) (plain _ _ none)

-- ---- its bytes

bytes-ended : (ts : Forest) → bytes_all (ended ts) ≡ bytes_all ts ++ (106 ∷ [])
unfolding bytes_all ended bytes
bytes-ended none = refl
bytes-ended (more t ts) = rw (bytes-ended ts) (sym (append_assoc (bytes t) (bytes_all ts) (106 ∷ [])))

tail_is : (i : Item) (ts : Forest) → bytes_all (tailed (tail_of i) ts) ≡ bytes_all ts ++ tail_of i
unfolding tailed tail_of
tail_is (integer z) ts = sym (append-nil (bytes_all ts))
tail_is (double n) ts = sym (append-nil (bytes_all ts))
tail_is (atom s) ts = sym (append-nil (bytes_all ts))
tail_is (binary s) ts = sym (append-nil (bytes_all ts))
tail_is (tuple n) ts = sym (append-nil (bytes_all ts))
tail_is (list n) ts = bytes-ended ts
tail_is (map n) ts = sym (append-nil (bytes_all ts))
tail_is nil ts = sym (append-nil (bytes_all ts))
tail_is wrong ts = sym (append-nil (bytes_all ts))

-- a tree's bytes: the item's own, its children's, its tail
pub split : (i : Item) (ts : Forest) → count ts ≡ kids_of i → bytes (tree_of i ts) ≡ head_of i ++ (bytes_all ts ++ tail_of i)
unfolding bytes
split i ts c = go (shape_of i ts c)
  where
    go : {t : Tree} → Shape (head_of i) (tail_of i) ts t → bytes t ≡ head_of i ++ (bytes_all ts ++ tail_of i)
    go (shape tag front e) = rw (e, append-nil (bytes_all (tailed (tail_of i) ts)), tail_is i ts) refl

-- ---- how deep it is nested

deep_ended : (ts : Forest) (k : ℕ) → (depths (ended ts) ≤ k) ↔ ((depths ts ≤ k) × (1 ≤ k))
unfolding depths ended
deep_ended none k = (λ h. (omega arith, omega (arith, le-max_left 1 0)), λ h. max-le {a = 1} {b = 0} h.1 (omega arith))
deep_ended (more t ts) k = (
  λ h.
      let (x, y) = (deep_ended ts k).0 (omega (arith, le-max_right (depth t) (depths (ended ts)))) in
      (max-le {a = depth t} {b = depths ts} (omega (arith, le-max_left (depth t) (depths (ended ts)))) x, y),
  λ h.
      max-le {a = depth t} {b = depths (ended ts)} (omega (arith, h.0, le-max_left (depth t) (depths ts)))
      ((deep_ended ts k).1 (omega (arith, h.0, le-max_right (depth t) (depths ts)), h.1)),
)

deep_tailed : (l : List ℕ) (ts : Forest) (k : ℕ) → length l ≤ 1 → (depths (tailed l ts) ≤ k) ↔ ((depths ts ≤ k) × (length l ≤ k))
unfolding tailed
deep_tailed [] ts k o = (λ h. (h, omega arith), λ h. h.0)
deep_tailed (x ∷ []) ts k o = deep_ended ts k
deep_tailed (x ∷ y ∷ l) ts k o = absurd (omega arith)

pub one_tail : (i : Item) → length (tail_of i) ≤ 1
unfolding tail_of
one_tail (integer z) = omega arith
one_tail (double n) = omega arith
one_tail (atom s) = omega arith
one_tail (binary s) = omega arith
one_tail (tuple n) = omega arith
one_tail (list n) = omega arith
one_tail (map n) = omega arith
one_tail nil = omega arith
one_tail wrong = omega arith

-- "a tail Nil that is no item but counts for nesting"
pub deep : (i : Item) (ts : Forest) (k : ℕ) → count ts ≡ kids_of i → (depth (tree_of i ts) ≤ suc k) ↔ ((depths ts ≤ k) × (length (tail_of i) ≤ k))
unfolding depth
deep i ts k c = go (shape_of i ts c)
  where
    go : {t : Tree} → Shape (head_of i) (tail_of i) ts t → (depth t ≤ suc k) ↔ ((depths ts ≤ k) × (length (tail_of i) ≤ k))
    go (shape tag front e) = let (x, y) = deep_tailed (tail_of i) ts k (one_tail i) in (λ h. x (omega arith), λ h. let z = y h in omega arith)
