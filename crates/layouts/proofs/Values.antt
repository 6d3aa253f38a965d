-- The values of the layouts' own trees: a big integer is its digits with its sign, a tag 107's integers are its bytes. Assumes nothing.
use Prim.Native.Nat.{ℕ, zero, suc, ◌+◌, ◌^◌, ◌<◌}
use mathlib.Core.Path.{◌≡◌, refl, ap, sym, ◌∙◌}
use mathlib.Core.List.{List, [], ◌∷◌, ◌++◌, map}
use mathlib.Core.Bool.{Bool, true, false, cond}
use lib.Dec.{eqb}
use lib.IntN.{pos, negsuc, neg_ℤ, nat_abs}
use lib.ListN.{length, get_or, drop}
use lib.Seq.{drop_at, drop-drop, get_or_at, get_or-drop}
use Rattle.fields.specs.Be.{le}
use Rattle.fields.specs.Inner.Be.{Bytes}
use Rattle.fields.proofs.Digits.{le_below}
use Rattle.layouts.specs.Tree.{Tree, node, leaf}
use Rattle.layouts.specs.Inner.Shape.{front_of}
use Rattle.layouts.specs.Layout.{Number}
use Rattle.layouts.specs.Values.{by_sign, big_integer, integers}

-- a number of k bytes, a sign and digits
module _ {k m : ℕ} (n : List ℕ) (sign : ℕ) (s : List ℕ) (w : Number k n m) where
  pub sign-is : get_or (n ++ (sign ∷ s)) k 0 ≡ sign
  sign-is = get_or_at n sign s 0 k w.wide

  pub digits_are : drop (k + 1) (n ++ (sign ∷ s)) ≡ s
  digits_are = sym (drop-drop 1 k (n ++ (sign ∷ s))) ∙ ap (drop 1) (drop_at n (sign ∷ s) k w.wide)

  behind-is : by_sign (get_or (n ++ (sign ∷ s)) k 0) (le (drop (k + 1) (n ++ (sign ∷ s)))) ≡ by_sign sign (le s)
  behind-is = rw (sign-is, digits_are)

pub small-big-is : {m : ℕ} (n : List ℕ) (sign : ℕ) (s : List ℕ) → Number 1 n m → big_integer (leaf 110 (n ++ (sign ∷ s))) ≡ by_sign sign (le s)
unfolding big_integer
small-big-is n sign s w = behind-is n sign s w

pub large_big-is : {m : ℕ} (n : List ℕ) (sign : ℕ) (s : List ℕ) → Number 4 n m → big_integer (leaf 111 (n ++ (sign ∷ s))) ≡ by_sign sign (le s)
unfolding big_integer
large_big-is n sign s w = behind-is n sign s w

-- its distance from 0 is what the digits spell, and lies below what so many bytes hold
pub distance : (sign n : ℕ) → nat_abs (by_sign sign n) ≡ n
unfolding by_sign
distance sign n = go (eqb sign 0) n
  where
    go : (x : Bool) (n : ℕ) → nat_abs (cond x (pos n) (neg_ℤ (pos n))) ≡ n
    go true n = refl
    go false zero = refl
    go false (suc n) = refl

pub distance_below : (sign : ℕ) {s : List ℕ} → Bytes s → nat_abs (by_sign sign (le s)) < 256 ^ length s
distance_below sign {s} r = rw (distance sign (le s)) (le_below r)

-- the integers of a tag 107 are the bytes behind its length, and so 0 to 255
pub string-is : {m : ℕ} (n s : List ℕ) → Number 2 n m → integers (leaf 107 (n ++ s)) ≡ map pos s
unfolding integers
string-is n s w = ap (map pos) (drop_at n s 2 w.wide)

each : (s : List ℕ) (i : ℕ) → get_or (map pos s) i (pos 0) ≡ pos (get_or s i 0)
each [] i = refl
each (x ∷ s) zero = refl
each (x ∷ s) (suc i) = each s i

pub integer-at : (t : Tree) (i : ℕ) → get_or (integers t) i (pos 0) ≡ pos (get_or (front_of t) (2 + i) 0)
unfolding integers
integer-at (node tag front kids back) i = each (drop 2 front) i ∙ ap pos (get_or-drop 2 front i 0)

-- -513 in two digits, 256 in three of which the top is 0, and minus 0; the string "ab"
pub big_513 : big_integer (leaf 110 (2 ∷ 1 ∷ 1 ∷ 2 ∷ [])) ≡ negsuc 512
unfolding big_integer by_sign le
big_513 = refl

pub big_256 : big_integer (leaf 111 (0 ∷ 0 ∷ 0 ∷ 3 ∷ 0 ∷ 0 ∷ 1 ∷ 0 ∷ [])) ≡ pos 256
unfolding big_integer by_sign le
big_256 = refl

pub minus-zero : big_integer (leaf 110 (1 ∷ 255 ∷ 0 ∷ [])) ≡ pos 0
unfolding big_integer by_sign le
minus-zero = refl

pub string_ab : integers (leaf 107 (0 ∷ 2 ∷ 97 ∷ 98 ∷ [])) ≡ pos 97 ∷ pos 98 ∷ []
unfolding integers
string_ab = refl
