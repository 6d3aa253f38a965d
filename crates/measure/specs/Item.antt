-- The items of a row, and which of them may stand in a term. Document 02, P1: "integer of 64 bits, double, atom, binary, tuple, proper list, map,
-- Nil".
use Rattle.std.specs.Prelude.{ℕ, ◌+◌, ◌*◌, Bool, true, false, cond, ◌&&◌, List, [], ◌∷◌, length, take, drop, ℤ, pos, negsuc, ◌==◌, nat_le, nat_lt}
use Rattle.std.proofs.Math.IntN.{sub_ℕ}
use Rattle.numbers.specs.Caps as cap
use Rattle.utf8.specs.Inner.Find.{good_bytes}

-- an item, with its text's bytes in place of the text's place: a double is its 64 bits; a tuple, a list and a map are their numbers of
-- children, elements and pairs. `wrong` is what no kind of item is, or whose text lies outside the lent ones
pub data Item : Type 0 where
  integer : ℤ → Item
  double : ℕ → Item
  atom binary : List ℕ → Item
  tuple list map : ℕ → Item
  nil wrong : Item

-- 64 bits in two's complement: from 2 ^ 63 on a number stands for itself less 2 ^ 64
unfoldable pub signed64 : ℕ → ℤ
signed64 x = cond (nat_lt x 9223372036854775808) (pos x) (sub_ℕ x 18446744073709551616)

-- "a place lies outside the lent texts": of the n bytes from `at` on one isn't there
unfoldable pub text_at : (List ℕ → Item) → List ℕ → (at n : ℕ) → Item
text_at f texts at n = cond (nat_le (at + n) (length texts)) (f (take n (drop at texts))) wrong

-- an item's three numbers: its kind, and two fields. Only what stands here of the fields is looked at
unfoldable pub item_of : List ℕ → (kind x y : ℕ) → Item
item_of texts kind x y =
    cond (kind == 1) (integer (signed64 x))
    (cond (kind == 2) (double x)
    (cond (kind == 3) (text_at atom texts x y)
    (cond (kind == 4) (text_at binary texts x y)
    (cond (kind == 5) (tuple x)
    (cond (kind == 6) (list x)
    (cond (kind == 7) (map x)
    (cond (kind == 8) nil
    wrong)))))))

-- the items of a row, three numbers to each; one or two that are left over mean nothing
unfoldable pub items_of : List ℕ → List ℕ → List Item
items_of texts [] = []
items_of texts (kind ∷ []) = wrong ∷ []
items_of texts (kind ∷ x ∷ []) = wrong ∷ []
items_of texts (kind ∷ x ∷ y ∷ row) = item_of texts kind x y ∷ items_of texts row

-- how many of the terms behind it are its children
unfoldable pub kids_of : Item → ℕ
kids_of (integer z) = 0
kids_of (double n) = 0
kids_of (atom s) = 0
kids_of (binary s) = 0
kids_of (tuple n) = n
kids_of (list n) = n
kids_of (map n) = 2 * n
kids_of nil = 0
kids_of wrong = 0

-- what is asked of an item by itself: "a name isn't UTF-8 or over 65,535 bytes, a cap .. is passed"
unfoldable pub allowed : Item → Bool
allowed (integer (pos n)) = nat_lt n 9223372036854775808
allowed (integer (negsuc n)) = nat_lt n 9223372036854775808
allowed (double n) = nat_lt n 18446744073709551616
allowed (atom s) = nat_le (length s) 65535 && good_bytes s == length s
allowed (binary s) = nat_le (length s) cap.binary
allowed (tuple n) = nat_le n cap.elements
allowed (list n) = nat_le n cap.elements
allowed (map n) = nat_le n cap.pairs
allowed nil = true
allowed wrong = false
