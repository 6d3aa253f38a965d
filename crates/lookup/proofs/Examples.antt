-- What every answer that the promise allows says on some records; each shuts out a wrong lookup that it names. The term stands behind
-- byte 131, so its place is 1, and the limit is 64. Assumes nothing.
use Prim.Native.Nat.{◌+◌, ◌≤◌}
use native.Mathlib.Omega.{arith}
use mathlib.Core.Path.{◌≡◌, refl, ap, ◌∙◌}
use mathlib.Core.List.{[], ◌∷◌}
use lib.Dec.{lit≤}
use lib.IntN.{pos, negsuc}
use lib.ListN.{length}
use lib.Seq.{take-length}
use Rattle.numbers.specs.Allowed.{plain}
use Rattle.fields.specs.Be.{be, signed}
use Rattle.utf8.specs.Unicode.{scalar, encode}
use Rattle.utf8.specs.Good as good
use Rattle.reading.specs.Told.{Told}
use Rattle.reading.specs.Answer.{read_at}
use Rattle.layouts.specs.Tree.{Tree, node, none, more, leaf, count, bytes, size, depth, Stands}
use Rattle.layouts.specs.Layout.{Laid, row, map, nil, small_integer, integer, small_atom, string, small_big, no_more, one_more}
use Rattle.accepts.proofs.Accepts.{read_complete}
use Rattle.lookup.specs.Lookup.{Key, name, number, Looked}
use Rattle.lookup.specs.Inner.Found.{equal, found, looked}
use Rattle.lookup.proofs.Says.{one-looked}

-- a term that is there is read, and what is looked up in it goes by its tree
module _ (t : Tree) (a : Laid plain t) (low : depth t ≤ 64) (short : length (bytes t) ≤ 16777215) where
  stands : Stands (131 ∷ bytes t) 1 (bytes t)
  stands = record { inside = omega arith; same = take-length (bytes t) }

  read : Told
  read = read_at (131 ∷ bytes t) 1 64

  is_read : (read.number ≡ 0) × (read.end ≡ 1 + length (bytes t)) × (read.begun ≡ size t)
  unfolding read
  is_read = read_complete plain (131 ∷ bytes t) 1 64 t a (omega arith) low (omega arith) (omega arith) stands

  by_tree : {k : Key} {r : Told} → Looked (131 ∷ bytes t) 1 64 k r → r ≡ looked k 1 t read
  unfolding read
  by_tree l = one-looked _ 1 _ (l.done is_read.0 t a stands)

-- 131 116 0 0 0 2 97 1 97 7 98 0 0 0 1 97 8: key 1 is found at 15. A lookup that stops at the first equal key says 8
pairs : Tree
pairs =
    node 116 (0 ∷ 0 ∷ 0 ∷ 2 ∷ [])
    (more (leaf 97 (1 ∷ [])) (more (leaf 97 (7 ∷ []))
    (more (leaf 98 (0 ∷ 0 ∷ 0 ∷ 1 ∷ [])) (more (leaf 97 (8 ∷ [])) none)))) []

pairs-laid : Laid plain pairs
unfolding pairs be count
pairs-laid =
    map {m = 2} (record { wide = refl; is = refl }) (lit≤ tt) refl
    (one_more (row (small_integer refl)) (one_more (row (small_integer refl))
    (one_more (row (integer refl)) (one_more (row (small_integer refl)) no_more))))

pub last_wins : {r : Told} → Looked (131 ∷ 116 ∷ 0 ∷ 0 ∷ 0 ∷ 2 ∷ 97 ∷ 1 ∷ 97 ∷ 7 ∷ 98 ∷ 0 ∷ 0 ∷ 0 ∷ 1 ∷ 97 ∷ 8 ∷ []) 1 64 (number (pos 1)) r →
    (r.number ≡ 0) × (r.offset ≡ 15) × (r.end ≡ 17) × (r.begun ≡ 5)
unfolding pairs bytes depth size be signed equal found looked
last_wins {r} l =
    let e = by_tree pairs pairs-laid (omega arith) (omega arith) l in
    let (n, f, c) = is_read pairs pairs-laid (omega arith) (omega arith) in
    (ap (λ (x : Told). x.number) e ∙ n, ap (λ (x : Told). x.offset) e, ap (λ (x : Told). x.end) e ∙ f, ap (λ (x : Told). x.begun) e ∙ c)

-- a map of one key, whose value is Nil
only : Tree → Tree
only x = node 116 (0 ∷ 0 ∷ 0 ∷ 1 ∷ []) (more x (more (leaf 106 []) none)) []

only-laid : {x : Tree} → Laid plain x → Laid plain (only x)
unfolding only be count
only-laid a = map {m = 1} (record { wide = refl; is = refl }) (lit≤ tt) refl (one_more a (one_more (row nil) no_more))

-- 131 116 0 0 0 1 98 255 255 255 255 106: key -1 is found at 11. A lookup without two's complement says Absent
minus_one : Laid plain (leaf 98 (255 ∷ 255 ∷ 255 ∷ 255 ∷ []))
minus_one = row (integer refl)

pub signed_key : {r : Told} → Looked (131 ∷ 116 ∷ 0 ∷ 0 ∷ 0 ∷ 1 ∷ 98 ∷ 255 ∷ 255 ∷ 255 ∷ 255 ∷ 106 ∷ []) 1 64 (number (negsuc 0)) r → (r.number ≡ 0) × (r.offset ≡ 11)
unfolding only bytes depth be signed equal found looked
signed_key l =
    let e = by_tree (only _) (only-laid minus_one) (omega arith) (omega arith) l in
    (ap (λ (x : Told). x.number) e ∙ (is_read (only _) (only-laid minus_one) (omega arith) (omega arith)).0, ap (λ (x : Told). x.offset) e)

-- 131 116 0 0 0 1 110 1 0 1 106: key 1 is Absent, at the map. A lookup that compares big integers finds it
big-one : Laid plain (leaf 110 (1 ∷ 0 ∷ 1 ∷ []))
unfolding be
big-one = row (small_big (1 ∷ []) 0 (1 ∷ []) (record { wide = refl; is = refl }))

pub big_key : {r : Told} → Looked (131 ∷ 116 ∷ 0 ∷ 0 ∷ 0 ∷ 1 ∷ 110 ∷ 1 ∷ 0 ∷ 1 ∷ 106 ∷ []) 1 64 (number (pos 1)) r → (r.number ≡ 16) × (r.offset ≡ 1)
unfolding only bytes depth equal found looked
big_key l = let e = by_tree (only _) (only-laid big-one) (omega arith) (omega arith) l in (ap (λ (x : Told). x.number) e, ap (λ (x : Told). x.offset) e)

-- 131 116 0 0 0 1 119 2 97 98 106: the name 97 is Absent, at the map. A lookup that compares as many bytes as it is asked for finds it
two_letters : Laid plain (leaf 119 (2 ∷ 97 ∷ 98 ∷ []))
unfolding be scalar encode good.spelled
two_letters =
    let text : good.Utf8 (97 ∷ 98 ∷ []) = record { chars = 97 ∷ 98 ∷ []; scalars = good.more refl (good.more refl good.none); is = refl } in
    row (small_atom (2 ∷ []) (97 ∷ 98 ∷ []) (record { wide = refl; is = refl }) text)

pub longer_name : {r : Told} → Looked (131 ∷ 116 ∷ 0 ∷ 0 ∷ 0 ∷ 1 ∷ 119 ∷ 2 ∷ 97 ∷ 98 ∷ 106 ∷ []) 1 64 (name (97 ∷ [])) r → (r.number ≡ 16) × (r.offset ≡ 1)
unfolding only bytes depth equal found looked
longer_name l = let e = by_tree (only _) (only-laid two_letters) (omega arith) (omega arith) l in (ap (λ (x : Told). x.number) e, ap (λ (x : Told). x.offset) e)

-- 131 116 0 0 0 1 107 0 1 97 106: the name 97 is Absent. A lookup that compares bytes whatever their tag finds it
one-letter : Laid plain (leaf 107 (0 ∷ 1 ∷ 97 ∷ []))
unfolding be
one-letter = row (string (0 ∷ 1 ∷ []) (97 ∷ []) (record { wide = refl; is = refl }))

pub string_key : {r : Told} → Looked (131 ∷ 116 ∷ 0 ∷ 0 ∷ 0 ∷ 1 ∷ 107 ∷ 0 ∷ 1 ∷ 97 ∷ 106 ∷ []) 1 64 (name (97 ∷ [])) r → (r.number ≡ 16) × (r.offset ≡ 1)
unfolding only bytes depth equal found looked
string_key l = let e = by_tree (only _) (only-laid one-letter) (omega arith) (omega arith) l in (ap (λ (x : Told). x.number) e, ap (λ (x : Told). x.offset) e)

-- 131 106: Kind, at the term, with its tag
pub not_a_map : (k : Key) {r : Told} → Looked (131 ∷ 106 ∷ []) 1 64 k r → (r.number ≡ 13) × (r.offset ≡ 1) × (r.extra ≡ 106)
unfolding bytes depth looked
not_a_map k l =
    let e = by_tree (leaf 106 []) (row nil) (omega arith) (omega arith) l in
    (ap (λ (x : Told). x.number) e, ap (λ (x : Told). x.offset) e, ap (λ (x : Told). x.extra) e)
