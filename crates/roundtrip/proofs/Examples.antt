-- Two rows written and read back, and two wrong writers: what they write, read by any call that keeps the promise of reading, doesn't return the row.
-- Assumes nothing.
use Prim.Native.Nat.{ℕ, ◌+◌}
use native.Mathlib.Omega.{arith}
use mathlib.Core.Path.{◌≡◌, refl}
use mathlib.Core.List.{List, [], ◌∷◌, flat_map}
use lib.IntN.{pos, negsuc}
use lib.ListN.{length}
use Rattle.numbers.specs.Allowed.{plain}
use Rattle.fields.specs.Be.{be, le, bytes_of, digits_of, signed}
use Rattle.layouts.specs.Tree.{Tree, leaf, bytes, size}
use Rattle.layouts.specs.Layout as layout
use Rattle.layouts.specs.Layout.{Laid, row}
use Rattle.layouts.specs.Nodes.{nodes, nodes_all}
use Rattle.layouts.specs.Values.{by_sign, big_integer}
use Rattle.reading.specs.Told.{Told}
use Rattle.tape.specs.Cells.{words, taped}
use Rattle.tape.specs.Inner.Fill.{words_all}
use Rattle.tape.specs.Read.{Recorded}
use Rattle.tape.proofs.Records.{written as wrote}
use Rattle.measure.specs.Item.{Item, integer, atom, tuple, list, nil, kids_of}
use Rattle.measure.specs.Term.{first, behind, ended, big, integer_tree, tree_of, trees_of, written}
use Rattle.roundtrip.specs.Told.{said, front_length, is_tail, item_at, told}
use Rattle.roundtrip.specs.RoundTrip.{tails, tails_of, Returns}

-- the tape of a row's term
abbrev tape_of : List Item → List ℕ
tape_of s = words_all (trees_of s) 1 0 0

-- [{-1, 4294967296}, [], ok]: six items, eight cells
abbrev mixed : List Item
mixed = list 3 ∷ tuple 2 ∷ integer (negsuc 0) ∷ integer (pos 4294967296) ∷ list 0 ∷ atom (111 ∷ 107 ∷ []) ∷ []

abbrev mixed_bytes : List ℕ
mixed_bytes =
    131 ∷ 108 ∷ 0 ∷ 0 ∷ 0 ∷ 3 ∷ 104 ∷ 2 ∷ 98 ∷ 255 ∷ 255 ∷ 255 ∷ 255 ∷ 110 ∷ 5 ∷ 0 ∷ 0 ∷ 0 ∷ 0 ∷ 0 ∷ 1 ∷ 108 ∷ 0 ∷ 0 ∷ 0 ∷ 0 ∷ 106 ∷ 119 ∷ 2 ∷ 111 ∷ 107 ∷ 106 ∷ []

pub mixed_back : (written mixed ≡ mixed_bytes) × (told mixed_bytes (tape_of mixed) 8 ≡ mixed)
unfolding written trees_of first behind ended tree_of integer_tree big kids_of bytes_of digits_of bytes size words_all nodes_all flat_map told is_tail item_at said front_length be le signed big_integer by_sign
mixed_back = (refl, refl)

-- a list of a Nil and an empty list: the Nil is an item, and two tails come at the end
abbrev nils : List Item
nils = list 2 ∷ nil ∷ list 0 ∷ []

abbrev nils_bytes : List ℕ
nils_bytes = 131 ∷ 108 ∷ 0 ∷ 0 ∷ 0 ∷ 2 ∷ 106 ∷ 108 ∷ 0 ∷ 0 ∷ 0 ∷ 0 ∷ 106 ∷ 106 ∷ []

pub nils_back : (written nils ≡ nils_bytes) × (told nils_bytes (tape_of nils) 5 ≡ nils)
unfolding written trees_of first behind ended tree_of kids_of bytes_of bytes size words_all nodes_all flat_map told is_tail item_at said front_length be
nils_back = (refl, refl)

-- bytes that are a term's return what is told of that term's tape
returned : {s : List Item} {limit : ℕ} {r : Told} {old new : List ℕ} (t : Tree) → Laid plain t → Recorded (131 ∷ bytes t) limit r old new → Returns (131 ∷ bytes t) s r new →
    told (131 ∷ bytes t) (taped 1 t old) (length s + tails s) ≡ s
returned t l p h = rw (wrote p h.done t l refl, h.cells) at h.items

module _ {limit : ℕ} {r : Told} {old new : List ℕ} where
  -- -1 as the byte 255: that is 255
  pub unsigned : Recorded (131 ∷ 97 ∷ 255 ∷ []) limit r old new → ¬ Returns (131 ∷ 97 ∷ 255 ∷ []) (integer (negsuc 0) ∷ []) r new
  unfolding bytes nodes flat_map words taped tails tails_of told is_tail item_at said front_length be
  unsigned p h =
      let e : integer (pos 255) ∷ [] ≡ integer (negsuc 0) ∷ [] = returned (leaf 97 (255 ∷ [])) (row (layout.small_integer refl)) p h in
      let z : ◌≡◌ {A = ℕ} 0 1 = cc in
      omega arith

  -- an empty list as a Nil alone: that is a Nil
  pub no-list : Recorded (131 ∷ 106 ∷ []) limit r old new → ¬ Returns (131 ∷ 106 ∷ []) (list 0 ∷ []) r new
  unfolding bytes nodes flat_map words taped tails tails_of told is_tail item_at said front_length be
  no-list p h =
      let e = returned (leaf 106 []) (row layout.nil) p h in
      let z : ◌≡◌ {A = ℕ} 0 1 = cc in
      omega arith
