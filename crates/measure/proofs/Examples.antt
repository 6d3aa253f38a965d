-- What rows need, as the definitions compute it: each cause of a refusal on a small row, and its neighbours that are written. Each shuts out a pass that
-- it names. Assumes nothing.
use Rattle.std.proofs.Common.{◌≡◌, ℕ, zero, suc, true, false, List, [], ◌∷◌, Option, Some, None, refl}
use Rattle.fields.specs.Be.{bytes_of, digits_of}
use Rattle.utf8.specs.Unicode.{scalar, encode}
use Rattle.utf8.specs.Inner.Find.{decode, starts, char_bytes, good_from, good_bytes}
use Rattle.layouts.specs.Tree.{count, bytes, bytes_all, depths}
use Rattle.measure.specs.Item.{Item, tuple, list, signed64, text_at, item_of, items_of, kids_of, allowed}
use Rattle.measure.specs.Term.{first, behind, ended, big, integer_tree, tree_of, trees_of, sound, written, accepted, needed}
use Rattle.measure.specs.Inner.Own.{twos_of, owes_of}

-- the bytes that the row's numbers need, with these texts
abbrev need : List ℕ → List ℕ → Option ℕ
need texts row = needed (items_of texts row)

pub record Examples : Type 0 where
  -- "the row isn't one term": a pass that takes an empty row, one that ends early or one that goes on says 1, 3 and 2
  pub none : need [] [] ≡ None
  pub early : need [] (5 ∷ 2 ∷ 0 ∷ 8 ∷ 0 ∷ 0 ∷ []) ≡ None
  pub late : need [] (8 ∷ 0 ∷ 0 ∷ 8 ∷ 0 ∷ 0 ∷ []) ≡ None
  -- no kind, and words left over
  pub unfilled : need [] (0 ∷ 0 ∷ 0 ∷ []) ≡ None
  pub unknown : need [] (9 ∷ 0 ∷ 0 ∷ []) ≡ None
  pub left_over : need [] (8 ∷ 0 ∷ 0 ∷ 8 ∷ []) ≡ None
  -- "a place lies outside the lent texts": a length of 0 at their end is inside, one further is outside
  pub at_the_end : need (97 ∷ []) (4 ∷ 1 ∷ 0 ∷ []) ≡ Some 6
  pub behind_it : need (97 ∷ []) (4 ∷ 2 ∷ 0 ∷ []) ≡ None
  pub wraps : need (97 ∷ []) (4 ∷ 18446744073709551615 ∷ 2 ∷ []) ≡ None
  -- "a name isn't UTF-8"; a binary may be anything
  pub bad_name : need (255 ∷ []) (3 ∷ 0 ∷ 1 ∷ []) ≡ None
  pub good-name : need (97 ∷ []) (3 ∷ 0 ∷ 1 ∷ []) ≡ Some 4
  pub any_bytes : need (255 ∷ []) (4 ∷ 0 ∷ 1 ∷ []) ≡ Some 7
  -- "a cap .. is passed"
  pub many_elements : need [] (6 ∷ 10000001 ∷ 0 ∷ []) ≡ None
  pub many_children : need [] (5 ∷ 10000001 ∷ 0 ∷ []) ≡ None
  pub many_pairs : need [] (7 ∷ 1000001 ∷ 0 ∷ []) ≡ None
  -- integers: the least and the largest that a tag takes
  pub byte : need [] (1 ∷ 255 ∷ 0 ∷ []) ≡ Some 3
  pub word : need [] (1 ∷ 256 ∷ 0 ∷ []) ≡ Some 6
  pub last_word : need [] (1 ∷ 2147483647 ∷ 0 ∷ []) ≡ Some 6
  pub four_digits : need [] (1 ∷ 2147483648 ∷ 0 ∷ []) ≡ Some 8
  pub five_digits : need [] (1 ∷ 4294967296 ∷ 0 ∷ []) ≡ Some 9
  pub least_word : need [] (1 ∷ 18446744071562067968 ∷ 0 ∷ []) ≡ Some 6
  pub below_it : need [] (1 ∷ 18446744071562067967 ∷ 0 ∷ []) ≡ Some 8
  pub least : need [] (1 ∷ 9223372036854775808 ∷ 0 ∷ []) ≡ Some 12
  -- "a list, empty too, takes 108 and a tail Nil"
  pub empty_list : need [] (6 ∷ 0 ∷ 0 ∷ []) ≡ Some 7
  -- fields that an item doesn't use are ignored
  pub unused : need [] (8 ∷ 7 ∷ 7 ∷ []) ≡ Some 2

pub examples : Examples
unfolding signed64 text_at item_of items_of kids_of allowed first behind ended big integer_tree tree_of trees_of sound written accepted needed bytes_of digits_of bytes bytes_all count depths good_bytes good_from char_bytes decode scalar encode starts
examples = record {
  none = refl;
  early = refl;
  late = refl;
  unfilled = refl;
  unknown = refl;
  left_over = refl;
  at_the_end = refl;
  behind_it = refl;
  wraps = refl;
  bad_name = refl;
  good-name = refl;
  any_bytes = refl;
  many_elements = refl;
  many_children = refl;
  many_pairs = refl;
  byte = refl;
  word = refl;
  last_word = refl;
  four_digits = refl;
  five_digits = refl;
  least_word = refl;
  below_it = refl;
  least = refl;
  empty_list = refl;
  unused = refl;
}

-- so many tuples of one, each in the one before, around a row
unfoldable pub within : ℕ → List Item → List Item
within zero s = s
within (suc n) s = tuple 1 ∷ within n s

-- "nesting is over 64": an empty tuple at nesting 64 is written, an empty list there isn't, since its tail would be at 65. A pass that doesn't count
-- the tail takes both
pub deepest-tuple : accepted (within 63 (tuple 0 ∷ [])) ≡ true
unfolding within kids_of allowed first behind tree_of trees_of sound written accepted bytes_of bytes bytes_all count depths
deepest-tuple = refl

pub deepest-list : accepted (within 63 (list 0 ∷ [])) ≡ false
unfolding within kids_of allowed first behind ended tree_of trees_of sound written accepted bytes_of bytes bytes_all count depths
deepest-list = refl

-- what an item owes: a pass that forgets the tail says 0 of an empty list, one that takes pairs for children 2 of a pair
pub owes_tail : owes_of 6 0 ≡ 1
unfolding twos_of owes_of
owes_tail = refl

pub owes_pair : owes_of 7 1 ≡ 4
unfolding twos_of owes_of
owes_pair = refl
