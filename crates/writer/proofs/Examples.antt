-- What is written of small rows, and what a write leaves of them, as the definitions compute it; each shuts out a writer that it names. Assumes nothing.
use Rattle.std.proofs.Common.{◌≡◌, ℕ, List, [], ◌∷◌, get_or, Ok, Err, pos, negsuc, sym, refl, ap, ◌∙◌}
use Rattle.numbers.specs.declared.Refusal.TheVariants as refusal
use Rattle.fields.specs.Be.{bytes_of, digits_of}
use Rattle.layouts.specs.Tree.{count, bytes_all, depths}
use Rattle.measure.specs.Item.{integer, double, tuple, list, map, nil, kids_of, allowed}
use Rattle.measure.specs.Term.{first, behind, ended, big, integer_tree, tree_of, trees_of, sound, written, accepted}
use Rattle.writer.specs.Write.{Left, left, write_over}

pub record Examples : Type 0 where
  -- 2^31, 2^32 and -2^63 in the fewest digits, least first: a writer of one more, of 98 for all, or of the largest first writes another
  pub digits_4 : written (integer (pos 2147483648) ∷ []) ≡ 131 ∷ 110 ∷ 4 ∷ 0 ∷ 0 ∷ 0 ∷ 0 ∷ 128 ∷ []
  pub digits_5 : written (integer (pos 4294967296) ∷ []) ≡ 131 ∷ 110 ∷ 5 ∷ 0 ∷ 0 ∷ 0 ∷ 0 ∷ 0 ∷ 1 ∷ []
  pub digits_8 : written (integer (negsuc 9223372036854775807) ∷ []) ≡ 131 ∷ 110 ∷ 8 ∷ 1 ∷ 0 ∷ 0 ∷ 0 ∷ 0 ∷ 0 ∷ 0 ∷ 0 ∷ 128 ∷ []
  pub minus_one : written (integer (negsuc 0) ∷ []) ≡ 131 ∷ 98 ∷ 255 ∷ 255 ∷ 255 ∷ 255 ∷ []
  -- 1.5, with its bits as they are
  pub one_and_a_half : written (double 4609434218613702656 ∷ []) ≡ 131 ∷ 70 ∷ 63 ∷ 248 ∷ 0 ∷ 0 ∷ 0 ∷ 0 ∷ 0 ∷ 0 ∷ []
  -- an empty list is no Nil, and each list has its own tail: [[], []]
  pub no_element : written (list 0 ∷ []) ≡ 131 ∷ 108 ∷ 0 ∷ 0 ∷ 0 ∷ 0 ∷ 106 ∷ []
  pub a_nil : written (nil ∷ []) ≡ 131 ∷ 106 ∷ []
  pub tails : written (list 2 ∷ list 0 ∷ nil ∷ []) ≡ 131 ∷ 108 ∷ 0 ∷ 0 ∷ 0 ∷ 2 ∷ 108 ∷ 0 ∷ 0 ∷ 0 ∷ 0 ∷ 106 ∷ 106 ∷ 106 ∷ []
  -- #{1 => {}}: a map counts pairs
  pub a_pair : written (map 1 ∷ integer (pos 1) ∷ tuple 0 ∷ []) ≡ 131 ∷ 116 ∷ 0 ∷ 0 ∷ 0 ∷ 1 ∷ 97 ∷ 1 ∷ 104 ∷ 0 ∷ []

pub examples : Examples
unfolding kids_of first behind ended big integer_tree tree_of trees_of written bytes_of digits_of bytes_all
examples = record { digits_4 = refl; digits_5 = refl; digits_8 = refl; minus_one = refl; one_and_a_half = refl; no_element = refl; a_nil = refl; tails = refl; a_pair = refl }

-- Room is found before a byte is written: a writer that has put 131 by then leaves another byte, or doesn't say 9 and 2
pub room-first : (x : ℕ) → write_over (nil ∷ []) (x ∷ []) ≡ left (Err (refusal.Room 2)) (x ∷ [])
unfolding kids_of allowed first behind tree_of trees_of sound written accepted bytes_all count depths write_over
room-first x = refl

-- so no call that meets the promise changes a byte then
pub early_byte : {x y : ℕ} {new : List ℕ} → new ≡ (write_over (nil ∷ []) (x ∷ [])).bytes → new ≡ y ∷ [] → x ≡ y
early_byte {x} {y} p q = ap (λ (l : List ℕ). get_or l 0 0) (sym (ap (λ (l : Left). l.bytes) (room-first x)) ∙ sym p ∙ q)

-- Items comes before Room, whatever is lent
pub items-first : (old : List ℕ) → write_over [] old ≡ left (Err refusal.Items) old
unfolding trees_of sound accepted count write_over
items-first old = refl

-- bytes behind the term stay: a writer that clears what it is lent leaves another
pub behind_the_term : (x y z : ℕ) → write_over (nil ∷ []) (x ∷ y ∷ z ∷ []) ≡ left (Ok 2) (131 ∷ 106 ∷ z ∷ [])
unfolding kids_of allowed first behind tree_of trees_of sound written accepted bytes_all count depths write_over
behind_the_term x y z = refl
