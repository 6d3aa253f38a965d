-- What is told of some inputs, as the definitions compute it; each shuts out a wrong call that it names. Assumes nothing.
use Prim.Native.Nat.{ℕ, ◌≤◌}
use native.Mathlib.Omega.{arith}
use mathlib.Core.Path.{◌≡◌, refl, ap, sym, ◌∙◌}
use mathlib.Core.Bool.{true}
use mathlib.Core.List.{List, [], ◌∷◌}
use lib.ListN.{length, get_or, replicate}
use lib.Count.{ones}
use lib.IntN.{negsuc}
use borrow.Author.Tests.{eq-eqb}
use Rattle.fields.specs.Be.{be, be_at}
use Rattle.fields.specs.Field.{holds, field_at, number_then}
use Rattle.utf8.specs.Unicode.{scalar, encode}
use Rattle.utf8.specs.Inner.Find.{decode, starts, char_bytes, good_from, good_bytes}
use Rattle.numbers.specs.Numbers as number
use Rattle.numbers.specs.Bits as bits
use Rattle.rows.specs.Row as row
use Rattle.rows.specs.Layout as layout
use Rattle.heads.specs.Inner.Head as head
use Rattle.agree.specs.Head.{run_at}
use Rattle.agree.proofs.HeadIs.{run_is}
use Rattle.cache.specs.declared.Cache.{Cache}
use Rattle.cache.specs.Names.{store_bytes, filled, count_of, got_at, slots}
use Rattle.cache.specs.declared.Cache.{Cache}
use Rattle.references.proofs.Examples as references
use Rattle.names.specs.Form.{put_all}
use Rattle.header.specs.Header.{header_over, answer_of}
use Rattle.cache.proofs.Examples as cache
use Rattle.positions.specs.Positions.{position_in, cell_in}
use Rattle.positions.proofs.Examples as positions
use Rattle.reading.specs.Told.{Told}
use Rattle.tape.specs.Read.{Promised}
use Rattle.message.specs.Message.{message_before}
use Rattle.message.proofs.Examples as message
use Rattle.lookup.specs.Lookup.{Looked}
use Rattle.lookup.specs.Lookup as key
use Rattle.lookup.proofs.Examples as lookup
use Rattle.fragments.specs.Fragment.{first_at, next_at}
use Rattle.measure.specs.Item.{nil}
use Rattle.writer.specs.Write.{Left, write_over}
use Rattle.writer.proofs.Examples as writer
use Rattle.fragments.proofs.Examples.{a_first, a_next, first-whole, first-version, next-whole, next_kind}
use Rattle.jig.specs.Shown.{interface, answer_words, Tells, name_words, header_words, first_words, next_words, written_words}
use Rattle.headwords.specs.Words.{part_words}

-- sill_interface: a call that answers 0, as what was never set does
pub no-interface : ¬ (0 ≡ interface)
no-interface h = omega arith

-- sill_part: the bytes of a string are no part. A call that hands out every run says 3 and 1
pub string-part : part_words (run_at (107 ∷ 0 ∷ 1 ∷ 97 ∷ []) 0) ≡ 0 ∷ 0 ∷ []
unfolding head.head_at head.term head.row_value head.fixed layout.row_at number_then row.bytes holds field_at be_at be
string-part = ap part_words (sym (run_is (107 ∷ 0 ∷ 1 ∷ 97 ∷ []) 0))

-- sill_empty: a call that fills the last slot, and one that leaves the words of a cache with names
abbrev of : List ℕ → Cache
of words = record { filled = words }

pub last-slot-filled : {words : List ℕ} → filled words 255 ≡ true → ¬ (words ≡ replicate 4 0)
last-slot-filled {words} h e = cache.last-slot-filled {r = of words} h (ap of e)

pub names-kept : {words : List ℕ} → ¬ (count_of words ≡ 0) → ¬ (words ≡ replicate 4 0)
unfolding count_of ones
names-kept h e = h (ap count_of e)

-- sill_count: a call that passes over the last word says 0; one that counts words with a name says 1
pub last_word : count_of (0 ∷ 0 ∷ 0 ∷ 1 ∷ []) ≡ 1
unfolding count_of ones
last_word = refl

pub two_in_a_word : count_of (3 ∷ 0 ∷ 0 ∷ 0 ∷ []) ≡ 2
unfolding count_of ones
two_in_a_word = refl

-- sill_get, of a store of which slot 0 begins 1 97: a call that tells the slot's place says 0; one that doesn't ask whether the slot is
-- filled tells this name in an empty cache too
module _ (rest : List ℕ) (h : length rest ≡ 65534) where
  pub behind_the_length : name_words (got_at (1 ∷ 0 ∷ 0 ∷ 0 ∷ []) (1 ∷ 97 ∷ rest) 0) ≡ 0 ∷ 1 ∷ 1 ∷ []
  unfolding got_at filled bits.bit
  behind_the_length = rw (eq-eqb (length (1 ∷ 97 ∷ rest)) store_bytes (omega arith)) refl

  pub no_name : name_words (got_at (0 ∷ 0 ∷ 0 ∷ 0 ∷ []) (1 ∷ 97 ∷ rest) 0) ≡ number.Absent ∷ 0 ∷ 0 ∷ []
  unfolding got_at filled bits.bit
  no_name = rw (eq-eqb (length (1 ∷ 97 ∷ rest)) store_bytes (omega arith)) refl

-- sill_header: a call that tells the extra before the rest says 13, 69, 0
pub header_kind : (c : Cache) (s : List ℕ) → length s ≡ store_bytes → header_words (answer_of (header_over (131 ∷ 69 ∷ []) c s)) ≡ number.Kind ∷ 0 ∷ 69 ∷ []
unfolding header_over put_all
header_kind c s h = rw (eq-eqb (length s) store_bytes h, (references.examples).kind)

-- sill_message, of 131 68 1 8 5 1 97 and a term, over an empty cache: a call that takes the byte behind 82 for a slot says Done of 82 5, which is Tag at
-- 7, and Tag of 82 0, which is Done
module _ (s : List ℕ) (h : length s ≡ store_bytes) {told path new old tape : List ℕ} where
  pub message_tag : Tells (λ r. Promised (message_before slots (131 ∷ 68 ∷ 1 ∷ 8 ∷ 5 ∷ 1 ∷ 97 ∷ 82 ∷ 5 ∷ []) (message.leaves s h (131 ∷ 68 ∷ 1 ∷ 8 ∷ 5 ∷ 1 ∷ 97 ∷ 82 ∷ 5 ∷ []))) (131 ∷ 68 ∷ 1 ∷ 8 ∷ 5 ∷ 1 ∷ 97 ∷ 82 ∷ 5 ∷ []) 64 r old tape) told path new →
      told ≡ number.Tag ∷ 0 ∷ 7 ∷ 0 ∷ 1 ∷ 1 ∷ 0 ∷ []
  unfolding message.answers
  message_tag f = f.shows ∙ ap answer_words (f.promised.answered ∙ message.not_by_slot s h (length old))

  pub message_done : Tells (λ r. Promised (message_before slots (131 ∷ 68 ∷ 1 ∷ 8 ∷ 5 ∷ 1 ∷ 97 ∷ 82 ∷ 0 ∷ []) (message.leaves s h (131 ∷ 68 ∷ 1 ∷ 8 ∷ 5 ∷ 1 ∷ 97 ∷ 82 ∷ 0 ∷ []))) (131 ∷ 68 ∷ 1 ∷ 8 ∷ 5 ∷ 1 ∷ 97 ∷ 82 ∷ 0 ∷ []) 64 r old tape) told path new →
      5 ≤ length old → get_or told 0 0 ≡ number.Done
  unfolding message.answers
  message_done f k = rw f.shows (ap (λ (a : Told). a.number) f.promised.answered ∙ message.by_position s h (length old) k)

-- sill_position and sill_atom, of a store of which slots 0 and 1 begin 1 97 and 1 98, and a header of two references, to slot 1 and to slot 0: a call
-- that takes a position for a slot tells the other name; one that asks no count tells a third; one that takes the tag for the position tells none
module _ (rest : List ℕ) (h : length rest ≡ 65278) where
  pub position-told : name_words (position_in (positions.words rest h) (positions.store rest h) (positions.run rest h) 0) ≡ 0 ∷ 257 ∷ 1 ∷ []
  position-told = ap name_words (positions.examples rest h).first

  pub third_told : name_words (position_in (positions.words rest h) (positions.store rest h) (positions.run rest h) 2) ≡ number.Absent ∷ 0 ∷ 0 ∷ []
  third_told = ap name_words (positions.examples rest h).past

  pub atom-told : name_words (cell_in (106 ∷ 82 ∷ 0 ∷ []) (positions.words rest h) (positions.store rest h) (positions.run rest h) 1) ≡ 0 ∷ 257 ∷ 1 ∷ []
  atom-told = ap name_words (positions.examples rest h).cell

  pub no-atom-told : name_words (cell_in (106 ∷ 82 ∷ 0 ∷ []) (positions.words rest h) (positions.store rest h) (positions.run rest h) 0) ≡ number.Tag ∷ 0 ∷ 0 ∷ []
  no-atom-told = ap name_words (positions.examples rest h).other

-- the lookups: a call that looks for another number finds none; one that looks for the front of a name finds it
pub number-found : {told old new : List ℕ} → Tells (Looked (131 ∷ 116 ∷ 0 ∷ 0 ∷ 0 ∷ 1 ∷ 98 ∷ 255 ∷ 255 ∷ 255 ∷ 255 ∷ 106 ∷ []) 1 64 (key.number (negsuc 0))) told old new → (get_or told 0 0 ≡ 0) × (get_or told 2 0 ≡ 11)
number-found f = rw f.shows (lookup.signed_key f.promised)

pub name_missed : {told old new : List ℕ} → Tells (Looked (131 ∷ 116 ∷ 0 ∷ 0 ∷ 0 ∷ 1 ∷ 119 ∷ 2 ∷ 97 ∷ 98 ∷ 106 ∷ []) 1 64 (key.name (97 ∷ []))) told old new → (get_or told 0 0 ≡ number.Absent) × (get_or told 2 0 ≡ 1)
name_missed f = rw f.shows (lookup.longer_name f.promised)

-- sill_first: a call that leaves the extra out says 12 and nothing more; one that exchanges any two numbers of a good one tells another row
pub version-told : first_words (first_at (130 ∷ [])) ≡ number.Version ∷ 0 ∷ 130 ∷ 0 ∷ 0 ∷ 0 ∷ []
version-told = ap first_words first-version

pub first-told : first_words (first_at a_first) ≡ 0 ∷ 19 ∷ 0 ∷ 258 ∷ 3 ∷ 1 ∷ []
first-told = ap first_words first-whole

-- sill_next: a call that takes a first fragment too says 0, and where its rest begins; likewise of its numbers
pub first_for_next : next_words (next_at a_first) ≡ number.Kind ∷ 0 ∷ 69 ∷ 0 ∷ 0 ∷ []
first_for_next = ap next_words next_kind

pub next-told : next_words (next_at a_next) ≡ 0 ∷ 18 ∷ 0 ∷ 258 ∷ 2 ∷ []
next-told = ap next_words next-whole

-- sill_write: a call that tells the extra before the length says 9, 2, 0; one that leaves out the length says 0, 0, 0
pub write_room : (x : ℕ) → written_words (write_over (nil ∷ []) (x ∷ [])).answer ≡ number.Room ∷ 0 ∷ 2 ∷ []
write_room x = ap (λ (l : Left). written_words l.answer) (writer.room-first x)

pub write_done : (x y z : ℕ) → written_words (write_over (nil ∷ []) (x ∷ y ∷ z ∷ [])).answer ≡ number.Done ∷ 2 ∷ 0 ∷ []
write_done x y z = ap (λ (l : Left). written_words l.answer) (writer.behind_the_term x y z)

-- sill_utf8: a call that says whether all is good says 0, and one that takes any byte 2; one that counts characters says 1
pub good-front : good_bytes (97 ∷ 255 ∷ []) ≡ 1
unfolding good_bytes good_from char_bytes decode scalar encode starts
good-front = refl

pub two_bytes : good_bytes (195 ∷ 169 ∷ []) ≡ 2
unfolding good_bytes good_from char_bytes decode scalar encode starts
two_bytes = refl
