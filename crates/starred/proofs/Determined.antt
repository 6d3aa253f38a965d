-- Two answers that a public function's promise allows are one, and so is what they leave of what was lent: a line for each function, in
-- the order of crates.txt. No promise is written again here: `f.Post` is what the `ensures` of f say of its arguments, its answer and its
-- parameters at the end, as the check of f's own crate has them. Assumes nothing.
use Prim.Native.Nat.{ℕ}
use mathlib.Core.Path.{◌≡◌, refl, sym, ap, ◌∙◌}
use mathlib.Core.Logic.{◌↔◌}
use mathlib.Core.List.{List, [], ◌∷◌}
use mathlib.Core.Bool.{Bool, true, false}
use Rattle.numbers.specs.Bits.{bit}
use Rattle.cache.specs.declared.Cache.{Cache}
use Rattle.message.specs.declared.MessageRead.{MessageRead}
use Rattle.tape.proofs.Accepts as tape
use Rattle.tape.proofs.Records.{record_sure}
use Rattle.message.proofs.Sure.{message_sure}
use Rattle.reading.specs.declared.Numbers.{Numbers}
use Rattle.reading.specs.Told as told
use Rattle.reading.proofs.Told.{told_alike}
use Rattle.lookup.proofs.Meaning.{one_answer}
use Rattle.jig.proofs.Told.{told_once, read_once}
use Rattle.numbers.proofs.Refusal.number.Reads as numbers_number
use Rattle.numbers.proofs.Refusal.extra.Reads as numbers_extra
use Rattle.fields.proofs.has.Reads as fields-has
use Rattle.fields.proofs.be_u8.Reads as fields-be-u8
use Rattle.fields.proofs.be_u16.Reads as fields-be-u16
use Rattle.fields.proofs.be_u32.Reads as fields-be-u32
use Rattle.fields.proofs.be_u64.Reads as fields-be-u64
use Rattle.fields.proofs.be_i32.Reads as fields-be-i32
use Rattle.fields.proofs.u8_at.Reads as fields-u8-at
use Rattle.fields.proofs.u16_at.Reads as fields-u16-at
use Rattle.fields.proofs.u32_at.Reads as fields-u32-at
use Rattle.fields.proofs.u64_at.Reads as fields-u64-at
use Rattle.fields.proofs.i32_at.Reads as fields-i32-at
use Rattle.utf8.proofs.good.Reads as utf8_good
use Rattle.utf8.proofs.ascii.Reads as utf8_ascii
use Rattle.literal.proofs.trim.Reads as literal_trim
use Rattle.literal.proofs.literal.Reads as literal-literal
use Rattle.rows.proofs.row_at.Reads as rows_row-at
use Rattle.rows.proofs.count.Reads as rows_count
use Rattle.rows.proofs.name.Reads as rows_name
use Rattle.shortcut.proofs.end_at.Reads as shortcut_end-at
use Rattle.reading.proofs.U64FromKind.from.Reads as reading_kind_number
use Rattle.reading.proofs.Path.empty.Reads as reading_empty
use Rattle.reading.proofs.Path.as_slice.Reads as reading_as-slice
use Rattle.reading.proofs.Answer.refused.Reads as reading_refused
use Rattle.reading.proofs.refusal.Reads as reading_refusal
use Rattle.reading.proofs.is_atom.Reads as reading_is-atom
use Rattle.reading.proofs.is_natural.Reads as reading_is_natural
use Rattle.reading.proofs.starts.Reads as reading_starts
use Rattle.reading.proofs.Asked.plainly.Reads as reading_plainly
use Rattle.terms.proofs.read.Reads as terms_read
use Rattle.heads.proofs.head.Reads as heads_head
use Rattle.heads.proofs.part.Reads as heads_part
use Rattle.heads.proofs.Headed.run.Reads as heads_run
use Rattle.headwords.proofs.words.Reads as headwords_words
use Rattle.headwords.proofs.place.Reads as headwords_place
use Rattle.layouts.proofs.shape_at.Reads as layouts_shape_at
use Rattle.layouts.proofs.short_at.Reads as layouts_short-at
use Rattle.layouts.proofs.inner_at.Reads as layouts_inner-at
use Rattle.tape.proofs.read.Reads as tape_read
use Rattle.tape.proofs.behind.Reads as tape_behind
use Rattle.lookup.proofs.find_name.Reads as lookup_find-name
use Rattle.lookup.proofs.find_number.Reads as lookup_find-number
use Rattle.references.proofs.start.Reads as references-start
use Rattle.references.proofs.is_new.Reads as references-is_new
use Rattle.references.proofs.one_segment.Reads as references-one-segment
use Rattle.references.proofs.reference_at.Reads as references-reference-at
use Rattle.cache.proofs.Cache.empty.Reads as cache_empty
use Rattle.cache.proofs.Cache.count.Reads as cache-count
use Rattle.cache.proofs.Cache.is_filled.Reads as cache_is-filled
use Rattle.cache.proofs.Cache.mark.Reads as cache_mark
use Rattle.cache.proofs.Cache.get.Reads as cache_get
use Rattle.cache.proofs.Cache.part.Reads as cache-part
use Rattle.header.proofs.read.Reads as header_read
use Rattle.header.proofs.names.Reads as header-names
use Rattle.positions.proofs.get.Reads as positions_get
use Rattle.positions.proofs.part.Reads as positions_part
use Rattle.positions.proofs.get_at.Reads as positions_get_at
use Rattle.positions.proofs.part_at.Reads as positions_part-at
use Rattle.positions.proofs.note.Reads as positions_note
use Rattle.message.proofs.read.Reads as message_read
use Rattle.fragments.proofs.first.Reads as fragments_first
use Rattle.fragments.proofs.next.Reads as fragments_next
use Rattle.measure.proofs.needed.Reads as measure_needed
use Rattle.measure.proofs.owes.Reads as measure_owes
use Rattle.writer.proofs.write.Reads as writer_write
use Rattle.jig.proofs.sill_interface.Reads as jig_sill_interface
use Rattle.jig.proofs.sill_read.Reads as jig_sill_read
use Rattle.jig.proofs.sill_term.Reads as jig_sill_term
use Rattle.jig.proofs.sill_find_name.Reads as jig_sill_find-name
use Rattle.jig.proofs.sill_find_number.Reads as jig_sill_find-number
use Rattle.jig.proofs.sill_head.Reads as jig_sill_head
use Rattle.jig.proofs.sill_part.Reads as jig_sill_part
use Rattle.jig.proofs.sill_empty.Reads as jig_sill_empty
use Rattle.jig.proofs.sill_count.Reads as jig_sill_count
use Rattle.jig.proofs.sill_get.Reads as jig_sill_get
use Rattle.jig.proofs.sill_header.Reads as jig_sill_header
use Rattle.jig.proofs.sill_message.Reads as jig_sill_message
use Rattle.jig.proofs.sill_position.Reads as jig_sill_position
use Rattle.jig.proofs.sill_atom.Reads as jig_sill_atom
use Rattle.jig.proofs.sill_first.Reads as jig_sill_first
use Rattle.jig.proofs.sill_next.Reads as jig_sill_next
use Rattle.jig.proofs.sill_write.Reads as jig_sill_write
use Rattle.jig.proofs.sill_utf8.Reads as jig_sill_utf8

-- a promise, of the lifetimes of what is lent, the arguments, the answer, and the parameters at the end
module _ {L : Type 0} {A R S : L → Type 0} (Promise : (κ : L) → A κ → R κ → S κ → Type 0) where
  -- in two calls with the same arguments the answers are the same
  abbrev Answer : Type 0
  Answer = (κ : L) (a : A κ) (x y : R κ) (s t : S κ) → Promise κ a x s → Promise κ a y t → x ≡ y

  -- the answer is a part of what was lent, and its bytes, or segments, are the same
  abbrev Part : {X : Type 0} → ((κ : L) → R κ → List X) → Type 0
  Part bytes = (κ : L) (a : A κ) (x y : R κ) (s t : S κ) → Promise κ a x s → Promise κ a y t → bytes κ x ≡ bytes κ y

  -- the answers are the same, and so is what they leave
  abbrev Both : ((κ : L) → S κ → List ℕ) → Type 0
  Both left = (κ : L) (a : A κ) (x y : R κ) (s t : S κ) → Promise κ a x s → Promise κ a y t → (x ≡ y) × (left κ s ≡ left κ t)

  -- nothing is answered: what is left in each of the runs that are written to is the same
  abbrev Same : List ((κ : L) → S κ → List ℕ) → (κ : L) (s t : S κ) → Type 0
  Same [] κ s t = Unit {0}
  Same (run ∷ []) κ s t = run κ s ≡ run κ t
  Same (run ∷ next ∷ runs) κ s t = (run κ s ≡ run κ t) × Same (next ∷ runs) κ s t

  abbrev Leaves : List ((κ : L) → S κ → List ℕ) → Type 0
  Leaves runs = (κ : L) (a : A κ) (x y : R κ) (s t : S κ) → Promise κ a x s → Promise κ a y t → Same runs κ s t

  -- the answers are the same, and so is what is left in each of these runs
  abbrev All : List ((κ : L) → S κ → List ℕ) → Type 0
  All runs = (κ : L) (a : A κ) (x y : R κ) (s t : S κ) → Promise κ a x s → Promise κ a y t → (x ≡ y) × Same runs κ s t

  -- what the answers tell is the same, and so is what they leave
  abbrev Told : ((κ : L) → R κ → ℕ → Bool) → ((κ : L) → S κ → List ℕ) → Type 0
  Told tells left = (κ : L) (a : A κ) (x y : R κ) (s t : S κ) → Promise κ a x s → Promise κ a y t → ((k : ℕ) → tells κ x k ≡ tells κ y k) × (left κ s ≡ left κ t)

pub record Determined : Type 0 where
  pub numbers_number : Answer numbers_number.Post
  pub numbers_extra : Answer numbers_extra.Post
  pub fields-has : Answer fields-has.Post
  pub fields-be-u8 : Answer fields-be-u8.Post
  pub fields-be-u16 : Answer fields-be-u16.Post
  pub fields-be-u32 : Answer fields-be-u32.Post
  pub fields-be-u64 : Answer fields-be-u64.Post
  pub fields-be-i32 : Answer fields-be-i32.Post
  pub fields-u8-at : Answer fields-u8-at.Post
  pub fields-u16-at : Answer fields-u16-at.Post
  pub fields-u32-at : Answer fields-u32-at.Post
  pub fields-u64-at : Answer fields-u64-at.Post
  pub fields-i32-at : Answer fields-i32-at.Post
  pub utf8_good : Answer utf8_good.Post
  pub utf8_ascii : Answer utf8_ascii.Post
  pub literal_trim : Answer literal_trim.Post
  pub literal-literal : Answer literal-literal.Post
  pub rows_row-at : Answer rows_row-at.Post
  pub rows_count : Answer rows_count.Post
  pub rows_name : Answer rows_name.Post
  pub shortcut_end-at : Answer shortcut_end-at.Post
  pub reading_kind_number : Answer reading_kind_number.Post
  pub reading_empty : Answer reading_empty.Post
  pub reading_as-slice : Part reading_as-slice.Post (λ κ r. r.now)
  pub reading_refused : Answer reading_refused.Post
  pub reading_refusal : Answer reading_refusal.Post
  pub reading_is-atom : Answer reading_is-atom.Post
  pub reading_is_natural : Answer reading_is_natural.Post
  pub reading_starts : Answer reading_starts.Post
  pub reading_plainly : Answer reading_plainly.Post
  pub terms_read : Answer terms_read.Post
  pub heads_head : Answer heads_head.Post
  pub heads_run : Answer heads_run.Post
  pub heads_part : Part heads_part.Post (λ κ r. r.now)
  pub headwords_words : Answer headwords_words.Post
  pub headwords_place : Answer headwords_place.Post
  pub layouts_shape_at : Answer layouts_shape_at.Post
  pub layouts_short-at : Answer layouts_short-at.Post
  pub layouts_inner-at : Answer layouts_inner-at.Post
  -- its third parameter is written to
  pub tape_read : Both tape_read.Post (λ κ s. s.1.1.0.now)
  -- its fourth
  pub tape_behind : Both tape_behind.Post (λ κ s. s.1.1.1.0.now)
  pub lookup_find-name : Answer lookup_find-name.Post
  pub lookup_find-number : Answer lookup_find-number.Post
  pub references-start : Answer references-start.Post
  pub references-is_new : Answer references-is_new.Post
  pub references-one-segment : Answer references-one-segment.Post
  pub references-reference-at : Answer references-reference-at.Post
  pub cache_empty : Answer cache_empty.Post
  pub cache-count : Answer cache-count.Post
  pub cache_is-filled : Answer cache_is-filled.Post
  pub cache_mark : Leaves cache_mark.Post ((λ κ s. s.0.now.filled) ∷ [])
  pub cache_get : Answer cache_get.Post
  pub cache-part : Part cache-part.Post (λ κ r. r.now)
  -- its third parameter is written to
  pub header_read : Both header_read.Post (λ κ s. s.1.1.0.now)
  -- its fourth
  pub header-names : Both header-names.Post (λ κ s. s.1.1.1.0.now)
  pub positions_get : Answer positions_get.Post
  pub positions_part : Part positions_part.Post (λ κ r. r.now)
  pub positions_get_at : Answer positions_get_at.Post
  pub positions_part-at : Part positions_part-at.Post (λ κ r. r.now)
  -- every bit of its four words, and its fourth parameter, which is written to
  pub positions_note : Told positions_note.Post (λ κ r. bit r) (λ κ s. s.1.1.1.0.now)
  -- the store, the run of positions and the tape are written to
  pub message_read : All message_read.Post ((λ κ s. s.1.1.1.0.now) ∷ (λ κ s. s.1.1.1.1.0.now) ∷ (λ κ s. s.1.1.1.1.1.0.now) ∷ [])
  pub fragments_first : Answer fragments_first.Post
  pub fragments_next : Answer fragments_next.Post
  pub measure_needed : Answer measure_needed.Post
  pub measure_owes : Answer measure_owes.Post
  -- its third parameter is written to
  pub writer_write : Both writer_write.Post (λ κ s. s.1.1.0.now)
  pub jig_sill_interface : Answer jig_sill_interface.Post
  -- an exported call tells its answer in runs that are lent: here the numbers told, the path's words and the tape
  pub jig_sill_read : Leaves jig_sill_read.Post ((λ κ s. s.1.1.1.0.now) ∷ (λ κ s. s.1.1.1.1.0.now) ∷ (λ κ s. s.1.1.0.now) ∷ [])
  -- the numbers told and the path's words
  pub jig_sill_term : Leaves jig_sill_term.Post ((λ κ s. s.1.1.1.0.now) ∷ (λ κ s. s.1.1.1.1.0.now) ∷ [])
  pub jig_sill_find-name : Leaves jig_sill_find-name.Post ((λ κ s. s.1.1.1.1.0.now) ∷ (λ κ s. s.1.1.1.1.1.0.now) ∷ [])
  pub jig_sill_find-number : Leaves jig_sill_find-number.Post ((λ κ s. s.1.1.1.1.0.now) ∷ (λ κ s. s.1.1.1.1.1.0.now) ∷ [])
  -- the numbers told
  pub jig_sill_head : Leaves jig_sill_head.Post ((λ κ s. s.1.1.0.now) ∷ [])
  pub jig_sill_part : Leaves jig_sill_part.Post ((λ κ s. s.1.1.0.now) ∷ [])
  -- the cache's words
  pub jig_sill_empty : Leaves jig_sill_empty.Post ((λ κ s. s.0.now) ∷ [])
  pub jig_sill_count : Answer jig_sill_count.Post
  -- the numbers told
  pub jig_sill_get : Leaves jig_sill_get.Post ((λ κ s. s.1.1.1.0.now) ∷ [])
  -- the numbers told, the cache's words and its store
  pub jig_sill_header : Leaves jig_sill_header.Post ((λ κ s. s.1.1.1.0.now) ∷ (λ κ s. s.1.0.now) ∷ (λ κ s. s.1.1.0.now) ∷ [])
  -- the numbers told, the path's words and the tape, the cache's words, its store and the run of positions
  pub jig_sill_message : Leaves jig_sill_message.Post ((λ κ s. s.1.1.1.1.1.1.0.now) ∷ (λ κ s. s.1.1.1.1.1.1.1.0.now) ∷ (λ κ s. s.1.1.1.1.1.0.now) ∷ (λ κ s. s.1.1.0.now) ∷ (λ κ s. s.1.1.1.0.now) ∷ (λ κ s. s.1.1.1.1.0.now) ∷ [])
  -- the numbers told
  pub jig_sill_position : Leaves jig_sill_position.Post ((λ κ s. s.1.1.1.1.0.now) ∷ [])
  pub jig_sill_atom : Leaves jig_sill_atom.Post ((λ κ s. s.1.1.1.1.1.0.now) ∷ [])
  -- the numbers told
  pub jig_sill_first : Leaves jig_sill_first.Post ((λ κ s. s.1.0.now) ∷ [])
  pub jig_sill_next : Leaves jig_sill_next.Post ((λ κ s. s.1.0.now) ∷ [])
  -- the numbers told and the bytes
  pub jig_sill_write : Leaves jig_sill_write.Post ((λ κ s. s.1.1.1.0.now) ∷ (λ κ s. s.1.1.0.now) ∷ [])
  pub jig_sill_utf8 : Answer jig_sill_utf8.Post

-- two that equal the same; two Booleans that are true where the same holds
equal : {B : Type 0} {v x y : B} → x ≡ v → y ≡ v → x ≡ y
equal p q = p ∙ sym q

alike : {P : Type 0} (x y : Bool) → (x ≡ true) ↔ P → (y ≡ true) ↔ P → x ≡ y
alike true y p q = sym (q.1 (p.0 refl))
alike false true p q = p.1 (q.0 refl)
alike false false p q = refl

-- an answer that is its numbers
abbrev untold : told.Told → Numbers
untold t =
    record { number = t.number; end = t.end; offset = t.offset; extra = t.extra; begun = t.begun; deepest = t.deepest; path = record { len = t.len; segments = t.path } }

numbers_alike : {x y : Numbers} → told.told_by x ≡ told.told_by y → x ≡ y
numbers_alike e = ap untold e

-- a message's answer, by its two parts
one_message : (x y : MessageRead) → x.answer ≡ y.answer → x.cache ≡ y.cache → x ≡ y
one_message x y e f = rw (e, f)

pub determined : Determined
determined = record {
  numbers_number = λ κ a x y s t p q. equal p q;
  numbers_extra = λ κ a x y s t p q. equal p q;
  fields-has = λ κ a x y s t p q. equal p q;
  fields-be-u8 = λ κ a x y s t p q. equal p q;
  fields-be-u16 = λ κ a x y s t p q. equal p q;
  fields-be-u32 = λ κ a x y s t p q. equal p q;
  fields-be-u64 = λ κ a x y s t p q. equal p q;
  fields-be-i32 = λ κ a x y s t p q. equal p q;
  fields-u8-at = λ κ a x y s t p q. equal p q;
  fields-u16-at = λ κ a x y s t p q. equal p q;
  fields-u32-at = λ κ a x y s t p q. equal p q;
  fields-u64-at = λ κ a x y s t p q. equal p q;
  fields-i32-at = λ κ a x y s t p q. equal p q;
  utf8_good = λ κ a x y s t p q. equal p q;
  utf8_ascii = λ κ a x y s t p q. alike x y p q;
  literal_trim = λ κ a x y s t p q. equal p q;
  literal-literal = λ κ a x y s t p q. equal p q;
  rows_row-at = λ κ a x y s t p q. equal p q;
  rows_count = λ κ a x y s t p q. equal p q;
  rows_name = λ κ a x y s t p q. equal p q;
  shortcut_end-at = λ κ a x y s t p q. equal p q;
  reading_kind_number = λ κ a x y s t p q. equal p q;
  reading_empty = λ κ a x y s t p q. equal p q;
  reading_as-slice = λ κ a x y s t p q. equal p q;
  reading_refused = λ κ a x y s t p q. told_alike (equal p q);
  reading_refusal = λ κ a x y s t p q. numbers_alike (equal p q);
  reading_is-atom = λ κ a x y s t p q. equal p q;
  reading_is_natural = λ κ a x y s t p q. equal p q;
  reading_starts = λ κ a x y s t p q. equal p q;
  reading_plainly = λ κ a x y s t p q. equal p q;
  terms_read = λ κ a x y s t p q. told_alike (equal p q);
  heads_head = λ κ a x y s t p q. equal p q;
  heads_run = λ κ a x y s t p q. equal p q;
  heads_part = λ κ a x y s t p q. equal p q;
  headwords_words = λ κ a x y s t p q. equal p q;
  headwords_place = λ κ a x y s t p q. equal p q;
  layouts_shape_at = λ κ a x y s t p q. equal p q;
  layouts_short-at = λ κ a x y s t p q. equal p q;
  layouts_inner-at = λ κ a x y s t p q. equal p q;
  tape_read = λ κ a x y s t p q. let (e, f) = tape.determined (record_sure _ _) p q in (told_alike e, f);
  tape_behind = λ κ a x y s t p q. let (e, f) = tape.determined tt p q in (told_alike e, f);
  lookup_find-name = λ κ a x y s t p q. told_alike (one_answer p q);
  lookup_find-number = λ κ a x y s t p q. told_alike (one_answer p q);
  references-start = λ κ a x y s t p q. equal p q;
  references-is_new = λ κ a x y s t p q. equal p q;
  references-one-segment = λ κ a x y s t p q. equal p q;
  references-reference-at = λ κ a x y s t p q. equal p q;
  cache_empty = λ κ a x y s t p q. equal p q;
  cache-count = λ κ a x y s t p q. equal p q;
  cache_is-filled = λ κ a x y s t p q. equal p q;
  cache_mark = λ κ a x y s t p q. ap (λ (c : Cache). c.filled) (equal p q);
  cache_get = λ κ a x y s t p q. equal p q;
  cache-part = λ κ a x y s t p q. equal p q;
  header_read = λ κ a x y s t p q. (equal p.0 q.0, equal p.1 q.1);
  header-names = λ κ a x y s t p q. (equal p.0 q.0, equal p.1 q.1);
  positions_get = λ κ a x y s t p q. equal p q;
  positions_part = λ κ a x y s t p q. equal p q;
  positions_get_at = λ κ a x y s t p q. equal p q;
  positions_part-at = λ κ a x y s t p q. equal p q;
  positions_note = λ κ a x y s t p q. (λ k. equal (p.1.1 [] k) (q.1.1 [] k), equal p.0 q.0);
  message_read = λ κ a x y s t p q.
      let (e, f) = tape.determined (message_sure _ _ _ _) p.0 q.0 in
      (one_message x y (told_alike e) (equal p.1.0 q.1.0), (equal p.1.1.0 q.1.1.0, (equal p.1.1.1 q.1.1.1, f)));
  fragments_first = λ κ a x y s t p q. equal p q;
  fragments_next = λ κ a x y s t p q. equal p q;
  measure_needed = λ κ a x y s t p q. equal p q;
  measure_owes = λ κ a x y s t p q. equal p q;
  writer_write = λ κ a x y s t p q. (equal p.0 q.0, equal p.1 q.1);
  jig_sill_interface = λ κ a x y s t p q. equal p q;
  jig_sill_read = λ κ a x y s t p q. read_once (record_sure _ _) p q;
  jig_sill_term = λ κ a x y s t p q. told_once (λ _ _ h k. equal h k) p q;
  jig_sill_find-name = λ κ a x y s t p q. told_once (λ _ _ h k. one_answer h k) p q;
  jig_sill_find-number = λ κ a x y s t p q. told_once (λ _ _ h k. one_answer h k) p q;
  jig_sill_head = λ κ a x y s t p q. equal p q;
  jig_sill_part = λ κ a x y s t p q. equal p q;
  jig_sill_empty = λ κ a x y s t p q. equal p q;
  jig_sill_count = λ κ a x y s t p q. equal p q;
  jig_sill_get = λ κ a x y s t p q. equal p q;
  jig_sill_header = λ κ a x y s t p q. (equal p.0 q.0, (equal p.1.0 q.1.0, equal p.1.1 q.1.1));
  jig_sill_message = λ κ a x y s t p q.
      let (e, (f, g)) = read_once (message_sure _ _ _ _) p.0 q.0 in
      (e, (f, (g, (equal p.1.0 q.1.0, (equal p.1.1.0 q.1.1.0, equal p.1.1.1 q.1.1.1)))));
  jig_sill_position = λ κ a x y s t p q. equal p q;
  jig_sill_atom = λ κ a x y s t p q. equal p q;
  jig_sill_first = λ κ a x y s t p q. equal p q;
  jig_sill_next = λ κ a x y s t p q. equal p q;
  jig_sill_write = λ κ a x y s t p q. (equal p.0 q.0, equal p.1 q.1);
  jig_sill_utf8 = λ κ a x y s t p q. equal p q;
}
