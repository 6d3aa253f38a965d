-- Messages that tell a right read from a wrong one, over an empty cache, as the definitions compute them: the wrong program's answer, or what it
-- leaves, can't meet the promise. Assumes nothing.
use Prim.Native.Nat.{ℕ, ◌≤◌}
use mathlib.Core.Path.{◌≡◌, refl, ap, sym, ◌∙◌}
use mathlib.Core.List.{List, [], ◌∷◌}
use mathlib.Core.Bool.{true}
use lib.Dec.{eqb}
use borrow.Author.Tests.{eq-eqb, le-ltb}
use lib.ListN.{length, replicate}
use Rattle.numbers.specs.Bits.{bit}
use Rattle.numbers.specs.Numbers as number
use Rattle.fields.specs.Field.{byte_then}
use Rattle.rows.specs.Layout.{position_at}
use Rattle.reading.specs.Told.{Told}
use Rattle.reading.specs.declared.Kind.TheVariants as kind
use Rattle.std.specs.Prelude.{Ok, Err}
use Rattle.numbers.specs.declared.Refusal.TheVariants as refusal
use Rattle.reading.specs.Answer as def
use Rattle.reading.specs.Answer.{answer, starts, read_by}
use Rattle.reading.proofs.Examples.{behind, segment}
use Rattle.references.specs.Header as header
use Rattle.names.specs.Form.{Left, left, after, put_all}
use Rattle.names.specs.Positions.{known_at}
use Rattle.cache.specs.declared.Cache.{Cache}
use Rattle.cache.specs.Names.{store_bytes, filled, marked, stored, view, put, Slots, slots}
use Rattle.header.proofs.Leaving.{of}
use Rattle.tape.specs.Read.{ended, whole_from, read_behind, Promised}
use Rattle.tape.specs.Spans.{start_at, end_at}
use Rattle.tape.proofs.Accepts.{opened, whole}
use Rattle.message.proofs.Sure.{message_sure}
use Rattle.message.proofs.Accepts.{opens-header}
use Rattle.message.specs.Message.{flat, headed, allowed_in, message_before, message_over}

abbrev empty : Cache
empty = record { filled = replicate 4 0 }

-- over any store of 65,536 bytes, what a message leaves of the names, and what is answered. `unfolding answers` opens all that they compute with
module _ (s : List ℕ) (h : length s ≡ store_bytes) where
  unfoldable pub leaves : List ℕ → Left Slots
  unfolding behind byte_then header.half_of header.half_byte header.new_in header.is_new header.segment header.one_segment header.long_bit header.flagged header.start_of header.named header.new_at header.reference_at header.behind header.references header.opened header.header_of after put_all put marked stored flat headed message_over
  leaves b = message_over b 64 empty s

  unfoldable pub answers : List ℕ → ℕ → Told
  unfolding leaves bit filled view known_at position_at allowed_in message_before read_behind whole_from ended read_by starts answer
  answers b room = read_behind (message_before slots b (leaves b)) b 64 room

  store_is : eqb (length s) store_bytes ≡ true
  store_is = eq-eqb (length s) store_bytes h

  -- 131 68 1 8 5 1 97 82 0: the byte behind 82 is a position in the header. One that takes it for a slot finds slot 0 empty, and refuses
  pub by_position : (room : ℕ) → 5 ≤ room → (answers (131 ∷ 68 ∷ 1 ∷ 8 ∷ 5 ∷ 1 ∷ 97 ∷ 82 ∷ 0 ∷ []) room).number ≡ 0
  unfolding answers
  by_position room k = rw (store_is, le-ltb room 5 k) refl

  -- 131 68 1 8 5 1 97 82 5: the other way round, slot 5 holds a name, and there is no position 5. Tag at 7, where the term was begun
  pub not_by_slot : (room : ℕ) → answers (131 ∷ 68 ∷ 1 ∷ 8 ∷ 5 ∷ 1 ∷ 97 ∷ 82 ∷ 5 ∷ []) room ≡ def.refusal number.Tag 7 0 1 1 []
  unfolding answers
  not_by_slot room = rw store_is refl

  -- 131 68 2 128 0 5 5 1 97 82 0: an old reference to slot 5 and then a new name for it. One that looks a position up before the later names are stored
  -- finds none
  pub after_all_names : (room : ℕ) → 5 ≤ room → (answers (131 ∷ 68 ∷ 2 ∷ 128 ∷ 0 ∷ 5 ∷ 5 ∷ 1 ∷ 97 ∷ 82 ∷ 0 ∷ []) room).number ≡ 0
  unfolding answers
  after_all_names room k = rw (store_is, le-ltb room 5 k) refl

  -- 131 68 2 24 0 5 1 97 6: the second reference, an old one, has segment number 1. Segment, and the first one's name isn't stored
  pub segment-first : leaves (131 ∷ 68 ∷ 2 ∷ 24 ∷ 0 ∷ 5 ∷ 1 ∷ 97 ∷ 6 ∷ []) ≡ left (Err refusal.Segment) (of empty s)
  unfolding answers
  segment-first = rw store_is refl

  -- 131 68 1 232 5 1 97 106: what stands beside the long bit, in the half byte after the last reference, is no segment number
  pub beside_the_last : (room : ℕ) → 5 ≤ room → (answers (131 ∷ 68 ∷ 1 ∷ 232 ∷ 5 ∷ 1 ∷ 97 ∷ 106 ∷ []) room).number ≡ 0
  unfolding answers
  beside_the_last room k = rw (store_is, le-ltb room 5 k) refl

  -- 131 68 1 8 5 1 97 113 82 0 82 0 82 0: 82 is an atom child, and no integer child. Tag at the third child, which was read whole
  pub no-integer : (room : ℕ) → answers (131 ∷ 68 ∷ 1 ∷ 8 ∷ 5 ∷ 1 ∷ 97 ∷ 113 ∷ 82 ∷ 0 ∷ 82 ∷ 0 ∷ 82 ∷ 0 ∷ []) room ≡ def.refusal number.Tag 12 0 4 2 []
  unfolding answers
  no-integer room = rw store_is refl

  pub an_atom : (room : ℕ) → 20 ≤ room → (answers (131 ∷ 68 ∷ 1 ∷ 8 ∷ 5 ∷ 1 ∷ 97 ∷ 113 ∷ 82 ∷ 0 ∷ 82 ∷ 0 ∷ 97 ∷ 0 ∷ []) room).number ≡ 0
  unfolding answers
  an_atom room k = rw (store_is, le-ltb room 20 k) refl

  -- 131 68 1 8 5 1 97 82 0: the term starts at 7. One that takes 1 for its start writes another cell
  pub starts-behind : {r : Told} {old new : List ℕ} → Promised (message_before slots (131 ∷ 68 ∷ 1 ∷ 8 ∷ 5 ∷ 1 ∷ 97 ∷ 82 ∷ 0 ∷ []) (leaves (131 ∷ 68 ∷ 1 ∷ 8 ∷ 5 ∷ 1 ∷ 97 ∷ 82 ∷ 0 ∷ []))) (131 ∷ 68 ∷ 1 ∷ 8 ∷ 5 ∷ 1 ∷ 97 ∷ 82 ∷ 0 ∷ []) 64 r old new →
      5 ≤ length old → (start_at new 0 ≡ 7) × (end_at new 0 ≡ 9)
  unfolding answers
  starts-behind {old = old} p k =
      let d = ap (λ (a : Told). a.number) p.answered ∙ by_position (length old) k in
      let sure = message_sure (131 ∷ 68 ∷ 1 ∷ 8 ∷ 5 ∷ 1 ∷ 97 ∷ 82 ∷ 0 ∷ []) 64 empty s in
      let o = opened sure p d in
      let f = (opens-header 64 empty s (131 ∷ 68 ∷ 1 ∷ 8 ∷ 5 ∷ 1 ∷ 97 ∷ 82 ∷ 0 ∷ []) o.is).0 in
      let rest : (leaves (131 ∷ 68 ∷ 1 ∷ 8 ∷ 5 ∷ 1 ∷ 97 ∷ 82 ∷ 0 ∷ [])).rest ≡ Ok 7 = rw store_is refl in
      let at : Ok o.from ≡ Ok 7 = sym f ∙ rest in
      let seven : o.from ≡ 7 = cc at in
      let (x, y) = whole sure p d in
      (x ∙ seven, y)

  -- 131 68 1 8 5 1 97 255: the term is refused, Tag at 7, and the name stays stored
  pub name_stays : (room : ℕ) → (answers (131 ∷ 68 ∷ 1 ∷ 8 ∷ 5 ∷ 1 ∷ 97 ∷ 255 ∷ []) room ≡ def.refusal number.Tag 7 0 1 1 [])
      × ((leaves (131 ∷ 68 ∷ 1 ∷ 8 ∷ 5 ∷ 1 ∷ 97 ∷ 255 ∷ [])).cache ≡ of (record { filled = 32 ∷ 0 ∷ 0 ∷ 0 ∷ [] }) (stored s 5 (97 ∷ [])))
  unfolding answers
  name_stays room = (rw store_is refl, rw store_is refl)

  -- 131 68 0: nothing behind the header is Eof there, and no term is begun. 131 68 0 82: a byte missing behind 82. 131 68 0 82 0: no such position
  pub nothing-behind : (room : ℕ) → answers (131 ∷ 68 ∷ 0 ∷ []) room ≡ def.refusal number.Eof 3 0 0 0 []
  unfolding answers
  nothing-behind room = rw store_is refl

  pub byte_missing : (room : ℕ) → answers (131 ∷ 68 ∷ 0 ∷ 82 ∷ []) room ≡ def.refusal number.Eof 3 0 1 1 []
  unfolding answers
  byte_missing room = rw store_is refl

  pub no-position : (room : ℕ) → answers (131 ∷ 68 ∷ 0 ∷ 104 ∷ 1 ∷ 82 ∷ 0 ∷ []) room ≡ def.refusal number.Tag 5 0 2 2 (segment kind.Tuple 0 ∷ [])
  unfolding answers
  no-position room = rw store_is refl
