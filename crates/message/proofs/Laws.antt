-- The read of a message by cases: what its header leaves, what a refusal before the term leaves, and the term behind a header that was read to its
-- end. Assumes nothing.
use Prim.Native.Nat.{ℕ, ◌≤◌, ◌<◌}
use native.Mathlib.Omega.{arith}
use mathlib.Core.Path.{◌≡◌, refl, ap, fun_ext, ◌∙◌}
use mathlib.Core.List.{List}
use mathlib.Core.Bool.{true, false}
use borrow.Author.Tests.{eq-eqb, ne_eqb, lt-ltb, le-ltb}
use lib.ListN.{length}
use Rattle.std.specs.Prelude.{Ok, Err}
use Rattle.numbers.specs.Bits.{bit}
use Rattle.numbers.specs.Caps as cap
use Rattle.numbers.specs.Refusal.{number_of, extra_of}
use Rattle.numbers.specs.declared.Refusal.{Refusal}
use Rattle.numbers.specs.declared.Refusal.TheVariants as refusal
use Rattle.numbers.proofs.Laws.{listed_some, refusal_listed}
use Rattle.reading.specs.Told.{Told}
use Rattle.reading.specs.Answer.{early}
use Rattle.reading.specs.Asked.{allowed_of}
use Rattle.references.specs.declared.Opening.{Opening}
use Rattle.references.specs.Inner.Known.{AllThere}
use Rattle.references.specs.Header.{one_segment, start_of, referred, opened, header_of, slots_of}
use Rattle.names.specs.Form.{Left, left}
use Rattle.names.specs.Positions.{known_at}
use Rattle.names.specs.Inner.Map.{Bytes}
use Rattle.names.proofs.Accepted.{accepted}
use Rattle.names.proofs.Going as going
use Rattle.cache.specs.declared.Cache.{Cache}
use Rattle.cache.specs.Names.{store_bytes, view, Slots, slots}
use Rattle.header.specs.declared.HeaderRead.{HeaderRead}
use Rattle.header.specs.Header.{referred_over, answer_of}
use Rattle.header.proofs.Leaving.{of}
use Rattle.positions.specs.Positions.{noted}
use Rattle.tape.specs.Read.{refuses, opens, Promised}
use Rattle.tape.proofs.Reading.{behind-no, refuse}
use Rattle.message.specs.declared.Term.{Term}
use Rattle.message.specs.Message.{flat, headed, allowed_in, message_before, message_over, noted_by}
use Rattle.message.specs.Inner.Headed.{Headed}

-- what the header leaves
module _ (b : List ℕ) (limit : ℕ) (c : Cache) (s : List ℕ) where
  pub limit_none : limit ≡ 0 → message_over b limit c s ≡ left (Err refusal.Limit) (of c s)
  unfolding message_over
  limit_none e = rw e

  module _ (h : ¬ (limit ≡ 0)) where
    pub limit_over : cap.nesting < limit → message_over b limit c s ≡ left (Err refusal.Limit) (of c s)
    unfolding message_over
    limit_over k = rw (ne_eqb limit 0 h, lt-ltb cap.nesting limit k)

    module _ (k : limit ≤ cap.nesting) where
      pub no_store : ¬ (length s ≡ store_bytes) → message_over b limit c s ≡ left (Err refusal.Store) (of c s)
      unfolding message_over
      no_store l = rw (ne_eqb limit 0 h, le-ltb cap.nesting limit k, ne_eqb (length s) store_bytes l)

      module _ (l : length s ≡ store_bytes) where
        begins : message_over b limit c s ≡ headed slots b (of c s)
        unfolding message_over
        begins = rw (ne_eqb limit 0 h, le-ltb cap.nesting limit k, eq-eqb (length s) store_bytes l)

        pub begins_wrong : {r : Refusal} → start_of b ≡ Err r → message_over b limit c s ≡ left (Err r) (of c s)
        unfolding headed flat
        begins_wrong e = begins ∙ rw e (going.begins_wrong slots b (of c s) e)

        module _ {o : Opening} (e : start_of b ≡ Ok o) where
          pub other-segment : one_segment b o.count ≡ false → message_over b limit c s ≡ left (Err refusal.Segment) (of c s)
          unfolding headed flat
          other-segment f = begins ∙ rw (e, f)

          pub by_header : one_segment b o.count ≡ true → message_over b limit c s ≡ referred_over b o c s
          unfolding headed flat
          by_header f = begins ∙ rw (e, f) (going.begins slots b (of c s) e)

-- a refusal before the term
pub stopped : {b : List ℕ} {l : Left Slots} {r : Refusal} {s : Slots} (run : List ℕ) → l ≡ left (Err r) s → Headed b l (Err r) s run run
unfolding noted_by
stopped run e = record { leaves = e; noted = rw e refl; knows = tt }

-- the references of a header that begins well are the header's
said : (b : List ℕ) {o : Opening} → start_of b ≡ Ok o → header_of b ≡ referred b o
unfolding header_of opened
said b e = rw e

-- where its names are read, it was accepted
pub all_there : (b : List ℕ) {o : Opening} (c : Cache) (s : List ℕ) → Bytes b → start_of b ≡ Ok o → {rest : ℕ} → (referred_over b o c s).rest ≡ Ok rest → AllThere b o
all_there b c s low e d = accepted slots b low e (of c s) (ap (λ (l : Left Slots). l.rest) (going.begins slots b (of c s) e) ∙ d)

-- by the header reader's answer, where a message's header leaves what that leaves
pub by_answer : {l l' : Left Slots} {h : HeaderRead} {store : List ℕ} → l ≡ l' → h ≡ answer_of l' → store ≡ l'.cache.store → l ≡ left h.rest (of h.cache store)
by_answer e f s = rw (e, f, s) refl

-- a header that was read to its end, and noted
pub starts-behind : {b : List ℕ} {l : Left Slots} {o : Opening} {t : Term} {c : Cache} {store run run' : List ℕ} → start_of b ≡ Ok o → l ≡ left (Ok t.start) (of c store) →
    run' ≡ noted (slots_of (referred b o).references) run →
    length t.known ≡ 4 → ((s : List ℕ) (k : ℕ) → bit t.known k ≡ known_at (view c.filled s) (slots_of (referred b o).references) k) →
    Headed b l (Ok t) (of c store) run run'
unfolding noted_by
starts-behind {b} {store = store} i e n four k = record { leaves = e; noted = n ∙ rw (e, said b i) refl; knows = (four, λ j. rw (said b i) (k store j)) }

-- the answer by it: a refusal, or that of the term
module _ {b : List ℕ} (limit : ℕ) {l : Left Slots} {s : Slots} {run run' : List ℕ} where
  pub refused : {r : Refusal} → Headed b l (Err r) s run run' → {a : Told} (tape : List ℕ) → a ≡ early r → Promised (message_before slots b l) b limit a tape tape
  unfolding message_before
  refused {r} g tape e =
      let o : message_before slots b l ≡ refuses (number_of r) (extra_of r) = rw g.leaves refl in
      refuse e (behind-no b limit (length tape) o) (λ z. omega (arith, listed_some (number_of r) (refusal_listed r)))

  pub goes_on : {t : Term} → Headed b l (Ok t) s run run' → {a : Told} {tape tape' : List ℕ} →
      Promised (opens t.start (allowed_of (record { known = t.known; names = true; limit = limit }))) b limit a tape tape' →
      Promised (message_before slots b l) b limit a tape tape'
  unfolding message_before allowed_of allowed_in
  goes_on {t} g p =
      let known : bit t.known ≡ known_at (slots.held s) (slots_of (header_of b).references) = fun_ext g.knows.1 in
      rw (g.leaves, ← known) p
