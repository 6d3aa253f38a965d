-- Which messages are accepted: those that are a header, whose segment numbers are all 0, and one whole term. Both ways; and where the term starts.
-- Assumes nothing.
use Prim.Native.Nat.{ℕ, ◌*◌, ◌≤◌, ◌<◌}
use native.Mathlib.Omega.{arith}
use native.Mathlib.Nat.{le_refl}
use mathlib.Core.Path.{◌≡◌, refl, ap, sym, subst, ◌∙◌}
use mathlib.Core.Logic.{◌↔◌}
use mathlib.Core.List.{List, ◌++◌}
use mathlib.Core.Bool.{Bool, true, false, cond, ◌||◌}
use borrow.Author.Tests.{eq-eqb, ne_eqb, le-ltb}
use lib.Dec.{eqb, ltb}
use lib.ListN.{length, take, length-append}
use lib.Seq.{take-take, take-append_seam}
use Rattle.numbers.specs.Caps as cap
use Rattle.std.specs.Prelude.{Result, Ok, Err}
use Rattle.numbers.specs.declared.Refusal.{Refusal}
use Rattle.numbers.specs.declared.Refusal.TheVariants as refusal
use Rattle.numbers.specs.Allowed.{Allowed}
use Rattle.references.specs.Header.{segment, start_of, header_of, slots_of}
use Rattle.references.proofs.Local.{Whole, whole, slots-count, not-long}
use Rattle.references.proofs.OneSegment.{one-segment}
use Rattle.names.specs.Form.{Held, Left, left, over}
use Rattle.names.proofs.Local.{says_same}
use Rattle.cache.specs.declared.Cache.{Cache}
use Rattle.cache.specs.Names.{store_bytes, Slots, slots}
use Rattle.header.specs.Header.{header_over}
use Rattle.header.proofs.Accepted.{accepted-store}
use Rattle.header.proofs.Leaving.{of, is-over}
use Rattle.header.proofs.Local.{header_local}
use Rattle.reading.specs.Told.{Told}
use Rattle.layouts.specs.Tree.{Tree, bytes, size, depth}
use Rattle.layouts.specs.Layout.{Laid}
use Rattle.tape.specs.Cells.{cell_words}
use Rattle.tape.specs.Read.{Before, refuses, opens, read_behind, Accepted}
use Rattle.tape.proofs.Reading.{behind-term}
use Rattle.tape.proofs.Accepts.{Inside, done-opened}
use Rattle.tape.proofs.Accepts as any
use Rattle.message.specs.Message.{flat, headed, allowed_in, before, message_before, message_over, AcceptedMessage}
use Rattle.message.proofs.Sure.{message_sure}
use Rattle.message.proofs.Fronts.{message_local, message_inside, message_alone, message_front, allowed-front}

module _ (limit : ℕ) (c : Cache) (s : List ℕ) where
  -- a message's header that is read to its end is what the header reader leaves of it, and its segment numbers are all 0
  pub as-header : (b : List ℕ) {e : ℕ} → (message_over b limit c s).rest ≡ Ok e → (message_over b limit c s ≡ header_over b c s) × (flat b (start_of b) ≡ true)
  unfolding message_over headed header_over
  as-header b {e} d = go (eqb limit 0 || ltb cap.nesting limit) (eqb (length s) store_bytes) (flat b (start_of b)) refl d
    where
      l : Left Slots
      l = over slots b (header_of b) (of c s)

      no_rest : {P : Type 0} {r : Refusal} → Err r ≡ Ok e → P
      no_rest {P} {r} f = absurd (let z : ◌≡◌ {A = ℕ} 0 1 = cc in omega arith)

      go : (x y z : Bool) → flat b (start_of b) ≡ z →
          (cond x (left (Err refusal.Limit) (of c s)) (cond y (cond z l (left (Err refusal.Segment) (of c s))) (left (Err refusal.Store) (of c s)))).rest ≡ Ok e →
          (cond x (left (Err refusal.Limit) (of c s)) (cond y (cond z l (left (Err refusal.Segment) (of c s))) (left (Err refusal.Store) (of c s))) ≡ cond y l (left (Err refusal.Store) (of c s)))
          × (flat b (start_of b) ≡ true)
      go true y z f d = no_rest d
      go false false z f d = no_rest d
      go false true false f d = no_rest d
      go false true true f d = (refl, f)

  -- and the other way round
  pub header-as : (b : List ℕ) → 1 ≤ limit → limit ≤ cap.nesting → {e : ℕ} → (header_over b c s).rest ≡ Ok e → flat b (start_of b) ≡ true → message_over b limit c s ≡ header_over b c s
  unfolding message_over headed
  header-as b h k d f =
      let e = accepted-store b c s d in
      rw (ne_eqb limit 0 (λ z. omega arith), le-ltb cap.nesting limit k, eq-eqb (length s) store_bytes e, f) (sym (is-over b c s e))

  -- segment numbers that are all 0, by the definition and by each
  flat-is : (b : List ℕ) {e : ℕ} → Whole b e → (flat b (start_of b) ≡ true) ↔ ((i : ℕ) → i < length (slots_of (header_of b).references) → segment b i ≡ 0)
  unfolding flat
  flat-is b w = rw (w.begins, slots-count w) (one-segment b w.opening.count)

  module _ (b : List ℕ) where
    abbrev l : Left Slots
    l = message_over b limit c s

    before-is : {e : ℕ} → l.rest ≡ Ok e → message_before slots b l ≡ opens e (allowed_in (slots.held l.cache) b)
    unfolding message_before
    before-is d = rw d refl

    -- where a term is read, the header was read to its end
    pub opens-header : {from : ℕ} {allow : Allowed} → message_before slots b l ≡ opens from allow → (l.rest ≡ Ok from) × (allow ≡ allowed_in (slots.held l.cache) b)
    unfolding message_before
    opens-header {from} {allow} = go l.rest refl
      where
        go : (x : Result ℕ Refusal) → l.rest ≡ x → before (allowed_in (slots.held l.cache) b) x ≡ opens from allow → (l.rest ≡ Ok from) × (allow ≡ allowed_in (slots.held l.cache) b)
        go (Ok e) h f = (h ∙ ap Ok (let q : e ≡ from = cc in q), let q : allowed_in (slots.held l.cache) b ≡ allow = cc in sym q)
        go (Err r) h f = absurd (let z : ◌≡◌ {A = ℕ} 0 1 = cc in omega arith)

    pub message_starts : Inside (message_before slots b l) b
    message_starts = go (message_before slots b l) refl
      where
        go : (o : Before) → message_before slots b l ≡ o → Inside o b
        go (refuses n x) e = tt
        go (opens from allow) e =
            let i = message_inside limit c s b (opens-header e).0 in
            (omega arith, omega arith)

    -- the header alone allows the same
    alone_allows : {e : ℕ} → l.rest ≡ Ok e → (held : ℕ → Held) → allowed_in held (take e b) ≡ allowed_in held b
    unfolding allowed_in
    alone_allows {e} d held =
        let size = (message_alone limit c s b d).1 in
        let inside = message_inside limit c s b d in
        let short = not-long (whole b ((message_local limit c s).ends d)) in
        rw (says_same (message_local limit c s) b d (record { same = sym (take-take e e b (le_refl e)) }) (omega arith))

    -- a message that is read is accepted
    pub sound : (words : ℕ) → (read_behind (message_before slots b l) b limit words).number ≡ 0 → AcceptedMessage b limit c s words
    sound words z =
        let o = (done-opened (message_before slots b l) b limit words (message_sure b limit c s) z).0 in
        let (d, g) = opens-header o.is in
        let (alone, size) = message_alone limit c s b d in
        let front = take o.from b in
        let f : (message_over front limit c s).rest ≡ Ok o.from = ap (λ (x : Left Slots). x.rest) alone ∙ d in
        let (m, t) = as-header front f in
        let i : header_over front c s ≡ l = sym m ∙ alone in
        let n : (header_over front c s).rest ≡ Ok o.from = ap (λ (x : Left Slots). x.rest) i ∙ d in
        record {
          front = front;
          header = record {
            whole = n ∙ ap Ok (sym size);
            segments = (flat-is front (whole front ((header_local c s).ends n))).0 t;
          };
          term = rw (i, alone_allows d (slots.held l.cache)) (rw g at o.accepted);
        }

  -- a term behind such a header
  behind-front : (front : List ℕ) (t : Tree) (words : ℕ) → 1 ≤ limit → limit ≤ cap.nesting → (message_over front limit c s).rest ≡ Ok (length front) →
      Laid (allowed_in (slots.held (message_over front limit c s).cache) front) t → depth t ≤ limit → cell_words * size t ≤ words → length (front ++ bytes t) ≤ cap.input →
      (read_behind (message_before slots (front ++ bytes t) (message_over (front ++ bytes t) limit c s)) (front ++ bytes t) limit words).number ≡ 0
  behind-front front t words h k r w n q j =
      let b = front ++ bytes t in
      let e : message_over b limit c s ≡ message_over front limit c s = message_front limit c s front (bytes t) r j in
      let held = slots.held (message_over front limit c s).cache in
      let d : (message_over b limit c s).rest ≡ Ok (length front) = ap (λ (x : Left Slots). x.rest) e ∙ r in
      let o : message_before slots b (message_over b limit c s) ≡ opens (length front) (allowed_in held front) =
      before-is b d ∙ rw (e, allowed-front limit c s front (bytes t) r j held) in
      let len = length-append front (bytes t) in
      let inside = message_inside limit c s front r in
      let x : Accepted (allowed_in held front) (take (length front) b) b limit words =
      record { tree = t; laid = w; is = ap (λ (y : List ℕ). y ++ bytes t) (sym (take-append_seam front (bytes t))); nested = n; room = q } in
      ap (λ (y : Told). y.number) (sym (behind-term b limit words o)) ∙ (any.complete (allowed_in held front) b (length front) limit words (omega arith) h k j x).0

  -- an accepted message is read, and its terms are counted
  pub complete : (b : List ℕ) (words : ℕ) → 1 ≤ limit → limit ≤ cap.nesting → length b ≤ cap.input → AcceptedMessage b limit c s words → (read_behind (message_before slots b (message_over b limit c s)) b limit words).number ≡ 0
  complete b words h k j a =
      let d = a.header.whole in
      let m = header-as a.front h k d ((flat-is a.front (whole a.front ((header_local c s).ends d))).1 a.header.segments) in
      let r : (message_over a.front limit c s).rest ≡ Ok (length a.front) = ap (λ (x : Left Slots). x.rest) m ∙ d in
      let t = a.term in
      subst (λ (x : List ℕ). length x ≤ cap.input → (read_behind (message_before slots x (message_over x limit c s)) x limit words).number ≡ 0) (sym t.is)
      (behind-front a.front t.tree words h k r (rw m t.laid) t.nested t.room) j

  -- "accepted exactly when .."
  pub accepts : (b : List ℕ) (words : ℕ) → 1 ≤ limit → limit ≤ cap.nesting → length b ≤ cap.input → ((read_behind (message_before slots b (message_over b limit c s)) b limit words).number ≡ 0) ↔ AcceptedMessage b limit c s words
  accepts b words h k j = (sound b words, complete b words h k j)
