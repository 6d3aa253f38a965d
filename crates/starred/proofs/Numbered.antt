-- Every refusal of every public function and every exported call bears a number of the list (numbers/specs/Numbers.antt): a line for each
-- that can refuse, in the order of crates.txt. No promise is written again here: `f.Post` is what the `ensures` of f say, as in
-- Determined.antt. A request that adds a number adds it to the list. Assumes nothing.
use Prim.Native.Nat.{ℕ}
use native.Mathlib.Omega.{arith}
use mathlib.Core.Path.{◌≡◌, refl, ap, sym, ◌∙◌}
use mathlib.Core.Bool.{true}
use mathlib.Core.List.{List, [], ◌∷◌}
use lib.ListN.{get_or}
use Rattle.numbers.specs.Numbers as number
use Rattle.numbers.specs.Numbers.{among, refusals, Listed}
use Rattle.numbers.specs.Refusal.{number_of}
use Rattle.numbers.specs.declared.Refusal.{Refusal}
use Rattle.numbers.proofs.Laws.{shown_listed, refusal_listed}
use Rattle.reading.proofs.Told.{refused_some}
use Rattle.reading.proofs.Outcomes.{read_shown}
use Rattle.tape.proofs.Accepts as tape
use Rattle.tape.proofs.Records.{record_sure}
use Rattle.lookup.proofs.Meaning as lookup
use Rattle.message.proofs.Sure.{message_sure}
use Rattle.jig.proofs.Outcomes.{FirstShown, answer-told, head-told, name-told, place-told, first-told, next-told}
use Rattle.starred.specs.Refusals.{missing_by, refused_by, answer_by, head_by}
use Rattle.fields.proofs.be_u8.Reads as fields-be-u8
use Rattle.fields.proofs.be_u16.Reads as fields-be-u16
use Rattle.fields.proofs.be_u32.Reads as fields-be-u32
use Rattle.fields.proofs.be_u64.Reads as fields-be-u64
use Rattle.fields.proofs.be_i32.Reads as fields-be-i32
use Rattle.rows.proofs.row_at.Reads as rows_row-at
use Rattle.rows.proofs.count.Reads as rows_count
use Rattle.rows.proofs.name.Reads as rows_name
use Rattle.reading.proofs.Answer.refused.Reads as reading_refused
use Rattle.reading.specs.Told.{Told}
use Rattle.reading.proofs.refusal.Reads as reading_refusal
use Rattle.reading.proofs.starts.Reads as reading_starts
use Rattle.terms.proofs.read.Reads as terms_read
use Rattle.heads.proofs.head.Reads as heads_head
use Rattle.tape.proofs.read.Reads as tape_read
use Rattle.tape.proofs.behind.Reads as tape_behind
use Rattle.lookup.proofs.find_name.Reads as lookup_find-name
use Rattle.lookup.proofs.find_number.Reads as lookup_find-number
use Rattle.references.proofs.start.Reads as references-start
use Rattle.references.proofs.reference_at.Reads as references-reference-at
use Rattle.cache.proofs.Cache.get.Reads as cache_get
use Rattle.header.proofs.read.Reads as header_read
use Rattle.header.proofs.names.Reads as header-names
use Rattle.positions.proofs.get.Reads as positions_get
use Rattle.positions.proofs.get_at.Reads as positions_get_at
use Rattle.message.proofs.read.Reads as message_read
use Rattle.fragments.proofs.first.Reads as fragments_first
use Rattle.fragments.proofs.next.Reads as fragments_next
use Rattle.writer.proofs.write.Reads as writer_write
use Rattle.jig.proofs.sill_read.Reads as jig_sill_read
use Rattle.jig.proofs.sill_term.Reads as jig_sill_term
use Rattle.jig.proofs.sill_find_name.Reads as jig_sill_find-name
use Rattle.jig.proofs.sill_find_number.Reads as jig_sill_find-number
use Rattle.jig.proofs.sill_head.Reads as jig_sill_head
use Rattle.jig.proofs.sill_get.Reads as jig_sill_get
use Rattle.jig.proofs.sill_header.Reads as jig_sill_header
use Rattle.jig.proofs.sill_message.Reads as jig_sill_message
use Rattle.jig.proofs.sill_position.Reads as jig_sill_position
use Rattle.jig.proofs.sill_atom.Reads as jig_sill_atom
use Rattle.jig.proofs.sill_first.Reads as jig_sill_first
use Rattle.jig.proofs.sill_next.Reads as jig_sill_next
use Rattle.jig.proofs.sill_write.Reads as jig_sill_write

-- a promise, of the lifetimes of what is lent, the arguments, the answer, and the parameters at the end
module _ {L : Type 0} {A R S : L → Type 0} (Promise : (κ : L) → A κ → R κ → S κ → Type 0) where
  -- whatever it is called with: where the answer is a refusal by a number, the number stands in the list
  abbrev Refuses : ((κ : L) → R κ → ℕ → Type 0) → Type 0
  Refuses by = (κ : L) (a : A κ) (r : R κ) (s : S κ) → Promise κ a r s → (n : ℕ) → by κ r n → Listed n

  -- an exported call tells its answer in a run that is lent: there is a first number there, which is Done or stands in the list
  abbrev Tells : ((κ : L) → S κ → List ℕ) → Type 0
  Tells told = (κ : L) (a : A κ) (r : R κ) (s : S κ) → Promise κ a r s → (n : ℕ) × ((l : List ℕ) × ((told κ s ≡ n ∷ l) × (¬ (n ≡ 0) → Listed n)))

  -- nothing that begins so is told
  abbrev NeverTells : ((κ : L) → S κ → List ℕ) → ℕ → Type 0
  NeverTells told n = (κ : L) (a : A κ) (r : R κ) (s : S κ) (l : List ℕ) → Promise κ a r s → ¬ (told κ s ≡ n ∷ l)

pub record Numbered : Type 0 where
  pub fields-be-u8 : Refuses fields-be-u8.Post (λ κ r. missing_by r)
  pub fields-be-u16 : Refuses fields-be-u16.Post (λ κ r. missing_by r)
  pub fields-be-u32 : Refuses fields-be-u32.Post (λ κ r. missing_by r)
  pub fields-be-u64 : Refuses fields-be-u64.Post (λ κ r. missing_by r)
  pub fields-be-i32 : Refuses fields-be-i32.Post (λ κ r. missing_by r)
  pub rows_row-at : Refuses rows_row-at.Post (λ κ r. refused_by r)
  pub rows_count : Refuses rows_count.Post (λ κ r. refused_by r)
  pub rows_name : Refuses rows_name.Post (λ κ r. refused_by r)
  pub reading_refused : Refuses reading_refused.Post (λ κ r. answer_by r)
  pub reading_refusal : Refuses reading_refusal.Post (λ κ r n. r.number ≡ n)
  pub reading_starts : Refuses reading_starts.Post (λ κ r. refused_by r)
  pub terms_read : Refuses terms_read.Post (λ κ r. answer_by r)
  pub heads_head : Refuses heads_head.Post (λ κ r. head_by r)
  pub tape_read : Refuses tape_read.Post (λ κ r. answer_by r)
  pub tape_behind : Refuses tape_behind.Post (λ κ r. answer_by r)
  pub lookup_find-name : Refuses lookup_find-name.Post (λ κ r. answer_by r)
  pub lookup_find-number : Refuses lookup_find-number.Post (λ κ r. answer_by r)
  pub references-start : Refuses references-start.Post (λ κ r. refused_by r)
  pub references-reference-at : Refuses references-reference-at.Post (λ κ r. refused_by r)
  pub cache_get : Refuses cache_get.Post (λ κ r. refused_by r)
  pub header_read : Refuses header_read.Post (λ κ r. refused_by r.rest)
  pub header-names : Refuses header-names.Post (λ κ r. refused_by r.rest)
  pub positions_get : Refuses positions_get.Post (λ κ r. refused_by r)
  pub positions_get_at : Refuses positions_get_at.Post (λ κ r. refused_by r)
  pub message_read : Refuses message_read.Post (λ κ r. answer_by r.answer)
  pub fragments_first : Refuses fragments_first.Post (λ κ r. refused_by r)
  pub fragments_next : Refuses fragments_next.Post (λ κ r. refused_by r)
  pub writer_write : Refuses writer_write.Post (λ κ r. refused_by r)
  pub jig_sill_read : Tells jig_sill_read.Post (λ κ s. s.1.1.1.0.now)
  pub jig_sill_term : Tells jig_sill_term.Post (λ κ s. s.1.1.1.0.now)
  pub jig_sill_find-name : Tells jig_sill_find-name.Post (λ κ s. s.1.1.1.1.0.now)
  pub jig_sill_find-number : Tells jig_sill_find-number.Post (λ κ s. s.1.1.1.1.0.now)
  pub jig_sill_head : Tells jig_sill_head.Post (λ κ s. s.1.1.0.now)
  pub jig_sill_get : Tells jig_sill_get.Post (λ κ s. s.1.1.1.0.now)
  pub jig_sill_header : Tells jig_sill_header.Post (λ κ s. s.1.1.1.0.now)
  pub jig_sill_message : Tells jig_sill_message.Post (λ κ s. s.1.1.1.1.1.1.0.now)
  pub jig_sill_position : Tells jig_sill_position.Post (λ κ s. s.1.1.1.1.0.now)
  pub jig_sill_atom : Tells jig_sill_atom.Post (λ κ s. s.1.1.1.1.1.0.now)
  pub jig_sill_first : Tells jig_sill_first.Post (λ κ s. s.1.0.now)
  pub jig_sill_next : Tells jig_sill_next.Post (λ κ s. s.1.0.now)
  pub jig_sill_write : Tells jig_sill_write.Post (λ κ s. s.1.1.1.0.now)

begins : (told : List ℕ) → FirstShown told → (n : ℕ) × ((l : List ℕ) × ((told ≡ n ∷ l) × (¬ (n ≡ 0) → Listed n)))
begins [] h = absurd h
begins (n ∷ l) h = (n, (l, (refl, shown_listed n h)))

eof : {n : ℕ} → n ≡ number.Eof → Listed n
unfolding among
eof e = rw e refl

numbered_by : {n : ℕ} (why : Refusal) → n ≡ number_of why → Listed n
numbered_by why e = rw e (refusal_listed why)

pub numbered : Numbered
numbered = record {
  fields-be-u8 = λ κ a r s p n h. eof h.1;
  fields-be-u16 = λ κ a r s p n h. eof h.1;
  fields-be-u32 = λ κ a r s p n h. eof h.1;
  fields-be-u64 = λ κ a r s p n h. eof h.1;
  fields-be-i32 = λ κ a r s p n h. eof h.1;
  rows_row-at = λ κ a r s p n h. numbered_by h.0 h.1.1;
  rows_count = λ κ a r s p n h. numbered_by h.0 h.1.1;
  rows_name = λ κ a r s p n h. numbered_by h.0 h.1.1;
  reading_refused = λ κ a r s p n h. numbered_by h.0.why h.1.1;
  reading_refusal = λ κ a r s p n h. numbered_by _ (sym h ∙ ap (λ (t : Told). t.number) p);
  reading_starts = λ κ a r s p n h. numbered_by h.0 h.1.1;
  terms_read = λ κ a r s p n h. numbered_by h.0.why h.1.1;
  heads_head = λ κ a r s p n h. numbered_by h.0.why h.1.1;
  tape_read = λ κ a r s p n h. numbered_by h.0.why h.1.1;
  tape_behind = λ κ a r s p n h. numbered_by h.0.why h.1.1;
  lookup_find-name = λ κ a r s p n h. numbered_by h.0.why h.1.1;
  lookup_find-number = λ κ a r s p n h. numbered_by h.0.why h.1.1;
  references-start = λ κ a r s p n h. numbered_by h.0 h.1.1;
  references-reference-at = λ κ a r s p n h. numbered_by h.0 h.1.1;
  cache_get = λ κ a r s p n h. numbered_by h.0 h.1.1;
  header_read = λ κ a r s p n h. numbered_by h.0 h.1.1;
  header-names = λ κ a r s p n h. numbered_by h.0 h.1.1;
  positions_get = λ κ a r s p n h. numbered_by h.0 h.1.1;
  positions_get_at = λ κ a r s p n h. numbered_by h.0 h.1.1;
  message_read = λ κ a r s p n h. numbered_by h.0.why h.1.1;
  fragments_first = λ κ a r s p n h. numbered_by h.0 h.1.1;
  fragments_next = λ κ a r s p n h. numbered_by h.0 h.1.1;
  writer_write = λ κ a r s p n h. numbered_by h.0 h.1.1;
  jig_sill_read = λ κ a r s p. begins _ (answer-told (λ x q. tape.answer-shown (record_sure _ _) q) p);
  jig_sill_term = λ κ a r s p. begins _ (answer-told (λ x q. rw q (read_shown _ _ _ _)) p);
  jig_sill_find-name = λ κ a r s p. begins _ (answer-told (λ x q. lookup.answer-shown q) p);
  jig_sill_find-number = λ κ a r s p. begins _ (answer-told (λ x q. lookup.answer-shown q) p);
  jig_sill_head = λ κ a r s p. begins _ (rw p (head-told _ _));
  jig_sill_get = λ κ a r s p. begins _ (rw p (name-told _));
  jig_sill_header = λ κ a r s p. begins _ (rw p.0 (place-told _));
  jig_sill_message = λ κ a r s p. begins _ (answer-told (λ x q. tape.answer-shown (message_sure _ _ _ _) q) p.0);
  jig_sill_position = λ κ a r s p. begins _ (rw p (name-told _));
  jig_sill_atom = λ κ a r s p. begins _ (rw p (name-told _));
  jig_sill_first = λ κ a r s p. begins _ (rw p (first-told _));
  jig_sill_next = λ κ a r s p. begins _ (rw p (next-told _));
  jig_sill_write = λ κ a r s p. begins _ (rw p.0 (place-told _));
}

-- What this rules out: a refusal by 0, which would be taken for Done, and a number that the list doesn't have.
pub no_zero : (why : Refusal) → ¬ (number_of why ≡ 0)
no_zero = refused_some

pub no_other : NeverTells jig_sill_head.Post (λ κ s. s.1.1.0.now) 255
unfolding among
no_other κ a r s l p e =
    let f = numbered.jig_sill_head κ a r s p in
    let i : f.0 ≡ 255 = ap (λ (t : List ℕ). get_or t 0 0) (sym f.1.1.0 ∙ e) in
    let h = f.1.1.1 (λ z. omega arith) in
    absurd (let z : among 255 refusals ≡ true = rw i at h in let y : ◌≡◌ {A = ℕ} 0 1 = cc in omega arith)
