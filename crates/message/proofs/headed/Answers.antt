-- `message::headed` meets its contract: what is refused before the header, by how that begins, by its segments, and by what becomes of its names.
-- Assumes nothing.
use mathlib.Core.Path.{◌≡◌, ap, sym, ◌∙◌}
use Rattle.std.specs.Prelude.{Err}
use Rattle.numbers.specs.declared.Refusal.TheVariants as refusal
use Rattle.numbers.proofs.Laws.{handed}
use Rattle.references.proofs.Halves.{start-there}
use Rattle.header.specs.declared.HeaderRead.{HeaderRead}
use Rattle.names.specs.Form.{left}
use Rattle.header.proofs.Leaving.{of}
use Rattle.message.specs.Message.{message_over}
use Rattle.message.proofs.Laws as laws
use Rattle.message.proofs.Laws.{stopped, by_answer, starts-behind, all_there}
use Rattle.message.proofs.headed.Goals as goal
use Rattle.message.proofs.headed.Goals.{then-limit-eq0-via-then-limit-eq0, then-limit-eq0-via-else-limit-eq0+then-limit-gt-NESTING}

pub returns-then-limit-eq0 : goal.returns-then-limit-eq0
returns-then-limit-eq0 c = stopped _ limited
  where
    limited : message_over c.args.b.now c.args.limit c.args.cache.now c.args.store.now ≡ left (Err refusal.Limit) (of c.args.cache.now c.args.store.now)
    limited =
        elim c.then-limit-eq0.branch [
          | then-limit-eq0-via-then-limit-eq0 w ↦ laws.limit_none _ _ _ _ w.if-limit-eq0.true
          | then-limit-eq0-via-else-limit-eq0+then-limit-gt-NESTING w ↦ laws.limit_over _ _ _ _ w.if-limit-eq0.false w.if-limit-gt-NESTING.true
        ]

pub returns-then-store-ne-STORE_BYTES : goal.returns-then-store-ne-STORE_BYTES
returns-then-store-ne-STORE_BYTES c = stopped _ (laws.no_store _ _ _ _ c.if-limit-eq0.false c.if-limit-gt-NESTING.false c.if-store-ne-STORE_BYTES.true)

pub returns-in_err-opening : goal.returns-in_err-opening
returns-in_err-opening c =
    rw (handed _ c.from_residual.ensures)
    (stopped _ (laws.begins_wrong _ _ _ _ c.if-limit-eq0.false c.if-limit-gt-NESTING.false c.if-store-ne-STORE_BYTES.false (sym c.in_err-opening.ensures)))

pub returns-then-not-one_segment : goal.returns-then-not-one_segment
returns-then-not-one_segment c =
    stopped _ (laws.other-segment _ _ _ _ c.if-limit-eq0.false c.if-limit-gt-NESTING.false c.if-store-ne-STORE_BYTES.false (sym c.in_ok-opening.ensures)
    (sym c.one_segment.ensures ∙ c.if-not-one_segment.true))

pub names-header-requires-clause-flags : goal.names-header-requires-clause-flags
names-header-requires-clause-flags c = start-there _ (λ k. (c.type_inv.b k).fits) (sym c.in_ok-opening.ensures)

pub returns-in_err-start : goal.returns-in_err-start
returns-in_err-start c =
    let e = laws.by_header _ _ _ _ c.if-limit-eq0.false c.if-limit-gt-NESTING.false c.if-store-ne-STORE_BYTES.false (sym c.in_ok-opening.ensures) (sym c.one_segment.ensures ∙ c.if-not-one_segment.false) in
    rw (handed _ c.from_residual-in_err-start.ensures) (stopped _ (rw c.in_err-start.was at (by_answer e c.names-header.ensures.answer c.names-header.ensures.store)))

pub note-known-requires : goal.note-known-requires
note-known-requires c =
    all_there _ c.args.cache.now c.args.store.now (λ k. (c.type_inv.b k).fits) (sym c.in_ok-opening.ensures)
    (ap (λ (r : HeaderRead). r.rest) (sym c.names-header.ensures.answer) ∙ c.in_ok-start.was)

pub returns : goal.returns
returns c =
    let e = laws.by_header _ _ _ _ c.if-limit-eq0.false c.if-limit-gt-NESTING.false c.if-store-ne-STORE_BYTES.false (sym c.in_ok-opening.ensures) (sym c.one_segment.ensures ∙ c.if-not-one_segment.false) in
    starts-behind (sym c.in_ok-opening.ensures) (rw c.in_ok-start.was at (by_answer e c.names-header.ensures.answer c.names-header.ensures.store))
    c.note-known.ensures.run c.note-known.ensures.bits.0 c.note-known.ensures.bits.1
