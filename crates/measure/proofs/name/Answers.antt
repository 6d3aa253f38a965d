-- `measure::name`: short and ASCII, too long, outside, ASCII, or judged character by character. Assumes nothing.
use Rattle.std.proofs.Common.{Some, drop, sym, refl, ap, ◌∙◌, arith}
use Rattle.fields.proofs.Laws.{there, part}
use Rattle.utf8.specs.Inner.Find.{good_bytes}
use Rattle.utf8.proofs.Laws.{ascii_good}
use Rattle.measure.proofs.Sizes as laws
use Rattle.measure.proofs.name.Goals as goal
use Rattle.measure.proofs.name.Goals.{then-n-gt65535-via-then-n-gt65535, then-n-gt65535-via-else-n-gt65535+then-not-has, then-ascii-2-via-then-ascii-2, then-ascii-2-via-else-ascii-2+then-good-len}

pub returns-then-ascii : goal.returns-then-ascii
returns-then-ascii c = (ap Some c.named.ensures.0 ∙ laws.name-short _ _ _ c.if-len-le16.true (c.ascii.ensures.0 c.if-ascii.true), omega (arith, c.named.ensures.1, c.if-len-le16.true))

pub returns-then-n-gt65535 : goal.returns-then-n-gt65535
returns-then-n-gt65535 c = (
  elim c.then-n-gt65535.branch [
    | then-n-gt65535-via-then-n-gt65535 w ↦ laws.name-long _ _ _ (omega (arith, w.if-n-gt65535.true))
    | then-n-gt65535-via-else-n-gt65535+then-not-has w ↦ laws.name_outside _ _ _ (sym w.has.ensures ∙ w.if-not-has.true)
  ],
  tt,
)

pub overflow_add-from : goal.overflow_add-from
overflow_add-from c = omega (arith, there c.args.n _ _ (sym c.has.ensures ∙ c.if-not-has.false))

pub slice_bounds-good-end : goal.slice_bounds-good-end
slice_bounds-good-end c = omega (arith, there c.args.n _ _ (sym c.has.ensures ∙ c.if-not-has.false))

pub returns-then-ascii-2 : goal.returns-then-ascii-2
returns-then-ascii-2 c = (
  ap Some c.named-then-ascii-2.ensures.0
      ∙ laws.name-good _ _ _ (sym c.has.ensures ∙ c.if-not-has.false) (omega arith)
      (elim c.then-ascii-2.branch [
        | then-ascii-2-via-then-ascii-2 w ↦ ascii_good (c.ascii-2.ensures.0 w.if-ascii-2.true)
        | then-ascii-2-via-else-ascii-2+then-good-len w ↦
            ap good_bytes (sym (part (drop c.args.at c.args.texts.now) c.args.at c.args.n _ refl)) ∙ sym w.good.ensures ∙ w.if-good-len.true
      ]),
  omega (arith, c.named-then-ascii-2.ensures.1),
)

pub returns : goal.returns
returns c = (laws.name_bad _ _ _ (λ e. c.if-good-len.false (c.good.ensures ∙ ap good_bytes (part (drop c.args.at c.args.texts.now) c.args.at c.args.n _ refl) ∙ e)), tt)
