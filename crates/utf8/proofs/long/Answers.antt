-- `utf8::long` meets its contract. The loop's invariant: the bytes up to i are plain, and i isn't past the end. The last eight may
-- overlap those. The measure is what is left before them. Assumes nothing.
use Rattle.std.proofs.Common.{ℕ, ◌+◌, ◌-◌, sym, ◌∙◌, subst, arith}
use Rattle.utf8.proofs.Eights.{never, plain-none, plain_join, plain-part, eight-plain}
use Rattle.utf8.specs.Inner.Check.{Plain}
use Rattle.utf8.proofs.long.Goals as goal

pub loop-i-init : goal.loop-i-init
loop-i-init c = (plain-none _ _ (omega arith), omega arith)

pub returns-then-not-low8 : goal.returns-then-not-low8
returns-then-not-low8 c = (never, λ p. sym c.if-not-low8.true ∙ c.low8.ensures.1 ((eight-plain (omega arith) c.eight_at.ensures).1 (plain-part p _ _ c.loop-i.invariant.0.order (omega arith) (omega arith))))

pub loop-i-preserved : goal.loop-i-preserved
loop-i-preserved c = (plain_join c.loop-i.invariant.0 ((eight-plain (omega arith) c.eight_at.ensures).0 (c.low8.ensures.0 c.if-not-low8.false)) (omega arith) (omega arith), omega arith)

pub returns : goal.returns
returns c =
    let last = eight-plain {i = c.args.at + c.args.n - 8} (omega arith) c.eight_at-2.ensures in (
      λ e. subst (λ (m : ℕ). Plain c.args.b.now c.args.at m) (omega arith) (plain_join c.loop-i.invariant.0 (last.0 (c.low8-2.ensures.0 e)) (omega arith) (omega arith)),
      λ p. c.low8-2.ensures.1 (last.1 (plain-part p _ _ (omega arith) (omega arith) (omega arith))),
    )
