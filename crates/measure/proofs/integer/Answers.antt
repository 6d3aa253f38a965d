-- `measure::integer`: a byte, 32 bits, or digits. Assumes nothing.
use Rattle.std.proofs.Common.{◌≡◌, ℕ, ◌+◌, length, Some, nat_abs, ap, ◌∙◌, w64, arith, rules}
use Rattle.std.specs.Int.{cast_signed}
use Rattle.fields.specs.Be.{digits_of}
use Rattle.measure.specs.Item.{signed64}
use Rattle.measure.proofs.Sizes as laws
use Rattle.measure.proofs.integer.Goals as goal

pub returns-then-x-lt256 : goal.returns-then-x-lt256
returns-then-x-lt256 c = (laws.own_byte _ (omega arith) c.if-x-lt256.true, omega arith)

pub returns-then-x-lt4294967296 : goal.returns-then-x-lt4294967296
returns-then-x-lt4294967296 c = (laws.own_word _ (omega arith) c.if-x-lt256.false c.if-x-lt4294967296.true, omega arith)

pub digits-requires : goal.digits-requires
digits-requires c =
    let same : c.unsigned_abs.result ≡ nat_abs (cast_signed w64 c.args.x) = search rules in
    let here = same ∙ ap nat_abs (laws.cast_is c.args.x (omega arith)) in
    omega (arith, here, laws.large c.args.x (omega arith) c.if-x-lt4294967296.false)

pub returns : goal.returns
returns c =
    let same : c.unsigned_abs.result ≡ nat_abs (cast_signed w64 c.args.x) = search rules in
    let here = same ∙ ap nat_abs (laws.cast_is c.args.x (omega arith)) in
    let long : 3 + c.digits.result ≡ 3 + length (digits_of 8 (nat_abs (signed64 c.args.x))) = omega (arith, c.digits.ensures.0, ap (λ (m : ℕ). length (digits_of 8 m)) here) in
    (ap Some long ∙ laws.own_big c.args.x (omega arith) c.if-x-lt4294967296.false, omega (arith, c.digits.ensures.1))
