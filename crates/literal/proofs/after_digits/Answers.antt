-- `literal::after_digits` meets its contract: the digits end at the first byte that is none. Assumes nothing.
use Rattle.std.proofs.Common.{◌∙◌, rules}
use Rattle.literal.specs.Inner.Parse.{is_digit}
use Rattle.literal.proofs.Pieces as pieces
use Rattle.literal.proofs.after_digits.Goals as goal

pub returns-in-Some : goal.returns-in-Some
unfolding is_digit
returns-in-Some c =
    pieces.part c.args.s.now c.in-Some.n ∙ pieces.digits_to c.args.s.now c.in-Some.n (search rules) (search rules) (search rules)

pub returns-in-None : goal.returns-in-None
unfolding is_digit
returns-in-None c = pieces.all_digits c.args.s.now (search rules)
