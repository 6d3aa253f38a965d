-- `literal::literal` meets its contract: what follows the sign is one of the three words, or a number. Assumes nothing.
use Rattle.std.proofs.Common.{arith}
use Rattle.std.proofs.lemmas.Bool.Decides.{nat_tests}
use Rattle.literal.specs.Inner.Parse.{inf_text, infinity_text, nan_text}
use Rattle.literal.proofs.Pieces as pieces
use Rattle.literal.proofs.literal.Goals as goal
use Rattle.literal.proofs.literal.Goals.{then-eq_ignore_ascii_case, else-eq_ignore_ascii_case, then-eq_ignore_ascii_case-2, else-eq_ignore_ascii_case-2}

pub returns-then-eq_ignore_ascii_case-3 : goal.returns-then-eq_ignore_ascii_case-3
returns-then-eq_ignore_ascii_case-3 c =
    let inf = pieces.is_it inf_text _ pieces.inf-small c.eq_ignore_ascii_case.ensures.test in
    let whole = pieces.literal-of _ _ c.after_sign-t.ensures in
    elim c.if-eq_ignore_ascii_case-2.branch [
      | then-eq_ignore_ascii_case-2 w ↦ elim c.if-eq_ignore_ascii_case.branch [
        | then-eq_ignore_ascii_case v ↦ grind (arith, nat_tests)
        | else-eq_ignore_ascii_case v ↦
            let infinity = pieces.is_it infinity_text _ pieces.infinity-small v.eq_ignore_ascii_case-else-eq_ignore_ascii_case.ensures.test in
            grind (arith, nat_tests)
      ]
      | else-eq_ignore_ascii_case-2 w ↦
          let nan = pieces.is_it nan_text _ pieces.nan-small w.eq_ignore_ascii_case-else-eq_ignore_ascii_case-2.ensures.test in
          grind (arith, nat_tests)
    ]

pub returns-else-eq_ignore_ascii_case-3 : goal.returns-else-eq_ignore_ascii_case-3
returns-else-eq_ignore_ascii_case-3 c =
    let inf = pieces.is_it inf_text _ pieces.inf-small c.eq_ignore_ascii_case.ensures.test in
    let whole = pieces.literal-of _ _ c.after_sign-t.ensures in
    elim c.if-eq_ignore_ascii_case-2.branch [
      | then-eq_ignore_ascii_case-2 w ↦ grind (arith, nat_tests)
      | else-eq_ignore_ascii_case-2 w ↦ elim c.if-eq_ignore_ascii_case.branch [
        | then-eq_ignore_ascii_case v ↦ grind (arith, nat_tests)
        | else-eq_ignore_ascii_case v ↦
            let infinity = pieces.is_it infinity_text _ pieces.infinity-small v.eq_ignore_ascii_case-else-eq_ignore_ascii_case.ensures.test in
            let nan = pieces.is_it nan_text _ pieces.nan-small w.eq_ignore_ascii_case-else-eq_ignore_ascii_case-2.ensures.test in
            grind (arith, nat_tests)
      ]
    ]
