-- Texts that are a number's and texts that aren't, as theorems about the grammar: the test computes, and `literal-is` says what its answer means.
-- Assumes nothing.
use mathlib.Core.Path.{◌≡◌, refl}
use mathlib.Core.Bool.{false≢true}
use mathlib.Core.List.{[], ◌∷◌}
use Rattle.literal.specs.Inner.Trim.{trimmed}
use Rattle.literal.specs.Literal.{Literal}
use Rattle.literal.specs.Inner.Parse.{is_literal}
use Rattle.literal.proofs.Meaning.{literal-is}

-- 1 0 with a zero byte between them and two after them: the last two are cut off
pub inner-zero : trimmed (49 ∷ 0 ∷ 48 ∷ 0 ∷ 0 ∷ []) ≡ 3
unfolding trimmed
inner-zero = refl

-- ---- taken

-- 1
pub one : Literal (49 ∷ [])
unfolding is_literal
one = (literal-is _).0 refl

-- 1.
pub one_point : Literal (49 ∷ 46 ∷ [])
unfolding is_literal
one_point = (literal-is _).0 refl

-- .5
pub half : Literal (46 ∷ 53 ∷ [])
unfolding is_literal
half = (literal-is _).0 refl

-- -1.5e+10
pub all_parts : Literal (45 ∷ 49 ∷ 46 ∷ 53 ∷ 101 ∷ 43 ∷ 49 ∷ 48 ∷ [])
unfolding is_literal
all_parts = (literal-is _).0 refl

-- iNf
pub small_and_capital : Literal (105 ∷ 78 ∷ 102 ∷ [])
unfolding is_literal
small_and_capital = (literal-is _).0 refl

-- +Infinity
pub whole_word : Literal (43 ∷ 73 ∷ 110 ∷ 102 ∷ 105 ∷ 110 ∷ 105 ∷ 116 ∷ 121 ∷ [])
unfolding is_literal
whole_word = (literal-is _).0 refl

-- NaN
pub no_number : Literal (78 ∷ 97 ∷ 78 ∷ [])
unfolding is_literal
no_number = (literal-is _).0 refl

-- ---- refused

-- the empty text
pub nothing : Literal [] → ⊥
unfolding is_literal
nothing l = false≢true ((literal-is _).1 l)

-- +
pub sign_alone : Literal (43 ∷ []) → ⊥
unfolding is_literal
sign_alone l = false≢true ((literal-is _).1 l)

-- e1
pub no_digit_before : Literal (101 ∷ 49 ∷ []) → ⊥
unfolding is_literal
no_digit_before l = false≢true ((literal-is _).1 l)

-- a space, 1
pub space : Literal (32 ∷ 49 ∷ []) → ⊥
unfolding is_literal
space l = false≢true ((literal-is _).1 l)

-- .
pub point_alone : Literal (46 ∷ []) → ⊥
unfolding is_literal
point_alone l = false≢true ((literal-is _).1 l)

-- 1e
pub no_digit_after : Literal (49 ∷ 101 ∷ []) → ⊥
unfolding is_literal
no_digit_after l = false≢true ((literal-is _).1 l)

-- 1.2.3
pub two_points : Literal (49 ∷ 46 ∷ 50 ∷ 46 ∷ 51 ∷ []) → ⊥
unfolding is_literal
two_points l = false≢true ((literal-is _).1 l)
