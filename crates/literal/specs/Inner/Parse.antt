-- The number texts as a test that computes: each definition reads a piece of document 01's sentence, whole in Literal.antt, from the front of a text.
-- proofs/Meaning.antt shows that it passes for the texts of Literal.antt and no other. `unfolding is_literal` opens every piece.
use Rattle.std.specs.Prelude.{Bool, true, false, cond, ◌&&◌, ◌||◌, List, [], ◌∷◌, ℕ, ◌+◌, eqb, leb, ltb, length, get_or, drop}

-- "an optional sign", + (43) or - (45): what stands after it
unfoldable pub after_sign : List ℕ → List ℕ
after_sign [] = []
after_sign (b ∷ s) = cond (eqb b 43 || eqb b 45) s (b ∷ s)

-- 0 (48) to 9 (57)
unfoldable pub is_digit : ℕ → Bool
is_digit b = leb 48 b && leb b 57

-- "digits": what stands after as many as there are
unfoldable pub after_digits : List ℕ → List ℕ
after_digits [] = []
after_digits (b ∷ s) = cond (is_digit b) (after_digits s) (b ∷ s)

-- "in either letter case": the small letter c, or its capital
unfoldable pub is_cased : ℕ → ℕ → Bool
is_cased c b = eqb b c || eqb (b + 32) c

-- the word w, each letter in either case
unfoldable pub is_word : List ℕ → List ℕ → Bool
is_word [] [] = true
is_word [] (b ∷ t) = false
is_word (c ∷ w) [] = false
is_word (c ∷ w) (b ∷ t) = is_cased c b && is_word w t

-- "then optionally e or E, an optional sign and one or more digits": nothing stands after the digits, and there is one
unfoldable pub is_ending : List ℕ → Bool
is_ending [] = true
is_ending (b ∷ s) = is_cased 101 b && (eqb (length (after_digits (after_sign s))) 0 && ltb 0 (length (after_sign s)))

-- "digits with at most one point (46) and at least one digit", then the ending: the text is longer than its ending, and by more than the point
unfoldable pub is_number : List ℕ → Bool
is_number s =
    let t = after_digits s in
    let u = after_digits (drop 1 t) in
    cond (eqb (get_or t 0 0) 46) (ltb (length u + 1) (length s) && is_ending u) (ltb (length t) (length s) && is_ending t)

-- "inf, infinity or nan"
abbrev pub inf_text : List ℕ
inf_text = 105 ∷ 110 ∷ 102 ∷ []

abbrev pub infinity_text : List ℕ
infinity_text = 105 ∷ 110 ∷ 102 ∷ 105 ∷ 110 ∷ 105 ∷ 116 ∷ 121 ∷ []

abbrev pub nan_text : List ℕ
nan_text = 110 ∷ 97 ∷ 110 ∷ []

-- a sign, then one of these, or a number
unfoldable pub is_literal : List ℕ → Bool
unfolding after_sign is_digit after_digits is_cased is_word is_ending is_number
is_literal s =
    let t = after_sign s in
    is_word inf_text t || (is_word infinity_text t || (is_word nan_text t || is_number t))
