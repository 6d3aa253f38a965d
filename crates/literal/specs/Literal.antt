-- Which texts are a number's, and what each part of them is. A text is a list of bytes. It rests on nothing else of the project.
-- Document 01: a tag 99 text "must then read as a Rust `f64` literal: an optional sign, then in either letter case inf, infinity or nan, or digits with
-- at most one point and at least one digit, then optionally e or E, an optional sign and one or more digits". Its pieces stand above their definitions.
use Rattle.std.specs.Prelude.{◌≡◌, ◌⊎◌, List, [], ◌∷◌, ◌++◌, ℕ, ◌+◌, ◌≤◌}

-- "an optional sign": nothing, + (43) or - (45)
pub data Sign : Type 0 where
  unsigned plus minus : Sign

abbrev pub sign_text : Sign → List ℕ
sign_text unsigned = []
sign_text plus = 43 ∷ []
sign_text minus = 45 ∷ []

-- "digits": bytes from 0 (48) to 9 (57), perhaps none
pub data Digits : List ℕ → Type 0 where
  none : Digits []
  more : {b : ℕ} {l : List ℕ} → 48 ≤ b → b ≤ 57 → Digits l → Digits (b ∷ l)

-- "in either letter case": b is the small letter c, or its capital, which stands 32 below it
abbrev pub Cased : ℕ → ℕ → Type 0
Cased c b = (b ≡ c) ⊎ (b + 32 ≡ c)

-- the text t is the word w, each letter in either case by itself
pub data Word : List ℕ → List ℕ → Type 0 where
  end : Word [] []
  letter : {c b : ℕ} {w t : List ℕ} → Cased c b → Word w t → Word (c ∷ w) (b ∷ t)

-- "at most one point": the digits f after it, and the text t of both: no point and no digits, or a point (46) and then the digits
pub data Point : List ℕ → List ℕ → Type 0 where
  no_point : {f t : List ℕ} → f ≡ [] → t ≡ [] → Point f t
  a_point : {f t : List ℕ} → t ≡ 46 ∷ f → Point f t

-- "then optionally e or E, an optional sign and one or more digits": e is 101
pub data Exponent : Type 0 where
  absent : Exponent
  power : Sign → List ℕ → Exponent

pub data Power : Exponent → List ℕ → Type 0 where
  no_power : {t : List ℕ} → t ≡ [] → Power absent t
  a_power : {s : Sign} {d t : List ℕ} {b : ℕ} → Cased 101 b → Digits d → ¬ (d ≡ []) → t ≡ b ∷ (sign_text s ++ d) → Power (power s d) t

-- what a text without its sign says: a number has the digits before the point, the digits after it, and the exponent
pub data Value : Type 0 where
  infinite nan : Value
  number : (whole fraction : List ℕ) → Exponent → Value

-- "inf, infinity or nan", "or digits with at most one point and at least one digit", then the exponent: the digits before the point, the
-- point's text p, the exponent's text x
pub data Spells : Value → List ℕ → Type 0 where
  inf : {t : List ℕ} → Word (105 ∷ 110 ∷ 102 ∷ []) t → Spells infinite t
  infinity : {t : List ℕ} → Word (105 ∷ 110 ∷ 102 ∷ 105 ∷ 110 ∷ 105 ∷ 116 ∷ 121 ∷ []) t → Spells infinite t
  not_a_number : {t : List ℕ} → Word (110 ∷ 97 ∷ 110 ∷ []) t → Spells nan t
  digits : {whole fraction : List ℕ} {e : Exponent} {p x t : List ℕ} → Digits whole → Digits fraction → ¬ (whole ++ fraction ≡ [])
      → Point fraction p → Power e x → t ≡ whole ++ (p ++ x) → Spells (number whole fraction e) t

-- a number text: a sign, and a value after it
pub record Literal (t : List ℕ) : Type 0 where
  pub sign : Sign
  pub value : Value
  pub rest : List ℕ
  pub text : t ≡ sign_text sign ++ rest
  pub spelled : Spells value rest
