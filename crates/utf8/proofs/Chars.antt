-- One character at the front of a list of bytes: what its bytes are by their number. Assumes nothing.
use Rattle.std.proofs.Common.{◌≡◌, ℕ, ◌+◌, ◌-◌, ◌/◌, ◌%◌, ◌<◌, ◌≤◌, Bool, true, false, ltb, ◌⊎◌, List, [], ◌∷◌, ◌++◌, length, get_or, drop, Some, sym, refl, ap, ◌∙◌, inl, inr, ⊎_elim, add-zero, arith, length-drop, get_or-drop, ltb-false, ltb-true, le-ltb, lt-ltb}
use native.Mathlib.Nat.{div-div-eq-div-mul}
use Rattle.utf8.specs.Unicode.{scalar, encode}
use Rattle.utf8.specs.Inner.Find.{decode}
use Rattle.utf8.specs.Inner.Check.{Begins, Char, one}

-- the four rows of Unicode's Table 3-6
pub encode_1 : (c : ℕ) → c < 0x80 → encode c ≡ c ∷ []
unfolding encode
encode_1 c h = rw (lt-ltb c 0x80 h)

pub encode_2 : (c : ℕ) → 0x80 ≤ c → c < 0x800 → encode c ≡ (0xC0 + c / 64) ∷ (0x80 + c % 64) ∷ []
unfolding encode
encode_2 c l h = rw (le-ltb c 0x80 l, lt-ltb c 0x800 h)

pub encode_3 : (c : ℕ) → 0x800 ≤ c → c < 0x10000 → encode c ≡ (0xE0 + c / 4096) ∷ (0x80 + c / 64 % 64) ∷ (0x80 + c % 64) ∷ []
unfolding encode
encode_3 c l h = rw (le-ltb c 0x80 (omega arith), le-ltb c 0x800 l, lt-ltb c 0x10000 h)

pub encode_4 : (c : ℕ) → 0x10000 ≤ c → encode c ≡ (0xF0 + c / 262144) ∷ (0x80 + c / 4096 % 64) ∷ (0x80 + c / 64 % 64) ∷ (0x80 + c % 64) ∷ []
unfolding encode
encode_4 c l = rw (le-ltb c 0x80 (omega arith), le-ltb c 0x800 (omega arith), le-ltb c 0x10000 l)

-- what a scalar value is, as orders
pub below : {c : ℕ} → c < 0xD800 → scalar c ≡ true
unfolding scalar
below {c} h = rw (lt-ltb c 0xD800 h)

pub above : {c : ℕ} → 0xE000 ≤ c → c ≤ 0x10FFFF → scalar c ≡ true
unfolding scalar
above {c} l h = rw (le-ltb c 0xD800 (omega arith), le-ltb c 0xE000 l, lt-ltb c 0x110000 (omega arith))

pub apart : (c : ℕ) → scalar c ≡ true → 0xD800 ≤ c → c < 0xE000 → ⊥
unfolding scalar
apart c e l h = let f : ◌≡◌ {A = Bool} false true = rw (le-ltb c 0xD800 l, lt-ltb c 0xE000 h) at e in let z : ◌≡◌ {A = ℕ} 0 1 = cc in omega arith

pub top : (c : ℕ) → scalar c ≡ true → c ≤ 0x10FFFF
unfolding scalar
top c e = go (ltb c 0xE000) refl
  where
    go : (t : Bool) → ltb c 0xE000 ≡ t → c ≤ 0x10FFFF
    go true f = omega (arith, ltb-true c 0xE000 f)
    go false f = omega (arith, ltb-true c 0x110000 (rw (le-ltb c 0xD800 (omega (arith, ltb-false c 0xE000 f)), f) at e))

-- the bytes from i on are those of a character of one, two, three or four bytes
record One (s : List ℕ) (i char : ℕ) : Type 0 where
  pub low : char < 0x80
  pub long : i + 1 ≤ length s
  pub lead : get_or s i 0 ≡ char

record Two (s : List ℕ) (i char : ℕ) : Type 0 where
  pub low : 0x80 ≤ char
  pub high : char < 0x800
  pub long : i + 2 ≤ length s
  pub lead : get_or s i 0 ≡ 0xC0 + char / 64
  pub last : get_or s (i + 1) 0 ≡ 0x80 + char % 64

record Three (s : List ℕ) (i char : ℕ) : Type 0 where
  pub low : 0x800 ≤ char
  pub high : char < 0x10000
  pub long : i + 3 ≤ length s
  pub lead : get_or s i 0 ≡ 0xE0 + char / 4096
  pub next : get_or s (i + 1) 0 ≡ 0x80 + char / 64 % 64
  pub last : get_or s (i + 2) 0 ≡ 0x80 + char % 64

record Four (s : List ℕ) (i char : ℕ) : Type 0 where
  pub low : 0x10000 ≤ char
  pub long : i + 4 ≤ length s
  pub lead : get_or s i 0 ≡ 0xF0 + char / 262144
  pub next : get_or s (i + 1) 0 ≡ 0x80 + char / 4096 % 64
  pub third : get_or s (i + 2) 0 ≡ 0x80 + char / 64 % 64
  pub last : get_or s (i + 3) 0 ≡ 0x80 + char % 64

-- a list from i on, byte by byte
at_first : (s : List ℕ) (i : ℕ) → get_or (drop i s) 0 0 ≡ get_or s i 0
at_first s i = get_or-drop i s 0 0 ∙ ap (λ (n : ℕ). get_or s n 0) (add-zero i)

firsts_1 : (s : List ℕ) → 1 ≤ length s → s ≡ get_or s 0 0 ∷ drop 1 s
firsts_1 [] h = absurd (omega arith)
firsts_1 (a ∷ s) h = refl

-- which of them a character is goes by its value
module _ (s : List ℕ) (i : ℕ) where
  from_left : {n : ℕ} → i + n ≤ length s → n ≤ length (drop i s)
  from_left h = simp length-drop (omega arith)

  module _ (b : Begins (drop i s)) where
    with_row : {row : List ℕ} → encode b.char ≡ row → drop i s ≡ row ++ b.rest
    with_row e = b.is ∙ ap (λ (l : List ℕ). l ++ b.rest) e

    byte : (k : ℕ) {l : List ℕ} → drop i s ≡ l → get_or s (i + k) 0 ≡ get_or l k 0
    byte k e = sym (get_or-drop i s k 0) ∙ ap (λ (m : List ℕ). get_or m k 0) e

    first : {l : List ℕ} → drop i s ≡ l → get_or s i 0 ≡ get_or l 0 0
    first e = sym (at_first s i) ∙ ap (λ (m : List ℕ). get_or m 0 0) e

    long : {l : List ℕ} → drop i s ≡ l → length l ≡ length s - i
    long e = sym (ap length e) ∙ length-drop i s

    cases_1 : b.char < 0x80 → One s i b.char
    cases_1 h = let e = with_row (encode_1 b.char h) in record { low = h; long = omega (arith, long e); lead = first e }

    cases_2 : 0x80 ≤ b.char → b.char < 0x800 → Two s i b.char
    cases_2 l h =
        let e = with_row (encode_2 b.char l h) in
        record { low = l; high = h; long = omega (arith, long e); lead = first e; last = byte 1 e }

    cases_3 : 0x800 ≤ b.char → b.char < 0x10000 → Three s i b.char
    cases_3 l h =
        let e = with_row (encode_3 b.char l h) in
        record
        { low = l; high = h; long = omega (arith, long e); lead = first e; next = byte 1 e; last = byte 2 e }

    cases_4 : 0x10000 ≤ b.char → Four s i b.char
    cases_4 l =
        let e = with_row (encode_4 b.char l) in
        record {
          low = l;
          long = omega (arith, long e);
          lead = first e;
          next = byte 1 e;
          third = byte 2 e;
          last = byte 3 e;
        }

    cases : One s i b.char ⊎ (Two s i b.char ⊎ (Three s i b.char ⊎ Four s i b.char))
    cases = go (ltb b.char 0x80) refl
      where
        go₃ : 0x800 ≤ b.char → (t : Bool) → ltb b.char 0x10000 ≡ t → Three s i b.char ⊎ Four s i b.char
        go₃ l true e = inl (cases_3 l (ltb-true _ _ e))
        go₃ l false e = inr (cases_4 (ltb-false _ _ e))

        go₂ : 0x80 ≤ b.char → (t : Bool) → ltb b.char 0x800 ≡ t → Two s i b.char ⊎ (Three s i b.char ⊎ Four s i b.char)
        go₂ l true e = inl (cases_2 l (ltb-true _ _ e))
        go₂ l false e = inr (go₃ (ltb-false _ _ e) (ltb b.char 0x10000) refl)

        go : (t : Bool) → ltb b.char 0x80 ≡ t → One s i b.char ⊎ (Two s i b.char ⊎ (Three s i b.char ⊎ Four s i b.char))
        go true e = inl (cases_1 (ltb-true _ _ e))
        go false e = inr (go₂ (ltb-false _ _ e) (ltb b.char 0x800) refl)

  -- it isn't empty
  pub not_end : Begins (drop i s) → i < length s
  not_end b = ⊎_elim (λ w. omega arith) (⊎_elim (λ w. omega arith) (⊎_elim (λ w. omega arith) (λ w. omega arith))) (cases b)

  -- a byte of ASCII is one
  pub is_one : i + 1 ≤ length s → get_or s i 0 < 0x80 → Char (drop i s) (Some 1)
  is_one l h =
      one (omega arith) (from_left l) (get_or s i 0) (below (omega arith))
      (firsts_1 (drop i s) (from_left l) ∙ rw (encode_1 (get_or s i 0) h, at_first s i))

-- a character's value is what `decode` makes of its bytes
pub decoded : {s : List ℕ} (b : Begins s) → b.char ≡ decode (get_or s 0 0) (get_or s 1 0) (get_or s 2 0) (get_or s 3 0)
unfolding decode
decoded {s} b =
    ⊎_elim (λ w. rw (lt-ltb (get_or s 0 0) 0x80 (omega arith)) (omega arith))
    (⊎_elim (λ w. rw (le-ltb (get_or s 0 0) 0x80 (omega arith), lt-ltb (get_or s 0 0) 0xE0 (omega arith)) (omega arith))
    (⊎_elim
    (λ w. rw (le-ltb (get_or s 0 0) 0x80 (omega arith), le-ltb (get_or s 0 0) 0xE0 (omega arith), lt-ltb (get_or s 0 0) 0xF0 (omega arith)) (omega arith))
    (λ w.
    rw (le-ltb (get_or s 0 0) 0x80 (omega arith), le-ltb (get_or s 0 0) 0xE0 (omega arith), le-ltb (get_or s 0 0) 0xF0 (omega arith))
    (omega (arith, div-div-eq-div-mul b.char 64 64, div-div-eq-div-mul b.char 4096 64)))))
    (cases s 0 b)
