-- Unicode's table and Unicode's code points describe the same byte sequences: `same`. Assumes nothing.
use Rattle.std.proofs.Common.{◌≡◌, ℕ, ◌+◌, ◌-◌, ◌*◌, ◌/◌, ◌%◌, ◌<◌, ◌≤◌, Bool, true, false, ltb, ◌⊎◌, ◌↔◌, List, [], ◌∷◌, length, sym, refl, ◌∙◌, subst, inl, inr, ⊎_elim, arith, ltb-false, ltb-true}
use Rattle.utf8.specs.Unicode.{scalar, encode}
use Rattle.utf8.specs.Inner.Table.{Range, ◌to◌, table, Fits, done, next, Listed, here, there}
use Rattle.utf8.proofs.Chars.{encode_1, encode_2, encode_3, encode_4, below, above, apart, top}

-- the bytes of one character
pub record Encoded (l : List ℕ) : Type 0 where
  pub char : ℕ
  pub good : scalar char ≡ true
  pub is : l ≡ encode char

-- what the fixed bits of two, three and four bytes add to the number that they spell by sixes
abbrev base_2 : ℕ
base_2 = 0xC0 * 64 + 0x80

abbrev base_3 : ℕ
base_3 = 0xE0 * 4096 + 0x80 * 64 + 0x80

abbrev base_4 : ℕ
base_4 = 0xF0 * 262144 + 0x80 * 4096 + 0x80 * 64 + 0x80

-- bytes spell the value that Table 3-6 reads in them
twos : {x y : ℕ} (u : ℕ) → u + base_2 ≡ x * 64 + y → 0xC0 ≤ x → 0x80 ≤ y → y < 0xC0 → 0x80 ≤ u → u < 0x800 → Encoded (x ∷ y ∷ [])
twos {x} {y} u k a b c l h =
    let e : 0xC0 + u / 64 ≡ x = omega arith in
    let f : 0x80 + u % 64 ≡ y = omega arith in
    record { char = u; good = below (omega arith); is = sym (encode_2 u l h ∙ rw (e, f)) }

threes : {x y z : ℕ} (u : ℕ) → u + base_3 ≡ x * 4096 + y * 64 + z → 0xE0 ≤ x → x < 0xF0 → 0x80 ≤ y → y < 0xC0 → 0x80 ≤ z → z < 0xC0
    → 0x800 ≤ u → scalar u ≡ true → Encoded (x ∷ y ∷ z ∷ [])
threes {x} {y} {z} u k a b c d f g l good =
    let p : 0xE0 + u / 4096 ≡ x = omega arith in
    let q : 0x80 + u / 64 % 64 ≡ y = omega arith in
    let r : 0x80 + u % 64 ≡ z = omega arith in
    record { char = u; good = good; is = sym (encode_3 u l (omega arith) ∙ rw (p, q, r)) }

fours : {x y z w : ℕ} (u : ℕ) → u + base_4 ≡ x * 262144 + y * 4096 + z * 64 + w
    → 0xF0 ≤ x → 0x80 ≤ y → y < 0xC0 → 0x80 ≤ z → z < 0xC0 → 0x80 ≤ w → w < 0xC0 → 0x10000 ≤ u → u ≤ 0x10FFFF → Encoded (x ∷ y ∷ z ∷ w ∷ [])
fours {x} {y} {z} {w} u k a b c d e f g l h =
    let p : 0xF0 + u / 262144 ≡ x = omega arith in
    let q : 0x80 + u / 4096 % 64 ≡ y = omega arith in
    let r : 0x80 + u / 64 % 64 ≡ z = omega arith in
    let v : 0x80 + u % 64 ≡ w = omega arith in
    record { char = u; good = above (omega arith) h; is = sym (encode_4 u l ∙ rw (p, q, r, v)) }

-- So a row's bytes are a character's where the values of its lowest bytes and of its highest are: of as many bytes, and no surrogate between.
one_byte : {a b : ℕ} {l : List ℕ} → b < 0x80 → Fits ((a to b) ∷ []) l → Encoded l
one_byte h (next {x = x} p q done) = record { char = x; good = below (omega arith); is = sym (encode_1 x (omega arith)) }

two_bytes : {a b c d : ℕ} {l : List ℕ} → b < 0xE0 → 0x80 ≤ c → d < 0xC0 → base_2 + 0x80 ≤ a * 64 + c
    → Fits ((a to b) ∷ (c to d) ∷ []) l → Encoded l
two_bytes f g h least (next {x = x} p q (next {x = y} r s done)) =
    let k : x * 64 + y - base_2 + base_2 ≡ x * 64 + y = omega arith in
    twos (x * 64 + y - base_2) k (omega arith) (omega arith) (omega arith) (omega arith) (omega arith)

three-bytes : {a b c d : ℕ} {l : List ℕ} → 0xE0 ≤ a → b < 0xF0 → 0x80 ≤ c → d < 0xC0
    → base_3 + 0x800 ≤ a * 4096 + c * 64 + 0x80
    → (b * 4096 + d * 64 + 0xBF < base_3 + 0xD800) ⊎ (base_3 + 0xE000 ≤ a * 4096 + c * 64 + 0x80)
    → Fits ((a to b) ∷ (c to d) ∷ (0x80 to 0xBF) ∷ []) l → Encoded l
three-bytes f g h i least outside (next {x = x} p q (next {x = y} r s (next {x = z} t v done))) = go _ k
  where
    k : x * 4096 + y * 64 + z - base_3 + base_3 ≡ x * 4096 + y * 64 + z
    k = omega arith

    go : (u : ℕ) → u + base_3 ≡ x * 4096 + y * 64 + z → Encoded (x ∷ y ∷ z ∷ [])
    go u e =
        threes u e (omega arith) (omega arith) (omega arith) (omega arith) t (omega arith) (omega arith)
        (⊎_elim (λ w. below (omega arith)) (λ w. above (omega arith) (omega arith)) outside)

four_bytes : {a b c d : ℕ} {l : List ℕ} → 0xF0 ≤ a → 0x80 ≤ c → d < 0xC0
    → base_4 + 0x10000 ≤ a * 262144 + c * 4096 + 0x80 * 64 + 0x80
    → b * 262144 + d * 4096 + 0xBF * 64 + 0xBF ≤ base_4 + 0x10FFFF
    → Fits ((a to b) ∷ (c to d) ∷ (0x80 to 0xBF) ∷ (0x80 to 0xBF) ∷ []) l → Encoded l
four_bytes f g h least most (next {x = x} p q (next {x = y} r s (next {x = z} t v (next {x = w} m n done)))) = go _ k
  where
    k : x * 262144 + y * 4096 + z * 64 + w - base_4 + base_4
        ≡ x * 262144 + y * 4096 + z * 64 + w
    k = omega arith

    go : (u : ℕ) → u + base_4 ≡ x * 262144 + y * 4096 + z * 64 + w → Encoded (x ∷ y ∷ z ∷ w ∷ [])
    go u e = fours u e (omega arith) (omega arith) (omega arith) t (omega arith) m (omega arith) (omega arith) (omega arith)

-- what follows from each row of a table follows from the table
row_or : {row : List Range} {rows : List (List Range)} {l : List ℕ} {P : Type 0} → (Fits row l → P) → (Listed rows l → P) → Listed (row ∷ rows) l → P
row_or f g (here r) = f r
row_or f g (there r) = g r

no_row : {rows : List (List Range)} {l : List ℕ} {P : Type 0} → length rows ≡ 0 → Listed rows l → P
no_row e (here f) = absurd (omega arith)
no_row e (there r) = absurd (omega arith)

-- so each row of this one is looked at, whatever its ranges are
pub listed : (l : List ℕ) → Listed table l → Encoded l
unfolding table
listed l =
    row_or (one_byte (omega arith))
    (row_or (two_bytes (omega arith) (omega arith) (omega arith) (omega arith))
    (row_or (three-bytes (omega arith) (omega arith) (omega arith) (omega arith) (omega arith) (inl (omega arith)))
    (row_or (three-bytes (omega arith) (omega arith) (omega arith) (omega arith) (omega arith) (inl (omega arith)))
    (row_or (three-bytes (omega arith) (omega arith) (omega arith) (omega arith) (omega arith) (inl (omega arith)))
    (row_or (three-bytes (omega arith) (omega arith) (omega arith) (omega arith) (omega arith) (inr (omega arith)))
    (row_or (four_bytes (omega arith) (omega arith) (omega arith) (omega arith) (omega arith))
    (row_or (four_bytes (omega arith) (omega arith) (omega arith) (omega arith) (omega arith))
    (row_or (four_bytes (omega arith) (omega arith) (omega arith) (omega arith) (omega arith)) (no_row refl)))))))))

-- and a character's bytes are in the row that its value tells
side : (c m : ℕ) → (c < m) ⊎ (m ≤ c)
side c m = go (ltb c m) refl
  where
    go : (t : Bool) → ltb c m ≡ t → (c < m) ⊎ (m ≤ c)
    go true e = inl (ltb-true c m e)
    go false e = inr (ltb-false c m e)

-- the constructors as functions, so that what is expected tells a row's ranges
byte : {low high x : ℕ} {row : List Range} {l : List ℕ} → low ≤ x → x ≤ high → Fits row l → Fits ((low to high) ∷ row) (x ∷ l)
byte a b f = next a b f

this : {row : List Range} {rows : List (List Range)} {l : List ℕ} → Fits row l → Listed (row ∷ rows) l
this f = here f

later : {row : List Range} {rows : List (List Range)} {l : List ℕ} → Listed rows l → Listed (row ∷ rows) l
later r = there r

module _ (c : ℕ) where
  spelled_1 : c < 0x80 → Listed table (c ∷ [])
  unfolding table
  spelled_1 h = this (byte (omega arith) (omega arith) done)

  spelled_2 : 0x80 ≤ c → c < 0x800 → Listed table ((0xC0 + c / 64) ∷ (0x80 + c % 64) ∷ [])
  unfolding table
  spelled_2 l h = later (this (byte (omega arith) (omega arith) (byte (omega arith) (omega arith) done)))

  last : Fits ((0x80 to 0xBF) ∷ []) ((0x80 + c % 64) ∷ [])
  last = byte (omega arith) (omega arith) done

  spelled_3 : 0x800 ≤ c → c < 0x10000 → scalar c ≡ true → Listed table ((0xE0 + c / 4096) ∷ (0x80 + c / 64 % 64) ∷ (0x80 + c % 64) ∷ [])
  unfolding table
  spelled_3 l h g =
      ⊎_elim (λ a. later (later (this (byte (omega arith) (omega arith) (byte (omega arith) (omega arith) last)))))
      (λ a. ⊎_elim (λ b. later (later (later (this (byte (omega arith) (omega arith) (byte (omega arith) (omega arith) last))))))
      (λ b. ⊎_elim (λ d. later (later (later (later (this (byte (omega arith) (omega arith) (byte (omega arith) (omega arith) last)))))))
      (λ d. ⊎_elim (λ k. absurd (apart c g d k))
      (λ k. later (later (later (later (later (this (byte (omega arith) (omega arith) (byte (omega arith) (omega arith) last))))))))
      (side c 0xE000)) (side c 0xD800)) (side c 0xD000)) (side c 0x1000)

  last_two : Fits ((0x80 to 0xBF) ∷ (0x80 to 0xBF) ∷ []) ((0x80 + c / 64 % 64) ∷ (0x80 + c % 64) ∷ [])
  last_two = byte (omega arith) (omega arith) last

  spelled_4 : 0x10000 ≤ c → c ≤ 0x10FFFF → Listed table ((0xF0 + c / 262144) ∷ (0x80 + c / 4096 % 64) ∷ (0x80 + c / 64 % 64) ∷ (0x80 + c % 64) ∷ [])
  unfolding table
  spelled_4 l h =
      ⊎_elim (λ a. later (later (later (later (later (later (this (byte (omega arith) (omega arith) (byte (omega arith) (omega arith) last_two)))))))))
      (λ a. ⊎_elim (λ b. later (later (later (later (later (later (later (this (byte (omega arith) (omega arith) (byte (omega arith) (omega arith) last_two))))))))))
      (λ b. later (later (later (later (later (later (later (later (this (byte (omega arith) (omega arith) (byte (omega arith) (omega arith) last_two)))))))))))
      (side c 0x100000)) (side c 0x40000)

  pub has-row : scalar c ≡ true → Listed table (encode c)
  has-row g =
      ⊎_elim (λ h. rw (encode_1 c h) (spelled_1 h))
      (λ l. ⊎_elim (λ h. rw (encode_2 c l h) (spelled_2 l h))
      (λ m. ⊎_elim (λ h. rw (encode_3 c m h) (spelled_3 m h g))
      (λ n. rw (encode_4 c n) (spelled_4 n (top c g)))
      (side c 0x10000)) (side c 0x800)) (side c 0x80)

-- the table and the code points describe the same byte sequences
pub same : (l : List ℕ) → Listed table l ↔ Encoded l
same l = (listed l, λ e. subst (λ (m : List ℕ). Listed table m) (sym e.is) (has-row e.char e.good))
