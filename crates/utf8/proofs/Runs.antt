-- Rows of characters from the front of a list of bytes: how the check's loop goes on, and that it can end in one place only.
-- Assumes nothing.
use Rattle.std.proofs.Common.{◌≡◌, ℕ, zero, suc, ◌+◌, ◌-◌, ◌<◌, ◌≤◌, true, List, [], ◌∷◌, ◌++◌, length, get_or, take, drop, Some, None, sym, refl, ap, ◌∙◌, subst, append_assoc, append-nil, add-zero, arith, length-append, length-drop, take-append-drop, drop-drop, take_at}
use Rattle.utf8.specs.Unicode.{scalar, encode}
use Rattle.utf8.specs.Good.{spelled, Scalars, none, more, Good}
use Rattle.utf8.specs.Inner.Check as char
use Rattle.utf8.specs.Inner.Check.{Spells, Begins, Plain, Char}
use Rattle.utf8.proofs.Chars.{is_one, not_end}

spelled_snoc : (cs : List ℕ) (c : ℕ) → spelled (cs ++ (c ∷ [])) ≡ spelled cs ++ encode c
unfolding spelled
spelled_snoc [] c = append-nil (encode c)
spelled_snoc (d ∷ cs) c = ap (λ (l : List ℕ). encode d ++ l) (spelled_snoc cs c) ∙ sym (append_assoc (encode d) (spelled cs) (encode c))

scalars_snoc : {cs : List ℕ} → Scalars cs → (c : ℕ) → scalar c ≡ true → Scalars (cs ++ (c ∷ []))
scalars_snoc none c k = more k none
scalars_snoc (more h r) c k = more h (scalars_snoc r c k)

-- before the first character
pub none_yet : (s : List ℕ) → Spells s 0
unfolding spelled
none_yet s = record { chars = []; scalars = none; within = omega arith; front = refl }

module _ {s : List ℕ} {i : ℕ} (r : Spells s i) where
  -- a character more
  pub one_more : {n : ℕ} → Char (drop i s) (Some n) → Spells s (i + n)
  one_more (char.one {n = n} p l c h e) =
      record {
        chars = r.chars ++ (c ∷ []);
        scalars = scalars_snoc r.scalars c h;
        within = let g = simp length-drop at l in omega arith;
        front =
            r.front ∙ ap (λ (l : List ℕ). spelled r.chars ++ l) (e ∙ ap (λ (l : List ℕ). encode c ++ l) (drop-drop n i s))
            ∙ sym (append_assoc (spelled r.chars) (encode c) (drop (i + n) s))
            ∙ ap (λ (l : List ℕ). l ++ drop (i + n) s) (sym (spelled_snoc r.chars c));
      }

  -- it stays within the list, and goes on
  pub step : {n : ℕ} → Char (drop i s) (Some n) → (0 < n) × (i + n ≤ length s)
  step (char.one p l c h e) = let g = simp length-drop at l in let h = r.within in (p, omega arith)

  pub stuck-here : Char (drop i s) None → Begins (drop i s) → ⊥
  stuck-here (char.none stuck) = stuck

-- a run of ASCII more
plain_more : {s : List ℕ} (n i : ℕ) → Spells s i → Plain s i (i + n) → Spells s (i + n)
plain_more {s} zero i r p = rw add-zero r
plain_more {s} (suc n) i r p =
    subst (λ (m : ℕ). Spells s m) (omega arith)
    (plain_more n (i + 1)
    (one_more r (is_one s i (omega arith) (p.low i (omega arith) (omega arith))))
    (record { order = omega arith; within = omega arith; low = λ k l h. p.low k (omega arith) (omega arith) }))

pub plain-to : {s : List ℕ} {i j : ℕ} → Spells s i → Plain s i j → Spells s j
plain-to {s} {i} {j} r p =
    let e : i + (j - i) ≡ j = omega (arith, p.order) in
    subst (λ (m : ℕ). Spells s m) e (plain_more (j - i) i r (subst (λ (m : ℕ). Plain s i m) (sym e) p))

pub ascii_more : {s : List ℕ} {i j : ℕ} → Spells s i → i < length s → get_or s i 0 < 0x80 → Plain s (i + 1) j → Spells s j
ascii_more {s} {i} r l h p = plain-to (one_more r (is_one s i (omega arith) h)) p

-- no character begins the empty list
pub at-end : (s : List ℕ) (i : ℕ) → length s ≤ i → Begins (drop i s) → ⊥
at-end s i h b = omega (arith, not_end s i b)

-- how far good characters go: where none begins behind them
pub good-to : {s : List ℕ} {k : ℕ} → Spells s k → (Begins (drop k s) → ⊥) → Good s k
good-to {s} {k} p h =
    let w = p.within in
    let e = simp (length-append, length-drop) at (ap length p.front) in
    let l : length (spelled p.chars) ≡ k = omega arith in
    record {
      within = p.within;
      text = record { chars = p.chars; scalars = p.scalars; is = ap (take k) p.front ∙ take_at (spelled p.chars) (drop k s) k l };
      stuck = λ c g r e. h (record { char = c; good = g; rest = r; is = e });
    }

pub spells : {s : List ℕ} {k : ℕ} → Good s k → Spells s k
spells {s} {k} g =
    record {
      chars = g.text.chars;
      scalars = g.text.scalars;
      within = g.within;
      front = sym (take-append-drop k s) ∙ ap (λ (l : List ℕ). l ++ drop k s) g.text.is;
    }

pub no_further : {s : List ℕ} {k : ℕ} → Good s k → Begins (drop k s) → ⊥
no_further g b = g.stuck b.char b.good b.rest b.is
