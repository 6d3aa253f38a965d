-- `good_bytes s` is what Good.antt says: its bytes spell good characters, and none stands behind them. Assumes nothing.
use Rattle.std.proofs.Common.{◌≡◌, ℕ, zero, suc, ◌+◌, ◌<◌, ◌≤◌, Bool, true, false, eqb, List, [], ◌∷◌, ◌++◌, length, get_or, drop, Option, sym, refl, ap, ◌∙◌, subst, append_assoc, append-nil, arith, length-append, length-drop, drop-drop, eq-eqb, eqb-true}
use Rattle.utf8.specs.Unicode.{scalar, encode}
use Rattle.utf8.specs.Inner.Find.{decode, starts, char_bytes, good_from, good_bytes}
use Rattle.utf8.specs.Good.{spelled, more, Good}
use Rattle.utf8.specs.Inner.Check.{Begins, Char, none, one}
use Rattle.utf8.proofs.Chars.{decoded, not_end}
use Rattle.utf8.proofs.Runs.{none_yet, at-end, good-to, spells, no_further}

-- `starts` tells whether a list stands at the front of another
starts-true : (p s : List ℕ) → starts p s ≡ true → s ≡ p ++ drop (length p) s
unfolding starts
starts-true [] s e = refl
starts-true (x ∷ p) [] e = cc
starts-true (x ∷ p) (y ∷ s) e = go (starts-true p s) (eqb x y) refl
  where
    go : (starts p s ≡ true → s ≡ p ++ drop (length p) s) → (t : Bool) → eqb x y ≡ t → y ∷ s ≡ x ∷ (p ++ drop (length p) s)
    go later true f =
        let g : starts p s ≡ true = rw f at e in
        ap (λ (z : ℕ). z ∷ s) (sym (eqb-true x y f)) ∙ ap (λ (l : List ℕ). x ∷ l) (later g)
    go later false f = let g : ◌≡◌ {A = Bool} false true = rw f at e in cc

starts-same : (p t : List ℕ) → starts p (p ++ t) ≡ true
unfolding starts
starts-same [] t = refl
starts-same (x ∷ p) t = rw (eq-eqb x x refl) (starts-same p t)

-- what `char_bytes` says of the front of a list
pub char-bytes : (s : List ℕ) → Char s (char_bytes s)
unfolding char_bytes
char-bytes s = go (scalar c) refl (starts (encode c) s) refl
  where
    c : ℕ
    c = decode (get_or s 0 0) (get_or s 1 0) (get_or s 2 0) (get_or s 3 0)

    -- a character at the front would pass both tests
    passes : Begins s → (scalar c ≡ true) × (starts (encode c) s ≡ true)
    passes b = (
      subst (λ (d : ℕ). scalar d ≡ true) (decoded b) b.good,
      subst (λ (d : ℕ). starts (encode d) s ≡ true) (decoded b)
          (subst (λ (l : List ℕ). starts (encode b.char) l ≡ true) (sym b.is) (starts-same (encode b.char) b.rest)),
    )

    fails : {t : Bool} → t ≡ false → t ≡ true → ⊥
    fails e f = let z : ◌≡◌ {A = ℕ} 0 1 = cc in omega arith

    go : (t : Bool) → scalar c ≡ t → (u : Bool) → starts (encode c) s ≡ u → Char s (char_bytes s)
    go true e true f =
        let here : Begins s = record { char = c; good = e; rest = drop (length (encode c)) s; is = starts-true (encode c) s f } in
        let alone : Begins (encode c) = record { char = c; good = e; rest = []; is = sym (append-nil (encode c)) } in
        rw (e, f) (one (not_end (encode c) 0 alone) (omega (arith, simp length-append at (ap length here.is))) c e here.is)
    go true e false f = rw (e, f) (none (λ b. fails f (passes b).1))
    go false e u f = rw e (none (λ b. fails e (passes b).0))

-- a character and what is good behind it
one-first : {s : List ℕ} {n m : ℕ} → 0 < n → n ≤ length s → (c : ℕ) → scalar c ≡ true → s ≡ encode c ++ drop n s → Good (drop n s) m → Good s (n + m)
unfolding spelled
one-first {s} {n} {m} p l c h e g =
    let r = spells g in
    good-to
    (record {
      chars = c ∷ r.chars;
      scalars = more h r.scalars;
      within = let k = simp length-drop at r.within in omega arith;
      front =
          e ∙ ap (λ (t : List ℕ). encode c ++ t) (r.front ∙ ap (λ (t : List ℕ). spelled r.chars ++ t) (drop-drop m n s))
          ∙ sym (append_assoc (encode c) (spelled r.chars) (drop (n + m) s));
    })
    (λ b. no_further g (subst (λ (t : List ℕ). Begins t) (sym (drop-drop m n s)) b))

next : (most : ℕ) (s : List ℕ) → ((t : List ℕ) → length t ≤ most → Good t (good_from most t)) → length s ≤ suc most → (r : Option ℕ) → Char s r → char_bytes s ≡ r → Good s (good_from (suc most) s)
unfolding good_from
next most s later h r (none stuck) e = rw e (good-to (none_yet s) stuck)
next most s later h r (one {n = n} p l c k f) e = rw e (one-first p l c k f (later (drop n s) (simp length-drop (omega arith))))

good_from_lem : (most : ℕ) (s : List ℕ) → length s ≤ most → Good s (good_from most s)
unfolding good_from
good_from_lem zero s h = good-to (none_yet s) (at-end s 0 h)
good_from_lem (suc most) s h = next most s (good_from_lem most) h (char_bytes s) (char-bytes s) refl

pub good-bytes : (s : List ℕ) → Good s (good_bytes s)
unfolding good_bytes
good-bytes s = good_from_lem (length s) s (omega arith)
