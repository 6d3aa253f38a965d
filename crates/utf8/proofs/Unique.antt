-- The promise of `good` determines its answer: two numbers that have it are equal. No character is the beginning of another, so bytes
-- spell one row of characters only. Assumes nothing.
use Rattle.std.proofs.Common.{◌≡◌, ℕ, List, ◌++◌, length, sym, ap, ◌∙◌, append_assoc, arith, length-drop}
use mathlib.Core.List.{append_cancel_left}
use Rattle.utf8.specs.Unicode.{encode}
use Rattle.utf8.specs.Good.{spelled, Scalars, none, more, Good}
use Rattle.utf8.specs.Inner.Check.{Begins}
use Rattle.utf8.proofs.Chars.{decoded}
use Rattle.utf8.proofs.Runs.{spells, no_further}

same-char : {s : List ℕ} (a b : Begins s) → a.char ≡ b.char
same-char a b = decoded a ∙ sym (decoded b)

same_rest : {s : List ℕ} (a b : Begins s) → a.rest ≡ b.rest
same_rest a b =
    append_cancel_left (encode b.char) _ _ (ap (λ (c : ℕ). encode c ++ a.rest) (sym (same-char a b)) ∙ sym a.is ∙ b.is)

-- what is left behind the characters is the same, however they were found
same_left : {cs ds : List ℕ} {t u : List ℕ} → Scalars cs → Scalars ds → spelled cs ++ t ≡ spelled ds ++ u → (Begins t → ⊥) → (Begins u → ⊥) → t ≡ u
unfolding spelled
same_left none none e m n = e
same_left {t = t} {u = u} none (more {c = d} {cs = ds} h r) e m n =
    absurd (m (record { char = d; good = h; rest = spelled ds ++ u; is = e ∙ append_assoc (encode d) (spelled ds) u }))
same_left {t = t} {u = u} (more {c = c} {cs = cs} h r) none e m n =
    absurd (n (record { char = c; good = h; rest = spelled cs ++ t; is = sym e ∙ append_assoc (encode c) (spelled cs) t }))
same_left {t = t} {u = u} (more {c = c} {cs = cs} h r) (more {c = d} {cs = ds} g q) e m n =
    same_left r q
    (same_rest
    (record { char = c; good = h; rest = spelled cs ++ t; is = append_assoc (encode c) (spelled cs) t })
    (record { char = d; good = g; rest = spelled ds ++ u; is = e ∙ append_assoc (encode d) (spelled ds) u }))
    m n

pub good_unique : {s : List ℕ} {m n : ℕ} → Good s m → Good s n → m ≡ n
good_unique {s} {m} {n} a b =
    let p = spells a in
    let q = spells b in
    let e = ap length (same_left p.scalars q.scalars (sym p.front ∙ q.front) (no_further a) (no_further b)) in
    let f = simp length-drop at e in
    let h = a.within in
    let k = b.within in
    omega arith
