-- What stands at a place: runs side by side, a first byte, a number. Assumes nothing.
use Prim.Native.Nat.{ℕ, suc, ◌+◌, ◌≤◌, ◌<◌}
use native.Mathlib.Omega.{arith}
use mathlib.Core.Path.{◌≡◌, refl, ap, sym, ◌∙◌}
use mathlib.Core.List.{List, [], ◌∷◌, ◌++◌}
use lib.ListN.{length, get_or, take, drop, length-append, length-drop}
use lib.Seq.{take-add, take-append_seam, drop-append_seam, drop-drop, length-take-le, get_or-take, get_or-drop, drop-cons}
use Rattle.fields.specs.Be.{be, be_at}
use Rattle.fields.specs.Field.{field_at}
use Rattle.std.specs.Prelude.{Some}
use Rattle.fields.proofs.Laws.{is-there, field_is, is_whole}
use Rattle.layouts.specs.Tree.{Stands}
use Rattle.layouts.specs.Layout.{Number}

module _ (b : List ℕ) (p : ℕ) where
  -- a run of n bytes that is there
  pub part : (n : ℕ) → p + n ≤ length b → length (take n (drop p b)) ≡ n
  part n h = length-take-le n (drop p b) (simp length-drop (omega arith))

  pub stands : (n : ℕ) → p + n ≤ length b → Stands b p (take n (drop p b))
  stands n h =
      let e = part n h in
      record { inside = omega arith; same = ap (λ (k : ℕ). take k (drop p b)) e }

  pub empty : p ≤ length b → Stands b p []
  empty h = record { inside = omega arith; same = refl }

  -- runs side by side
  module _ (l m : List ℕ) where
    pub both : Stands b p l → Stands b (p + length l) m → Stands b p (l ++ m)
    both x y =
        record {
          inside = omega (arith, x.inside, y.inside, length-append l m);
          same =
              rw (length-append l m, take-add (length l) (length m) (drop p b), drop-drop (length l) p b)
              (ap (λ (r : List ℕ). r ++ take (length m) (drop (p + length l) b)) x.same ∙ ap (λ (r : List ℕ). l ++ r) y.same);
        }

    whole : Stands b p (l ++ m) → take (length l) (drop p b) ++ take (length m) (drop (p + length l) b) ≡ l ++ m
    whole x =
        ap (λ (r : List ℕ). take (length l) (drop p b) ++ take (length m) r) (sym (drop-drop (length l) p b))
        ∙ sym (take-add (length l) (length m) (drop p b))
        ∙ ap (λ (k : ℕ). take k (drop p b)) (sym (length-append l m))
        ∙ x.same

    inner : Stands b p (l ++ m) → p + length l + length m ≤ length b
    inner x = omega (arith, x.inside, length-append l m)

    first : Stands b p (l ++ m) → length (take (length l) (drop p b)) ≡ length l
    first x = part (length l) (omega (arith, inner x))

    pub left : Stands b p (l ++ m) → Stands b p l
    left x =
        record {
          inside = omega (arith, inner x);
          same =
              sym (take-append_seam (take (length l) (drop p b)) (take (length m) (drop (p + length l) b)))
              ∙ ap (λ (k : ℕ). take k (take (length l) (drop p b) ++ take (length m) (drop (p + length l) b))) (first x)
              ∙ ap (take (length l)) (whole x)
              ∙ take-append_seam l m;
        }

    pub right : Stands b p (l ++ m) → Stands b (p + length l) m
    right x =
        record {
          inside = omega (arith, inner x);
          same =
              sym (drop-append_seam (take (length l) (drop p b)) (take (length m) (drop (p + length l) b)))
              ∙ ap (λ (k : ℕ). drop k (take (length l) (drop p b) ++ take (length m) (drop (p + length l) b))) (first x)
              ∙ ap (drop (length l)) (whole x)
              ∙ drop-append_seam l m;
        }

  -- a byte, and what stands behind it
  module _ (x : ℕ) (l : List ℕ) where
    pub byte : Stands b p (x ∷ l) → get_or b p 0 ≡ x
    byte s =
        let e : p + 0 ≡ p = omega arith in
        ap (λ (k : ℕ). get_or b k 0) (sym e) ∙ sym (get_or-drop p b 0 0) ∙ sym (get_or-take (suc (length l)) (drop p b) 0 0 (omega arith)) ∙ ap (λ (r : List ℕ). get_or r 0 0) s.same

    pub behind : Stands b p (x ∷ l) → Stands b (p + 1) l
    behind s = right (x ∷ []) l s

    pub led : p < length b → get_or b p 0 ≡ x → Stands b (p + 1) l → Stands b p (x ∷ l)
    led h e s = both (x ∷ []) l (record { inside = omega arith; same = rw (drop-cons b p 0 h, e) }) s

  -- a number
  pub spells : {k n : ℕ} {l : List ℕ} → Stands b p l → Number k l n → field_at k b p ≡ Some n
  unfolding be_at
  spells {k} {n} {l} s w =
      let e : take k (drop p b) ≡ l = ap (λ (j : ℕ). take j (drop p b)) (sym w.wide) ∙ s.same in
      sym (field_is k b p (is-there k b p (omega (arith, s.inside, w.wide))) (sym w.is ∙ ap be (sym e)))

  pub number : {k n : ℕ} → field_at k b p ≡ Some n → Number k (take k (drop p b)) n
  unfolding be_at
  number {k} {n} e =
      let (h, i) = is_whole k b p e in
      record { wide = part k h; is = sym i }
