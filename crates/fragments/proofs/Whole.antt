-- A fragment's header that is all there is accepted, whatever its numbers are and whatever follows it. Assumes nothing.
use Prim.Native.Nat.{ℕ, ◌+◌, ◌≤◌}
use native.Mathlib.Omega.{arith}
use mathlib.Core.Path.{◌≡◌, refl, sym}
use mathlib.Core.List.{List, [], ◌∷◌, ◌++◌, append_assoc}
use lib.ListN.{length, length-append}
use lib.Seq.{take_at, drop_at}
use Rattle.std.specs.Prelude.{Some, Ok}
use Rattle.numbers.specs.Caps as cap
use Rattle.fields.specs.Be.{be, be_at}
use Rattle.fields.specs.Field.{field_at}
use Rattle.fields.proofs.Laws.{is-there, field_is}
use Rattle.fragments.specs.Fragment.{opened, first_at, next_at}
use Rattle.fragments.proofs.Laws as law

-- the bytes l behind the bytes p are a field
spelled : (p l t : List ℕ) {at k : ℕ} → length p ≡ at → length l ≡ k → field_at k (p ++ (l ++ t)) at ≡ Some (be l)
unfolding be_at
spelled p l t {at} {k} e h =
    sym (field_is k _ at (is-there k _ at (simp length-append (omega arith))) (rw (drop_at p (l ++ t) at e, take_at l t k h)))

byte : (p t : List ℕ) (x : ℕ) {at : ℕ} → length p ≡ at → field_at 1 (p ++ (x ∷ t)) at ≡ Some x
unfolding be
byte p t x e = let z : be (x ∷ []) ≡ x = omega arith in rw z at (spelled p (x ∷ []) t e refl)

-- 131, the tag, the bytes of the two numbers, and what follows them
abbrev pub header : ℕ → (s f t : List ℕ) → List ℕ
header tag s f t = 131 ∷ tag ∷ (s ++ (f ++ t))

module _ (s f : List ℕ) (eight : length s ≡ 8) (eight' : length f ≡ 8) where
  opened-whole : (tag : ℕ) (t : List ℕ) → length t + 18 ≤ cap.input → opened tag (header tag s f t) ≡ Ok (record { sequence = be s; fragment = be f })
  opened-whole tag t h =
      let l : length (131 ∷ tag ∷ s) ≡ 10 = omega arith in
      sym
      (law.both tag _ (simp length-append (omega arith)) (byte [] _ 131 refl) refl (byte (131 ∷ []) _ tag refl) refl
      (spelled (131 ∷ tag ∷ []) s (f ++ t) refl eight) (spelled (131 ∷ tag ∷ s) f t l eight'))

  pub first-whole : (n : ℕ) (t : List ℕ) → length t + 19 ≤ cap.input → first_at (header 69 s f (n ∷ t)) ≡ Ok (record { rest = 19; sequence = be s; fragment = be f; count = n })
  first-whole n t h =
      let l : length (131 ∷ 69 ∷ (s ++ f)) ≡ 18 = simp length-append (omega arith) in
      sym (law.first-is _ (opened-whole 69 (n ∷ t) (omega arith)) (rw append_assoc at (byte (131 ∷ 69 ∷ (s ++ f)) t n l)))

  pub next-whole : (t : List ℕ) → length t + 18 ≤ cap.input → next_at (header 70 s f t) ≡ Ok (record { rest = 18; sequence = be s; fragment = be f })
  next-whole t h = sym (law.next-is _ (opened-whole 70 t h))
