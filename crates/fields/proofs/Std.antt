-- What std's methods say of bytes, in our definitions' words. Assumes nothing.
use Prim.Native.Nat.{ℕ, ◌-◌, ◌≤◌, ◌<◌}
use native.Mathlib.Omega.{arith}
use mathlib.Core.Path.{◌≡◌, ap, sym, ◌∙◌}
use mathlib.Core.Bool.{true, false}
use mathlib.Core.List.{List, [], ◌∷◌}
use lib.ListN.{length, take, drop, length-drop}
use lib.Seq.{length-take-le}
use denote.Bor.{Bor}
use Rattle.std.specs.Prelude.{Option, Some, None, MatchOption}
use Rattle.std.specs.Array.{IsFirstChunk}
use Rattle.std.specs.Slice.{IsItemAt}
use Rattle.std.specs.Option.{option_copied}
use Rattle.std.specs.Int.{w16, w32, w64, from_be_bytes}
use Rattle.std.specs.List.{slice_range}
use Rattle.std.proofs.lemmas.List.{take_all}
use Rattle.fields.specs.Be.{be, be_at}
use Rattle.fields.specs.Field.{holds, field_at}
use Rattle.fields.proofs.Laws.{there, is-there, is_gone, field_is, field_eof, be-one}

-- the byte at a place, or none
pub item : (b : List ℕ) (at : ℕ) (r : Option (Bor ℕ)) → IsItemAt b at r → option_copied r ≡ field_at 1 b at
item b at None h = field_eof 1 b at (is_gone 1 b at (omega (arith, h.3)))
item b at (Some x) h = field_is 1 b at (is-there 1 b at (omega (arith, h.3.0))) (h.4 (omega arith) 0 ∙ sym (be-one b at h.3.0))

-- the first k bytes behind a place, or none
pub first : (k : ℕ) (b : List ℕ) (at : ℕ) (s : List ℕ) (r : Option (Bor (List ℕ))) → at ≤ length b → s ≡ slice_range b at (length b) →
    MatchOption r (length s < k) (λ y. IsFirstChunk s y.now k) → MatchOption r (holds k b at ≡ false) (λ y. (holds k b at ≡ true) × (y.now ≡ take k (drop at b)))
first k b at s r h e m = go r m
  where
    all : s ≡ drop at b
    all = e ∙ take_all (length b - at) (drop at b) (simp length-drop (omega arith))

    long : length s ≡ length b - at
    long = ap length all ∙ length-drop at b

    go : (r : Option (Bor (List ℕ))) → MatchOption r (length s < k) (λ y. IsFirstChunk s y.now k) →
        MatchOption r (holds k b at ≡ false) (λ y. (holds k b at ≡ true) × (y.now ≡ take k (drop at b)))
    go None m = is_gone k b at (omega (arith, long))
    go (Some y) m = (is-there k b at (omega (arith, long, m.enough)), m.same ∙ ap (take k) all)

-- the number that bytes spell, for each width
two : (s : List ℕ) → length s ≡ 2 → from_be_bytes w16 s ≡ be s
unfolding be
two (x ∷ y ∷ []) h = omega arith
two other h = absurd (omega arith)

four : (s : List ℕ) → length s ≡ 4 → from_be_bytes w32 s ≡ be s
unfolding be
four (x ∷ y ∷ z ∷ w ∷ []) h = omega arith
four other h = absurd (omega arith)

eight : (s : List ℕ) → length s ≡ 8 → from_be_bytes w64 s ≡ be s
unfolding be
eight (x ∷ y ∷ z ∷ w ∷ p ∷ q ∷ r ∷ t ∷ []) h = omega arith
eight other h = absurd (omega arith)

module _ (b : List ℕ) (at : ℕ) {s : List ℕ} where
  long : (k : ℕ) → holds k b at ≡ true → s ≡ take k (drop at b) → length s ≡ k
  long k h e = ap length e ∙ length-take-le k (drop at b) (simp length-drop (omega (arith, there k b at h)))

  pub spelled-two : holds 2 b at ≡ true → s ≡ take 2 (drop at b) → from_be_bytes w16 s ≡ be_at 2 b at
  unfolding be_at
  spelled-two h e = two s (long 2 h e) ∙ ap be e

  pub spelled-four : holds 4 b at ≡ true → s ≡ take 4 (drop at b) → from_be_bytes w32 s ≡ be_at 4 b at
  unfolding be_at
  spelled-four h e = four s (long 4 h e) ∙ ap be e

  pub spelled-eight : holds 8 b at ≡ true → s ≡ take 8 (drop at b) → from_be_bytes w64 s ≡ be_at 8 b at
  unfolding be_at
  spelled-eight h e = eight s (long 8 h e) ∙ ap be e
