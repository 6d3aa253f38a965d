-- Going past a reference that is known to be good: an old one has one byte, a new one its length and its name behind that. Assumes nothing.
use Prim.Native.Nat.{ℕ, ◌+◌, ◌≤◌, ◌<◌}
use native.Mathlib.Omega.{arith}
use mathlib.Core.Path.{◌≡◌, refl, sym, ◌∙◌}
use mathlib.Core.Bool.{Bool, true, false, true≢false}
use mathlib.Core.List.{List}
use lib.ListN.{length}
use Rattle.std.specs.Prelude.{Result, Ok, Err, IsOk, IfOk}
use Rattle.numbers.specs.declared.Refusal.{Refusal}
use Rattle.fields.specs.Field.{number_at}
use Rattle.fields.proofs.Laws.{number_of}
use Rattle.references.specs.declared.Reference.{Reference}
use Rattle.references.specs.declared.Reference.TheVariants as ref
use Rattle.references.specs.Header.{reference_at, past}
use Rattle.references.proofs.Reading.{found, found_old, first_byte}

module _ (b : List ℕ) (new : Bool) (wide p : ℕ) (good : IsOk (reference_at b new wide p)) where
  pub past_old : new ≡ false → (p < length b) × IfOk (reference_at b new wide p) (λ r. p + 1 ≡ past p r)
  past_old f = go (reference_at b new wide p) refl good
    where
      go : (r : Result Reference Refusal) → reference_at b new wide p ≡ r → IsOk r → (p < length b) × IfOk r (λ x. p + 1 ≡ past p x)
      go (Ok (ref.Old slot)) e g = ((first_byte b p (found_old b new wide p e).1).0, refl)
      go (Ok (ref.New slot at n)) e g = absurd (true≢false (sym (found b new wide p e).flag ∙ f))
      go (Err r) e g = absurd (true≢false (sym g))

  -- the place behind a new one lies in the input
  pub past_new : new ≡ true → (p + 1 + wide + number_at wide b (p + 1) ≤ length b) × IfOk (reference_at b new wide p) (λ r. p + 1 + wide + number_at wide b (p + 1) ≡ past p r)
  past_new f = go (reference_at b new wide p) refl good
    where
      go : (r : Result Reference Refusal) → reference_at b new wide p ≡ r → IsOk r →
          (p + 1 + wide + number_at wide b (p + 1) ≤ length b) × IfOk r (λ x. p + 1 + wide + number_at wide b (p + 1) ≡ past p x)
      go (Ok (ref.Old slot)) e g = absurd (true≢false (sym f ∙ (found_old b new wide p e).0))
      go (Ok (ref.New slot at n)) e g =
          let h = found b new wide p e in
          rw (number_of wide b (p + 1) h.size) (omega (arith, h.place, h.inside), omega (arith, h.place))
      go (Err r) e g = absurd (true≢false (sym g))
