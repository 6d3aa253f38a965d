-- Each way that a fragment's header can go, left to right. Assumes nothing.
use Prim.Native.Nat.{ℕ, ◌<◌, ◌≤◌}
use mathlib.Core.Path.{◌≡◌, refl, ap, ◌∙◌}
use mathlib.Core.List.{List}
use lib.ListN.{length}
use borrow.Author.Tests.{lt-ltb, le-ltb, eq-eqb, ne_eqb}
use Rattle.std.specs.Prelude.{Option, Some, None, ok_or, Result, Ok, Err, IsErr}
use Rattle.std.specs.Result.{IsErrAnd}
use Rattle.numbers.specs.Caps as cap
use Rattle.numbers.specs.declared.Refusal.{Refusal}
use Rattle.numbers.specs.declared.Refusal.TheVariants as refusal
use Rattle.numbers.proofs.Laws.{handed}
use Rattle.fields.specs.Field.{field_at, number_then, byte_then}
use Rattle.fragments.specs.Fragment.{missing, opened, first_at, next_at}
use Rattle.fragments.specs.declared.Opening.{Opening}

-- what a `?` hands on where a number is missing
pub misses : {A B : Type 0} (r : Result A Refusal) (y : Refusal) → IsErr r × IsErrAnd r (λ x. x ≡ y) → {o : Option B} → o ≡ None → Err y ≡ ok_or o refusal.Eof →
    r ≡ Err refusal.Eof
misses {A} {B} r y left e f =
    let g : ◌≡◌ {A = Result B Refusal} (Err y) (Err refusal.Eof) = rw e at f in
    let h : y ≡ refusal.Eof = cc in
    handed r left ∙ ap Err h

-- what both fragments begin with
module _ (tag : ℕ) (b : List ℕ) where
  pub long : cap.input < length b → Err refusal.Long ≡ opened tag b
  unfolding opened
  long h = rw (lt-ltb cap.input (length b) h)

  module _ (fits : length b ≤ cap.input) where
    pub no-version : field_at 1 b 0 ≡ None → missing ≡ opened tag b
    unfolding opened byte_then number_then
    no-version e = rw (le-ltb cap.input (length b) fits, e)

    module _ {v : ℕ} (is-v : field_at 1 b 0 ≡ Some v) where
      pub version : (v ≡ 131 → ⊥) → Err (refusal.Version v) ≡ opened tag b
      unfolding opened byte_then number_then
      version h = rw (le-ltb cap.input (length b) fits, is-v, ne_eqb v 131 h)

      module _ (right : v ≡ 131) where
        pub no_kind : field_at 1 b 1 ≡ None → missing ≡ opened tag b
        unfolding opened byte_then number_then
        no_kind e = rw (le-ltb cap.input (length b) fits, is-v, eq-eqb v 131 right, e)

        module _ {t : ℕ} (is-t : field_at 1 b 1 ≡ Some t) where
          pub kind : (t ≡ tag → ⊥) → Err (refusal.Kind t) ≡ opened tag b
          unfolding opened byte_then number_then
          kind h = rw (le-ltb cap.input (length b) fits, is-v, eq-eqb v 131 right, is-t, ne_eqb t tag h)

          module _ (same : t ≡ tag) where
            pub no_sequence : field_at 8 b 2 ≡ None → missing ≡ opened tag b
            unfolding opened byte_then number_then
            no_sequence e = rw (le-ltb cap.input (length b) fits, is-v, eq-eqb v 131 right, is-t, eq-eqb t tag same, e)

            module _ {s : ℕ} (is-s : field_at 8 b 2 ≡ Some s) where
              pub no_fragment : field_at 8 b 10 ≡ None → missing ≡ opened tag b
              unfolding opened byte_then number_then
              no_fragment e = rw (le-ltb cap.input (length b) fits, is-v, eq-eqb v 131 right, is-t, eq-eqb t tag same, is-s, e)

              pub both : {f : ℕ} → field_at 8 b 10 ≡ Some f → Ok (record { sequence = s; fragment = f }) ≡ opened tag b
              unfolding opened byte_then number_then
              both e = rw (le-ltb cap.input (length b) fits, is-v, eq-eqb v 131 right, is-t, eq-eqb t tag same, is-s, e)

-- a first fragment, and a later one, by what they begin with
module _ (b : List ℕ) where
  pub first-no : {r : Refusal} → opened 69 b ≡ Err r → Err r ≡ first_at b
  unfolding first_at
  first-no o = rw o

  module _ {o : Opening} (is-o : opened 69 b ≡ Ok o) where
    pub no-count : field_at 1 b 18 ≡ None → missing ≡ first_at b
    unfolding first_at number_then
    no-count e = rw (is-o, e)

    pub first-is : {n : ℕ} → field_at 1 b 18 ≡ Some n → Ok (record { rest = 19; sequence = o.sequence; fragment = o.fragment; count = n }) ≡ first_at b
    unfolding first_at number_then
    first-is e = rw (is-o, e)

  pub next-no : {r : Refusal} → opened 70 b ≡ Err r → Err r ≡ next_at b
  unfolding next_at
  next-no o = rw o

  pub next-is : {o : Opening} → opened 70 b ≡ Ok o → Ok (record { rest = 18; sequence = o.sequence; fragment = o.fragment }) ≡ next_at b
  unfolding next_at
  next-is o = rw o
