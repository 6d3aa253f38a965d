-- What a header that is read to its end leaves of a cache is the same whatever stands behind it, whatever the form of cache: it says the same, and
-- the names that it puts lie before its rest. A reader of headers that is local so leaves of the input up to the rest, alone, what it leaves of the
-- input; and of all that begins with a header, what it leaves of the header. Assumes nothing.
use Prim.Native.Nat.{ℕ, ◌≤◌}
use native.Mathlib.Omega.{arith}
use native.Mathlib.Nat.{le_refl}
use mathlib.Core.Path.{◌≡◌, refl, sym, ◌∙◌}
use mathlib.Core.Bool.{Bool, true, false, cond}
use mathlib.Core.List.{List, [], ◌∷◌, ◌++◌}
use lib.ListN.{length, take}
use lib.Seq.{length-take-le, take-length, take-take, take-append_seam}
use Rattle.std.specs.Prelude.{Result, Ok, Err}
use Rattle.numbers.specs.Caps as cap
use Rattle.numbers.specs.declared.Refusal.{Refusal}
use Rattle.rows.proofs.Ends.{Agree, agree_part}
use Rattle.references.specs.declared.Reference.{Reference}
use Rattle.references.specs.declared.Reference.TheVariants as ref
use Rattle.references.specs.Header.{header_of}
use Rattle.references.proofs.Every.{All, none, more}
use Rattle.references.proofs.Local.{Before, Whole, whole, not-long, inside, names-before, local_header}
use Rattle.names.specs.Form.{Form, Left, after, put_all, over}
use Rattle.names.proofs.Accepted.{put_rest}

-- a reader of headers that looks at nothing behind the rest: where it has one, the header has it too, and what it leaves is the same of every list
-- that agrees up to there
pub record Local {State : Type 0} (read : List ℕ → Left State) : Type 0 where
  pub ends : {b : List ℕ} {e : ℕ} → (read b).rest ≡ Ok e → (header_of b).rest ≡ Ok e
  pub same : {b c : List ℕ} {e : ℕ} → (read b).rest ≡ Ok e → Agree b c e → length c ≤ cap.input → read c ≡ read b

-- one that refuses every input, and one of two by a test of something else
module _ {State : Type 0} where
  pub refusing : (l : Left State) {r : Refusal} → l.rest ≡ Err r → Local (λ b. l)
  refusing l {r} h = record { ends = λ {b} {e} d. stuck d; same = λ d a k. refl }
    where
      stuck : {P : Type 0} {e : ℕ} → l.rest ≡ Ok e → P
      stuck {P} {e} d =
          let f : ◌≡◌ {A = Result ℕ Refusal} (Err r) (Ok e) = sym h ∙ d in
          absurd (let z : ◌≡◌ {A = ℕ} 0 1 = cc in omega arith)

  pub either : (t : Bool) {f g : List ℕ → Left State} → Local f → Local g → Local (λ b. cond t (f b) (g b))
  either true h k = h
  either false h k = k

-- references over a cache of any form
module _ (F : Form) where
  after_same : (s : F.State) (f g : F.State → Left F.State) (p : Result F.State Refusal) → ((t : F.State) → f t ≡ g t) → after s f p ≡ after s g p
  unfolding after
  after_same s f g (Ok t) h = h t
  after_same s f g (Err r) h = refl

  put_same : {b c : List ℕ} {e : ℕ} → Agree b c e → (rest : Result ℕ Refusal) (rs : List Reference) → All (Before e) rs → (s : F.State) →
      put_all F c rest rs s ≡ put_all F b rest rs s
  unfolding put_all
  put_same a rest [] none s = refl
  put_same a rest (ref.Old slot ∷ rs) (more h hs) s = put_same a rest rs hs s
  put_same a rest (ref.New slot at n ∷ rs) (more h hs) s = rw (agree_part a at n h) (after_same s _ _ _ (put_same a rest rs hs))

  -- a header that is read to its end, over a cache that may refuse its names or not
  pub over-same : {b c : List ℕ} {e : ℕ} (w : Whole b e) → Agree b c e → length c ≤ cap.input → (s : F.State) → over F c (header_of c) s ≡ over F b (header_of b) s
  over-same w a l s = rw (local_header w a l) (put_same a _ _ (names-before w) s)

  pub over_local : (s : F.State) → Local (λ b. over F b (header_of b) s)
  over_local s = record {
    ends = λ {b} d. put_rest F b _ (header_of b).references s d;
    same = λ {b} d a l. over-same (whole b (put_rest F b _ (header_of b).references s d)) a l s;
  }

-- what a local reader leaves
module _ {State : Type 0} {read : List ℕ → Left State} (L : Local read) where
  module _ (b : List ℕ) {e : ℕ} (d : (read b).rest ≡ Ok e) where
    pub rest-inside : (3 ≤ e) × (e ≤ length b)
    rest-inside = inside (whole b (L.ends d))

    -- of what agrees up to the rest, which has the same references
    module _ {c : List ℕ} (a : Agree b c e) (l : length c ≤ cap.input) where
      pub leaves_same : read c ≡ read b
      leaves_same = L.same d a l

      pub says_same : header_of c ≡ header_of b
      says_same = local_header (whole b (L.ends d)) a l

    -- of the input up to the rest, which is its end then
    pub size_alone : length (take e b) ≡ e
    size_alone = length-take-le e b rest-inside.1

    pub leaves_alone : read (take e b) ≡ read b
    leaves_alone = leaves_same (record { same = sym (take-take e e b (le_refl e)) }) (omega (arith, size_alone, rest-inside.1, not-long (whole b (L.ends d))))

  -- of all that begins with a header
  module _ (front l : List ℕ) (d : (read front).rest ≡ Ok (length front)) (h : length (front ++ l) ≤ cap.input) where
    begins_with : Agree front (front ++ l) (length front)
    begins_with = record { same = take-length front ∙ sym (take-append_seam front l) }

    pub leaves_front : read (front ++ l) ≡ read front
    leaves_front = leaves_same front d begins_with h

    pub says_front : header_of (front ++ l) ≡ header_of front
    says_front = says_same front d begins_with h
