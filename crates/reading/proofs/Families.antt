-- The definition by cases: one law for each way that reading can go, so that the readers' proofs unfold nothing. Assumes nothing.
use mathlib.Core.Path.{◌≡◌, refl, ap, sym, ◌∙◌}
use mathlib.Core.List.{List, [], ◌∷◌}
use mathlib.Core.Bool.{Bool, true, false, cond}
use Prim.Native.Nat.{ℕ, zero, suc, ◌+◌, ◌-◌, ◌*◌, ◌≤◌, ◌<◌}
use native.Mathlib.Omega.{arith}
use lib.ListN.{length, get_or}
use lib.Dec.{ltb}
use borrow.Author.Tests.{lt-ltb, le-ltb, ltb-true, ltb-false, eq-eqb}
use Rattle.numbers.specs.Caps as cap
use Rattle.numbers.specs.Allowed.{Allowed}
use Rattle.fields.specs.Field.{holds, field_at}
use Rattle.std.specs.Prelude.{Some, None, Ok, Err}
use Rattle.fields.proofs.Laws.{is_whole, is-there, then_is, then_eof}
use Rattle.numbers.specs.Numbers as number
use Rattle.numbers.specs.Refusal.{number_of, extra_of}
use Rattle.numbers.specs.declared.Refusal.{Refusal}
use Rattle.numbers.specs.declared.Refusal.TheVariants as why
use Rattle.numbers.proofs.Laws.{none_of}
use Rattle.rows.specs.Row.{Row, count_at}
use Rattle.rows.specs.Layout.{leaf_at, position_at, row_at}
use Rattle.rows.proofs.Laws.{bytes-there, bytes_gone}
use Rattle.rows.proofs.Laws as row
use Rattle.reading.specs.declared.Kind.TheVariants as kind
use Rattle.reading.specs.declared.Segment.{Segment}
use Rattle.reading.specs.Reading.{State, Result, done, no, and_then, moved, reach, begin, refused, fields, pass, sized, counted}
use Rattle.reading.specs.Terms.{elems, required, is_atom, is_natural, is_pid, small_tuple, large_tuple, list, map, pid, reference, export, captured, function, body, term}

pub fields-to : (s : State) {r : Row} {e : ℕ} → r ≡ Ok e → fields r s ≡ done (moved e s)
unfolding fields
fields-to s h = rw h

pub fields-no : (s : State) {r : Row} {x : Refusal} → r ≡ Err x → fields r s ≡ no (number_of x) (extra_of x) s []
unfolding fields
fields-no s h = rw h

pub pass_on : (b : List ℕ) (n : ℕ) (s : State) → holds n b s.at ≡ true → pass b n s ≡ done (moved (s.at + n) s)
unfolding pass
pass_on b n s h = fields-to s (sym (bytes-there b n s.at h))

pub pass_eof : (b : List ℕ) (n : ℕ) (s : State) → holds n b s.at ≡ false → pass b n s ≡ refused number.Eof s
unfolding pass
pass_eof b n s h = fields-no s (sym (bytes_gone b n s.at h))

module _ (k : ℕ) (b : List ℕ) (f : ℕ → State → Result) (s : State) where
  pub sized-is : {n : ℕ} → field_at k b s.at ≡ Some n → sized k b f s ≡ f n (moved (s.at + k) s)
  unfolding sized
  sized-is e = then_is k b s.at _ _ e

  pub sized_eof : field_at k b s.at ≡ None → sized k b f s ≡ refused number.Eof s
  unfolding sized
  sized_eof e = then_eof k b s.at _ _ e

module _ (most : ℕ) (b : List ℕ) (f : ℕ → State → Result) (s : State) where
  pub counted_is : {n : ℕ} → count_at most b s.at ≡ Ok n → counted most b f s ≡ f n (moved (s.at + 4) s)
  unfolding counted
  counted_is e = row.counted_is most b s.at _ _ e

  pub counted-no : {r : Refusal} → count_at most b s.at ≡ Err r → counted most b f s ≡ refused (number_of r) s
  unfolding counted
  counted-no e = row.counted-no most b s.at _ _ e

module _ (read : State → Result) (fits : ℕ → Bool) (s : State) where
  pub required-is : required read fits s ≡ and_then (read s) (λ t. cond (fits s.at) (done t) (refused number.Tag t))
  unfolding required
  required-is = refl

  pub required-good : {t : State} → read s ≡ done t → fits s.at ≡ true → required read fits s ≡ done t
  unfolding required and_then
  required-good e h = rw (e, h)

  pub required_bad : {t : State} → read s ≡ done t → fits s.at ≡ false → required read fits s ≡ refused number.Tag t
  unfolding required and_then
  required_bad e h = rw (e, h)

-- the families: a count that is refused, and what comes first
module _ (read : State → Result) (b : List ℕ) (s : State) where
  pub small_eof : field_at 1 b s.at ≡ None → small_tuple read b s ≡ refused number.Eof s
  unfolding small_tuple
  small_eof e = sized_eof 1 b _ s e

  pub large_no : {r : Refusal} → count_at cap.elements b s.at ≡ Err r → large_tuple read b s ≡ refused (number_of r) s
  unfolding large_tuple
  large_no e = counted-no _ b _ s e

  pub list-no : {r : Refusal} → count_at cap.elements b s.at ≡ Err r → list read b s ≡ refused (number_of r) s
  unfolding list
  list-no e = counted-no _ b _ s e

  pub map-no : {r : Refusal} → count_at cap.pairs b s.at ≡ Err r → map read b s ≡ refused (number_of r) s
  unfolding map
  map-no e = counted-no _ b _ s e

  pub pid-is : pid read b s ≡ and_then (required read (is_atom b) s) (pass b 12)
  unfolding pid
  pid-is = refl

  pub reference_eof : field_at 2 b s.at ≡ None → reference read b s ≡ refused number.Eof s
  unfolding reference
  reference_eof e = sized_eof 2 b _ s e

  pub reference-is : {n : ℕ} → field_at 2 b s.at ≡ Some n → reference read b s ≡ and_then (required read (is_atom b) (moved (s.at + 2) s)) (pass b (4 + 4 * n))
  unfolding reference
  reference-is e = sized-is 2 b _ s e

  pub export_is : export read b s ≡ and_then (required read (is_atom b) s) (λ t. and_then (required read (is_atom b) t) (required read (is_natural 255 b)))
  unfolding export
  export_is = refl

  pub captured-is : (n : ℕ) → captured read b n s ≡ and_then (required read (is_atom b) s) (λ t.
      and_then (required read (is_natural 2147483647 b) t) (λ u.
      and_then (required read (is_natural 2147483647 b) u) (λ v.
      and_then (required read (is_pid b) v) (elems read kind.Free 0 n))))
  unfolding captured
  captured-is n = refl

  -- the fixed fields of a function are there where its last, the free count, is
  pub function-is : {n : ℕ} → field_at 4 b (s.at + 25) ≡ Some n → function read b s ≡ captured read b n (moved (s.at + 29) s)
  unfolding function and_then
  function-is {n} e =
      let w = is_whole 4 b (s.at + 25) e in
      let q : s.at + 25 + 4 ≡ s.at + 29 = omega arith in
      rw (pass_on b 25 s (is-there 25 b s.at (omega arith))) (sized-is 4 b _ (moved (s.at + 25) s) e ∙ rw q)

  pub function_eof : field_at 4 b (s.at + 25) ≡ None → (p : ℕ) × (function read b s ≡ refused number.Eof (moved p s))
  unfolding function and_then
  function_eof e = go (holds 25 b s.at) refl
    where
      go : (t : Bool) → holds 25 b s.at ≡ t → (p : ℕ) × (function read b s ≡ refused number.Eof (moved p s))
      go true h = (s.at + 25, rw (pass_on b 25 s h) (sized_eof 4 b _ (moved (s.at + 25) s) e))
      go false h = (s.at, rw (pass_eof b 25 s h))

-- one reading behind another
pub then_no : {n x : ℕ} {t : State} {p : List Segment} (o : Result) (f : State → Result) → o ≡ no n x t p → and_then o f ≡ no n x t p
unfolding and_then
then_no o f e = rw e

pub then_done : {t : State} (o : Result) (f : State → Result) → o ≡ done t → and_then o f ≡ f t
unfolding and_then
then_done o f e = rw e

pub assoc : (o : Result) (f g : State → Result) → and_then (and_then o f) g ≡ and_then o (λ s. and_then (f s) g)
unfolding and_then
assoc (done s) f g = refl
assoc (no c x s p) f g = refl

pub only : (o : Result) → and_then o (λ s. done s) ≡ o
unfolding and_then
only (done s) = refl
only (no c x s p) = refl

-- what comes after may be put for what it equals
pub after : (o : Result) (f g : State → Result) → ((s : State) → f s ≡ g s) → and_then o f ≡ and_then o g
unfolding and_then
after (done s) f g h = h s
after (no c x s p) f g h = refl

pub is-pid : (b : List ℕ) (p : ℕ) → get_or b p 0 ≡ 88 → is_pid b p ≡ true
unfolding is_pid
is-pid b p e = eq-eqb _ _ e

-- a tag is none of those that a match has asked for, the last of which stands first
abbrev Others : ℕ → List ℕ → Type 0
Others tag [] = Unit {0}
Others tag (n ∷ l) = Others tag l × ¬ (tag ≡ n)

-- a tag's layout
module _ (allow : Allowed) (read : State → Result) (b : List ℕ) (tag : ℕ) (s : State) where
  pub body_104 : tag ≡ 104 → body allow read b tag s ≡ small_tuple read b s
  unfolding body
  body_104 e = rw e

  pub body_105 : tag ≡ 105 → body allow read b tag s ≡ large_tuple read b s
  unfolding body
  body_105 e = rw e

  pub body_108 : tag ≡ 108 → body allow read b tag s ≡ list read b s
  unfolding body
  body_108 e = rw e

  pub body_116 : tag ≡ 116 → body allow read b tag s ≡ map read b s
  unfolding body
  body_116 e = rw e

  pub body_88 : tag ≡ 88 → body allow read b tag s ≡ pid read b s
  unfolding body
  body_88 e = rw e

  pub body_120 : tag ≡ 120 → body allow read b tag s ≡ pid read b s
  unfolding body
  body_120 e = rw e

  pub body_90 : tag ≡ 90 → body allow read b tag s ≡ reference read b s
  unfolding body
  body_90 e = rw e

  pub body_113 : tag ≡ 113 → body allow read b tag s ≡ export read b s
  unfolding body
  body_113 e = rw e

  pub body_112 : tag ≡ 112 → body allow read b tag s ≡ function read b s
  unfolding body
  body_112 e = rw e

  pub body_82 : tag ≡ 82 → body allow read b tag s ≡ fields (position_at allow b s.at) s
  unfolding body leaf_at
  body_82 e = rw e

  -- any other, as a match over these tags leaves it: a row without children
  pub body-rest : Others tag (112 ∷ 113 ∷ 90 ∷ 120 ∷ 88 ∷ 116 ∷ 108 ∷ 105 ∷ 104 ∷ []) → body allow read b tag s ≡ fields (leaf_at allow b tag s.at) s
  unfolding body
  body-rest r = search none_of

  -- one that isn't 82 either, where texts are read: a row of document 01's
  pub body-row : allow.texts ≡ true → Others tag (82 ∷ 112 ∷ 113 ∷ 90 ∷ 120 ∷ 88 ∷ 116 ∷ 108 ∷ 105 ∷ 104 ∷ []) → body allow read b tag s ≡ fields (row_at b tag s.at) s
  body-row h r = body-rest r.0 ∙ ap (λ (q : Row). fields q s) (row.other-leaf allow b tag s.at h r.1)

  -- a row that ends is one of these
  pub body-to : {e : ℕ} → leaf_at allow b tag s.at ≡ Ok e → body allow read b tag s ≡ done (moved e s)
  unfolding leaf_at row_at
  body-to {e} h =
      body-rest (((((((((tt, not 104 refl), not 105 refl), not 108 refl), not 116 refl), not 88 refl), not 120 refl), not 90 refl), not 113 refl), not 112 refl) ∙ fields-to s h
    where
      not : (n : ℕ) → leaf_at allow b n s.at ≡ Err why.Tag → ¬ (tag ≡ n)
      not n q i = let f : Err why.Tag ≡ Ok e = sym q ∙ ap (λ (t : ℕ). leaf_at allow b t s.at) (sym i) ∙ h in cc

-- a term
pub term_eof : (allow : Allowed) (b : List ℕ) (limit rem : ℕ) (s u : State) → length b ≤ s.at → u ≡ reach s → term allow b limit rem s ≡ refused number.Eof u
unfolding term
term_eof allow b limit zero s u h e = rw (e, le-ltb s.at (length b) h)
term_eof allow b limit (suc r) s u h e = rw (e, le-ltb s.at (length b) h)

pub term_deep : (allow : Allowed) (b : List ℕ) (limit rem : ℕ) (s u : State) → s.at < length b → rem ≡ 0 → u ≡ reach s → term allow b limit rem s ≡ refused number.Deep u
unfolding term
term_deep allow b limit rem s u h e k = rw (e, k, lt-ltb s.at (length b) h)

pub term-body : (allow : Allowed) (b : List ℕ) (limit rem : ℕ) (s u : State) → s.at < length b → ¬ (rem ≡ 0) → u ≡ begin (limit - (rem - 1)) s →
    term allow b limit rem s ≡ body allow (term allow b limit (rem - 1)) b (get_or b s.at 0) u
unfolding term
term-body allow b limit zero s u h k e = absurd (k refl)
term-body allow b limit (suc r) s u h k e =
    let d : suc r - 1 ≡ r = omega arith in
    rw (e, d, lt-ltb s.at (length b) h)

-- a term without children whose row ends
pub term-row : (allow : Allowed) (b : List ℕ) (limit rem : ℕ) (s : State) {e : ℕ} → s.at < length b → ¬ (rem ≡ 0) → leaf_at allow b (get_or b s.at 0) (s.at + 1) ≡ Ok e →
    term allow b limit rem s ≡ done (moved e (begin (limit - (rem - 1)) s))
term-row allow b limit rem s h k r = term-body allow b limit rem s _ h k refl ∙ body-to _ _ _ _ _ r

-- a term that was read began within the input
pub inside : (allow : Allowed) (b : List ℕ) (limit rem : ℕ) (s u : State) → term allow b limit rem s ≡ done u → s.at < length b
inside allow b limit rem s u e = by_test (ltb s.at (length b)) refl
  where
    by_test : (x : Bool) → x ≡ ltb s.at (length b) → s.at < length b
    by_test true q = ltb-true s.at (length b) (sym q)
    by_test false q =
        let p : refused number.Eof (reach s) ≡ done u = sym (term_eof allow b limit rem s (reach s) (ltb-false s.at (length b) (sym q)) refl) ∙ e in
        absurd cc
