-- Laws of the definitions of specs/: one for each way that they can go. Assumes nothing.
use Prim.Native.Nat.{ℕ, ◌+◌, ◌-◌, ◌≤◌, ◌<◌}
use native.Mathlib.Omega.{arith}
use mathlib.Core.Path.{◌≡◌, refl, sym, ◌∙◌}
use mathlib.Core.List.{List}
use mathlib.Core.Logic.{◌⊎◌, inl, inr}
use mathlib.Core.Bool.{Bool, true, false, cond}
use borrow.Author.Tests.{le-leb, lt-leb, leb-true, leb-false, eq-eqb, ne_eqb, eqb-true}
use lib.Dec.{eqb, leb}
use lib.ListN.{length, take, drop}
use Rattle.fields.specs.Field.{holds, field_at}
use Rattle.std.specs.Prelude.{Option, Some, None, Ok, Err}
use Rattle.std.specs.Option.{ok_or}
use Rattle.fields.proofs.Laws.{there, is-there, is_whole, then_is, then_eof, by_then, part}
use Rattle.utf8.specs.Inner.Find.{good_bytes}
use Rattle.literal.specs.Inner.Trim.{trimmed}
use Rattle.literal.specs.Inner.Parse.{is_literal}
use Rattle.rows.specs.Layout.{number_text, row_at, position_at, leaf_at}
use Rattle.numbers.specs.Allowed.{Allowed, plain}
use Rattle.numbers.specs.declared.Refusal.{Refusal}
use Rattle.numbers.specs.declared.Refusal.TheVariants as refusal
use Rattle.numbers.proofs.Laws.{by_test}
use Rattle.rows.specs.Row.{Row, no, bytes, name, sized, count_then, count_at}

module _ (b : List ℕ) (n p : ℕ) where
  pub bytes-there : holds n b p ≡ true → Ok (p + n) ≡ bytes b n p
  unfolding bytes
  bytes-there h = rw h

  pub bytes_gone : holds n b p ≡ false → no refusal.Eof ≡ bytes b n p
  unfolding bytes
  bytes_gone h = rw h

  pub name-good : holds n b p ≡ true → good_bytes (take n (drop p b)) ≡ n → Ok (p + n) ≡ name b n p
  unfolding name bytes
  name-good h g = rw (h, eq-eqb (good_bytes (take n (drop p b))) n g)

-- a number that is there or refused, by what `ok_or` makes of it
module _ (k : ℕ) (b : List ℕ) (p : ℕ) {x : Option ℕ} (i : x ≡ field_at k b p) where
  pub asked : {n : ℕ} → Ok n ≡ ok_or x refusal.Eof → field_at k b p ≡ Some n
  asked {n} h = sym i ∙ go x h
    where
      go : (x : Option ℕ) → Ok n ≡ ok_or x refusal.Eof → x ≡ Some n
      go (Some m) h = cc
      go None h = cc

  pub lacked : {r : Refusal} → Err r ≡ ok_or x refusal.Eof → (field_at k b p ≡ None) × (r ≡ refusal.Eof)
  lacked {r} h = let (e, f) = go x h in (sym i ∙ e, f)
    where
      go : (x : Option ℕ) → Err r ≡ ok_or x refusal.Eof → (x ≡ None) × (r ≡ refusal.Eof)
      go (Some m) h = cc
      go None h = (refl, cc)

  -- and a row that begins with it
  module _ (f : ℕ → ℕ → Row) where
    pub sized_is : {n : ℕ} → Ok n ≡ ok_or x refusal.Eof → sized k b f p ≡ f n (p + k)
    sized_is h = then_is k b p _ f (asked h)

    pub sized_no : {r : Refusal} → Err r ≡ ok_or x refusal.Eof → sized k b f p ≡ Err r
    sized_no h = let (e, q) = lacked h in then_eof k b p _ f e ∙ rw q

-- a count: there and within its cap, or refused
module _ (most : ℕ) (b : List ℕ) (p : ℕ) where
  pub count_in : {n : ℕ} → field_at 4 b p ≡ Some n → n ≤ most → count_at most b p ≡ Ok n
  unfolding count_at count_then
  count_in {n} e h = then_is 4 b p _ _ e ∙ rw (le-leb n most h)

  pub count-over : {n : ℕ} → field_at 4 b p ≡ Some n → most < n → count_at most b p ≡ Err refusal.Size
  unfolding count_at count_then
  count-over {n} e h = then_is 4 b p _ _ e ∙ rw (lt-leb n most h)

  pub count_eof : field_at 4 b p ≡ None → count_at most b p ≡ Err refusal.Eof
  unfolding count_at count_then
  count_eof e = then_eof 4 b p _ _ e

  -- by which of these it is
  pub by_count : {A : Type 0} → ((n : ℕ) → field_at 4 b p ≡ Some n → n ≤ most → A) → ((n : ℕ) → field_at 4 b p ≡ Some n → most < n → A) → (field_at 4 b p ≡ None → A) → A
  by_count {A} within over eof = go (field_at 4 b p) refl
    where
      go : (x : Option ℕ) → field_at 4 b p ≡ x → A
      go (Some n) e = test (leb n most) refl
        where
          test : (t : Bool) → leb n most ≡ t → A
          test true h = within n e (leb-true n most h)
          test false h = over n e (leb-false n most h)
      go None e = eof e

  -- what a count that is there says, and what one that is refused
  pub count-is : {n : ℕ} → count_at most b p ≡ Ok n → (field_at 4 b p ≡ Some n) × (n ≤ most)
  count-is {n} h =
      by_count
      (λ m e k. let f : Ok m ≡ Ok n = sym (count_in e k) ∙ h in let g : m ≡ n = cc in (rw g at e, omega arith))
      (λ m e k. let f : Err refusal.Size ≡ Ok n = sym (count-over e k) ∙ h in absurd cc)
      (λ e. let f : Err refusal.Eof ≡ Ok n = sym (count_eof e) ∙ h in absurd cc)

  pub count-there : {n : ℕ} → count_at most b p ≡ Ok n → p + 4 ≤ length b
  count-there h = (is_whole 4 b p (count-is h).0).0

  module _ {A : Type 0} (refused : Refusal → A) (f : ℕ → ℕ → A) where
    pub counted_is : {n : ℕ} → count_at most b p ≡ Ok n → count_then refused most b f p ≡ f n (p + 4)
    unfolding count_then
    counted_is {n} h = let (e, k) = count-is h in then_is 4 b p _ _ e ∙ rw (le-leb n most k)

    pub counted-no : {x : Refusal} → count_at most b p ≡ Err x → count_then refused most b f p ≡ refused x
    unfolding count_then
    counted-no {x} h =
        by_count
        (λ m e k. let f : Ok m ≡ Err x = sym (count_in e k) ∙ h in absurd cc)
        (λ m e k. let f : Err refusal.Size ≡ Err x = sym (count-over e k) ∙ h in let g : refusal.Size ≡ x = cc in then_is 4 b p _ _ e ∙ rw (lt-leb m most k, ← g))
        (λ e. let f : Err refusal.Eof ≡ Err x = sym (count_eof e) ∙ h in let g : refusal.Eof ≡ x = cc in then_eof 4 b p _ _ e ∙ rw (← g))

    -- what its refusals and what comes behind it have, it has
    pub by_counted : (P : A → Type 0) → ((r : Refusal) → P (refused r)) → ((n : ℕ) → P (f n (p + 4))) → P (count_then refused most b f p)
    unfolding count_then
    by_counted P h m = by_then 4 b p _ _ P (h refusal.Eof) (λ n. by_test P (leb n most) _ _ (m n) (h refusal.Size))

-- what a name that is there says
pub name-to : (b : List ℕ) (n p : ℕ) {e : ℕ} → name b n p ≡ Ok e → (e ≡ p + n) × (p + n ≤ length b)
unfolding name bytes
name-to b n p {e} h = go (holds n b p) refl (eqb (good_bytes (take n (drop p b))) n) refl
  where
    go : (t : Bool) → holds n b p ≡ t → (u : Bool) → eqb (good_bytes (take n (drop p b))) n ≡ u → (e ≡ p + n) × (p + n ≤ length b)
    go true k true g = let f : Ok (p + n) ≡ Ok e = rw (k, g) at h in ((cc), there _ _ _ k)
    go true k false g = let f : Err refusal.Text ≡ Ok e = rw (k, g) at h in absurd cc
    go false k u g = let f : Err refusal.Eof ≡ Ok e = rw k at h in absurd cc

-- a number text by its two tests, over what stands up to the end
pub number_text-is : (b : List ℕ) (p : ℕ) {e n : ℕ} → name b 31 p ≡ Ok e → n ≡ trimmed (take (e - p) (drop p b)) →
    (l : Bool) → is_literal (take n (take (e - p) (drop p b))) ≡ l → cond l (Ok e) (no refusal.Literal) ≡ number_text b p
unfolding number_text
number_text-is b p {e} h t l g = rw (h, ← part (drop p b) p 31 e (name-to b 31 p h).0, ← t, g)

-- tags 100 and 118 are one row
pub row_at-name : (b : List ℕ) (tag p : ℕ) → (tag ≡ 100) ⊎ (tag ≡ 118) → row_at b tag p ≡ sized 2 b (name b) p
unfolding row_at
row_at-name b tag p (inl e) = rw e
row_at-name b tag p (inr e) = rw e

-- the rows of what is allowed: document 01's are those that are plain
pub plain-leaf : (b : List ℕ) (tag p : ℕ) → leaf_at plain b tag p ≡ row_at b tag p
unfolding leaf_at position_at row_at
plain-leaf b tag p = go (eqb tag 82) refl (eqb tag 99) refl
  where
    go : (x : Bool) → eqb tag 82 ≡ x → (y : Bool) → eqb tag 99 ≡ y → leaf_at plain b tag p ≡ row_at b tag p
    go true e y f = rw (eqb-true tag 82 e)
    go false e true f = rw (eqb-true tag 99 f)
    go false e false f = rw (e, f)

-- where texts are read, so has any tag but 82
pub other-leaf : (allow : Allowed) (b : List ℕ) (tag p : ℕ) → allow.texts ≡ true → ¬ (tag ≡ 82) → leaf_at allow b tag p ≡ row_at b tag p
unfolding leaf_at row_at
other-leaf allow b tag p h k = go (eqb tag 99) refl
  where
    go : (x : Bool) → eqb tag 99 ≡ x → leaf_at allow b tag p ≡ row_at b tag p
    go true e = rw (eqb-true tag 99 e, h)
    go false e = rw (ne_eqb tag 82 k, e)

-- an atom by its position: a tag that isn't one, no byte behind it, one that isn't known, and one that is
module _ (allow : Allowed) (b : List ℕ) (p : ℕ) where
  pub position-none : allow.names ≡ false → no refusal.Tag ≡ position_at allow b p
  unfolding position_at
  position-none h = rw h

  pub position_eof : allow.names ≡ true → field_at 1 b p ≡ None → no refusal.Eof ≡ position_at allow b p
  unfolding position_at
  position_eof h e = rw h (sym (then_eof 1 b p _ _ e))

  pub position-other : {k : ℕ} → allow.names ≡ true → field_at 1 b p ≡ Some k → allow.known k ≡ false → no refusal.Tag ≡ position_at allow b p
  unfolding position_at
  position-other h e t = rw h (sym (then_is 1 b p _ _ e ∙ rw t))

  pub position-to : {k : ℕ} → allow.names ≡ true → field_at 1 b p ≡ Some k → allow.known k ≡ true → Ok (p + 1) ≡ position_at allow b p
  unfolding position_at
  position-to {k} h e t =
      let i = (is_whole 1 b p e).0 in
      let q : p + 1 + 0 ≡ p + 1 = omega arith in
      rw h (sym (then_is 1 b p _ _ e ∙ rw t (sym (bytes-there b 0 (p + 1) (is-there 0 b (p + 1) (omega arith))) ∙ rw q)))
