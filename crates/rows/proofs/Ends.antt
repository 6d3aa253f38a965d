-- Rows over two lists that agree up to the row's end: a row that ends, ends within the input and not before its start, and is the same over
-- both. Assumes nothing.
use Prim.Native.Nat.{ℕ, zero, suc, ◌+◌, ◌-◌, ◌≤◌, ◌<◌}
use native.Mathlib.Omega.{arith}
use native.Mathlib.Nat.{le_trans, le_refl}
use mathlib.Core.Path.{◌≡◌, refl, ap, sym, ◌∙◌}
use mathlib.Core.List.{List, [], ◌∷◌}
use mathlib.Core.Bool.{Bool, true, false, cond, ◌||◌}
use lib.Dec.{leb, eqb}
use lib.ListN.{length, get_or, take, drop, length-take}
use lib.Seq.{take-take, take-nil, drop-nil, get_or-take}
use Rattle.numbers.specs.Caps as cap
use Rattle.numbers.specs.Allowed.{Allowed}
use Rattle.fields.specs.Be.{be, be_at}
use Rattle.fields.specs.Field.{holds, field_at}
use Rattle.std.specs.Prelude.{Option, Some, None, Ok, Err}
use Rattle.fields.proofs.Laws.{there, is-there, field_is, is_whole, then_is, then_eof, part}
use Rattle.utf8.specs.Inner.Find.{good_bytes}
use Rattle.literal.specs.Inner.Trim.{trimmed}
use Rattle.literal.specs.Inner.Parse.{is_literal}
use Rattle.numbers.specs.declared.Refusal.{Refusal}
use Rattle.numbers.specs.declared.Refusal.TheVariants as refusal
use Rattle.rows.specs.Row as row
use Rattle.rows.specs.Layout.{number_text, bits_then, digits, row_at, position_at, leaf_at}
use Rattle.rows.specs.Row.{Row}
use Rattle.rows.proofs.Laws.{name-to}

-- lists that agree on their first e bytes
pub record Agree (b c : List ℕ) (e : ℕ) : Type 0 where
  pub same : take e b ≡ take e c

drop-take : (p n : ℕ) (l : List ℕ) → drop p (take (p + n) l) ≡ take n (drop p l)
drop-take zero n l = let e : 0 + n ≡ n = omega arith in ap (λ (m : ℕ). take m l) e
drop-take (suc p) n [] = simp (take-nil, drop-nil)
drop-take (suc p) n (x ∷ l) = let e : suc p + n ≡ suc (p + n) = omega arith in ap (λ (m : ℕ). drop (suc p) (take m (x ∷ l))) e ∙ drop-take p n l

module _ {b c : List ℕ} {e : ℕ} (a : Agree b c e) where
  pub agree_less : {m : ℕ} → m ≤ e → Agree b c m
  agree_less {m} h = record { same = sym (take-take m e b h) ∙ ap (take m) a.same ∙ take-take m e c h }

  pub agree_length : e ≤ length b → e ≤ length c
  agree_length h = omega (arith, sym (length-take e b) ∙ ap length a.same ∙ length-take e c)

  pub agree_byte : {i : ℕ} → i < e → get_or b i 0 ≡ get_or c i 0
  agree_byte {i} h = sym (get_or-take e b i 0 h) ∙ ap (λ (l : List ℕ). get_or l i 0) a.same ∙ get_or-take e c i 0 h

  pub agree_part : (p n : ℕ) → p + n ≤ e → take n (drop p b) ≡ take n (drop p c)
  agree_part p n h = sym (drop-take p n b) ∙ ap (drop p) (agree_less h).same ∙ drop-take p n c

pub agree_field : {b c : List ℕ} (k p : ℕ) {n : ℕ} → Agree b c (p + k) → field_at k b p ≡ Some n → field_at k c p ≡ Some n
unfolding be_at
agree_field {b} {c} k p a f =
    let (l, i) = is_whole k b p f in
    sym (field_is k c p (is-there k c p (agree_length a l)) (i ∙ ap be (agree_part a p k (le_refl (p + k)))))

bytes-held : (b : List ℕ) (n p : ℕ) {e : ℕ} → row.bytes b n p ≡ Ok e → holds n b p ≡ true
unfolding row.bytes
bytes-held b n p {e} h = go (holds n b p) refl
  where
    go : (t : Bool) → holds n b p ≡ t → holds n b p ≡ true
    go true k = k
    go false k = let f : Err refusal.Eof ≡ Ok e = rw k at h in absurd cc

pub bytes-to : (b : List ℕ) (n p : ℕ) {e : ℕ} → row.bytes b n p ≡ Ok e → e ≡ p + n
unfolding row.bytes
bytes-to b n p {e} h = let f : Ok (p + n) ≡ Ok e = rw (bytes-held b n p h) at h in cc

pub bytes-within : (b : List ℕ) (n p : ℕ) {e : ℕ} → row.bytes b n p ≡ Ok e → (p ≤ e) × (e ≤ length b)
bytes-within b n p h = let i = bytes-to b n p h in let l = there n b p (bytes-held b n p h) in (omega arith, omega arith)

-- a name by its test, over what stands up to the end
pub name_is : (b : List ℕ) (n p : ℕ) {e : ℕ} → row.bytes b n p ≡ Ok e → (t : Bool) → eqb (good_bytes (take (e - p) (drop p b))) n ≡ t → cond t (Ok e) (row.no refusal.Text) ≡ row.name b n p
unfolding row.name
name_is b n p {e} h t g = rw (h, ← part (drop p b) p n e (bytes-to b n p h), g)

module _ (b c : List ℕ) where
  -- a row from p that ends, ends not before p, within b if p is, and so it does over every list that agrees up to its end
  abbrev pub Near : ℕ → Row → Row → Type 0
  Near p (Ok e) q = (p ≤ e) × (p ≤ length b → e ≤ length b) × (Agree b c e → q ≡ Ok e)
  Near p (Err r) q = Unit {0}

  near_cond : (p : ℕ) (x : Bool) (r q s t : Row) → Near p r q → Near p s t → Near p (cond x r s) (cond x q t)
  near_cond p true r q s t h k = h
  near_cond p false r q s t h k = k

  -- a row that starts later
  near_later : (p q : ℕ) (r s t : Row) → p ≤ q → (p ≤ length b → q ≤ length b) → (Agree b c q → t ≡ s) → Near q r s → Near p r t
  near_later p q (Ok e) s t h i k n = (le_trans h n.0, (λ l. n.1 (i l)), λ a. k (agree_less a n.0) ∙ n.2 a)
  near_later p q (Err x) s t h i k n = tt

  near_then : (p : ℕ) (r q : Row) (f g : ℕ → Row) → Near p r q → ((e : ℕ) → Near e (f e) (g e)) → Near p (row.and_then r f) (row.and_then q g)
  near_then p (Ok e) q f g h k = near_later p e (f e) (g e) _ h.0 h.1 (λ a. ap (λ (r : Row). row.and_then r g) (h.2 a)) (k e)
  near_then p (Err x) q f g h k = tt

  pub near_bytes : (n p : ℕ) → Near p (row.bytes b n p) (row.bytes c n p)
  unfolding row.bytes
  near_bytes n p = go (holds n b p) refl
    where
      go : (t : Bool) → holds n b p ≡ t → Near p (cond t (Ok (p + n)) (row.no refusal.Eof)) (row.bytes c n p)
      go true h = let l = there n b p h in (omega arith, (λ i. l), λ a. rw (is-there n c p (agree_length a l)))
      go false h = tt

  near_sized : (k p : ℕ) (f g : ℕ → ℕ → Row) → ((n e : ℕ) → Near e (f n e) (g n e)) → Near p (row.sized k b f p) (row.sized k c g p)
  near_sized k p f g h = go (field_at k b p) refl
    where
      go : (x : Option ℕ) → field_at k b p ≡ x → Near p (row.sized k b f p) (row.sized k c g p)
      go (Some n) e =
          rw (then_is k b p _ f e) (near_later p (p + k) (f n (p + k)) (g n (p + k)) (row.sized k c g p) (omega arith) (λ i. (is_whole k b p e).0)
          (λ a. then_is k c p _ g (agree_field k p a e)) (h n (p + k)))
      go None e = rw (then_eof k b p _ f e) tt

  -- a test of the row's bytes
  near_tested : (n p : ℕ) (r q : Row) (test : List ℕ → Bool) (x : Refusal) → Near p r q → ((e : ℕ) → r ≡ Ok e → e ≡ p + n) →
      Near p (row.and_then r (λ e. cond (test (take n (drop p b))) (Ok e) (row.no x))) (row.and_then q (λ e. cond (test (take n (drop p c))) (Ok e) (row.no x)))
  near_tested n p (Err y) q test x h l = tt
  near_tested n p (Ok e) q test x h l = go (test (take n (drop p b))) refl
    where
      go : (t : Bool) → test (take n (drop p b)) ≡ t → Near p (cond t (Ok e) (row.no x)) (row.and_then q (λ e. cond (test (take n (drop p c))) (Ok e) (row.no x)))
      go true y = (h.0, h.1, λ a. let z : p + n ≤ e = omega (arith, l e refl) in rw (h.2 a, ← agree_part a p n z, y))
      go false y = tt

  pub near_name : (n p : ℕ) → Near p (row.name b n p) (row.name c n p)
  unfolding row.name
  near_name n p = near_tested n p (row.bytes b n p) (row.bytes c n p) (λ l. eqb (good_bytes l) n) refusal.Text (near_bytes n p) (λ e h. bytes-to b n p h)

  near_text : (p : ℕ) → Near p (number_text b p) (number_text c p)
  unfolding number_text
  near_text p = near_tested 31 p (row.name b 31 p) (row.name c 31 p) (λ l. is_literal (take (trimmed l) l)) refusal.Literal (near_name 31 p) (λ e h. (name-to b 31 p h).0)

  near_digits : (n p : ℕ) → Near p (digits b n p) (digits c n p)
  unfolding digits
  near_digits n p = near_then p (row.bytes b 1 p) (row.bytes c 1 p) (row.bytes b n) (row.bytes c n) (near_bytes 1 p) (near_bytes n)

  pub near_row : (tag p : ℕ) → Near p (row_at b tag p) (row_at c tag p)
  unfolding row_at bits_then row.count_then
  near_row tag p =
      near_cond p (eqb tag 97) _ _ _ _ (near_bytes 1 p)
      (near_cond p (eqb tag 98) _ _ _ _ (near_bytes 4 p)
      (near_cond p (eqb tag 99) _ _ _ _ (near_text p)
      (near_cond p (eqb tag 70) _ _ _ _ (near_bytes 8 p)
      (near_cond p (eqb tag 100 || eqb tag 118) _ _ _ _ (near_sized 2 p _ _ near_name)
      (near_cond p (eqb tag 119) _ _ _ _ (near_sized 1 p _ _ near_name)
      (near_cond p (eqb tag 106) _ _ _ _ (le_refl p, (λ h. h), λ a. refl)
      (near_cond p (eqb tag 107) _ _ _ _ (near_sized 2 p _ _ near_bytes)
      (near_cond p (eqb tag 109) _ _ _ _ (near_sized 4 p _ _ (λ n e. near_cond e (leb n cap.binary) _ _ _ _ (near_bytes n e) tt))
      (near_cond p (eqb tag 77) _ _ _ _
      (near_sized 4 p _ _ (λ n e. near_cond e (leb n cap.binary) _ _ _ _ (near_sized 1 e _ _ (λ m f. near_cond f (cap.bits_byte n m) _ _ _ _ (near_bytes n f) tt)) tt))
      (near_cond p (eqb tag 110) _ _ _ _ (near_sized 1 p _ _ near_digits)
      (near_cond p (eqb tag 111) _ _ _ _ (near_sized 4 p _ _ near_digits)
      tt)))))))))))

  pub near_leaf : (allow : Allowed) (tag p : ℕ) → Near p (leaf_at allow b tag p) (leaf_at allow c tag p)
  unfolding leaf_at position_at
  near_leaf allow tag p =
      near_cond p (eqb tag 82) _ _ _ _
      (near_cond p allow.names _ _ _ _ (near_sized 1 p _ _ (λ k e. near_cond e (allow.known k) _ _ _ _ (near_bytes 0 e) tt)) tt)
      (near_cond p (eqb tag 99) _ _ _ _ (near_cond p allow.texts _ _ _ _ (near_text p) tt) (near_row tag p))

pub row_within : (b : List ℕ) (tag p : ℕ) {e : ℕ} → row_at b tag p ≡ Ok e → p ≤ length b → (p ≤ e) × (e ≤ length b)
row_within b tag p h l = let k = rw h at (near_row b b tag p) in (k.0, k.1 l)
