-- The children as the one loop reads them are the definition's. Assumes nothing.
use mathlib.Core.Path.{◌≡◌, refl, ap, sym, ◌∙◌}
use mathlib.Core.List.{List}
use Prim.Native.Nat.{ℕ, zero, suc, ◌+◌, ◌-◌, ◌*◌, ◌%◌, ◌<◌, max}
use native.Mathlib.Omega.{arith}
use native.Mathlib.Numerals.{add-one}
use lib.ListN.{length}
use borrow.Author.Tests.{eq-eqb, ne_eqb}
use Rattle.numbers.specs.Caps as cap
use Rattle.numbers.specs.Allowed.{Allowed}
use Rattle.terms.specs.declared.Family.TheVariants as family
use Rattle.reading.specs.declared.Kind.{Kind}
use Rattle.reading.specs.declared.Kind.TheVariants.{Tuple, List as KList, Tail, Key, Value, Free}
use Rattle.reading.specs.declared.Segment.{Segment}
use Rattle.fields.specs.Field.{field_at}
use Rattle.std.specs.Prelude.{Some, Ok, Err}
use Rattle.numbers.specs.Refusal.{extra_of}
use Rattle.numbers.specs.declared.Refusal.{Refusal}
use Rattle.numbers.specs.declared.Refusal.TheVariants as why
use Rattle.rows.proofs.Laws.{by_count, count_in, count-over, count_eof}
use Rattle.rows.specs.Row.{count_at}
use Rattle.reading.specs.Reading.{State, Result, done, and_then, entered, moved}
use Rattle.reading.specs.Terms.{elems, pair, pairs, small_tuple, large_tuple, list, map}
use Rattle.terms.specs.Inner.Kids.{segment_of, entering, kids_of}
use Rattle.reading.specs.Terms.{term}
use Rattle.reading.proofs.Families.{sized-is, counted_is, assoc, only, after}
use Rattle.reading.proofs.Floors.{raise}

-- segments

pub tail_is : (m i prev : ℕ) → i + 1 ≡ m → segment_of family.List m i prev ≡ record { kind = Tail; number = 0 }
unfolding segment_of
tail_is m i prev h = rw (eq-eqb (i + 1) m h)

pub element_is : (m i prev : ℕ) → ¬ (i + 1 ≡ m) → segment_of family.List m i prev ≡ record { kind = KList; number = i }
unfolding segment_of
element_is m i prev h = rw (ne_eqb (i + 1) m h)

pub key_is : (m i prev : ℕ) → i % 2 ≡ 0 → segment_of family.Map m i prev ≡ record { kind = Key; number = 0 }
unfolding segment_of
key_is m i prev h = rw (eq-eqb (i % 2) 0 h)

pub value-is : (m i prev : ℕ) → ¬ (i % 2 ≡ 0) → segment_of family.Map m i prev ≡ record { kind = Value; number = prev }
unfolding segment_of
value-is m i prev h = rw (ne_eqb (i % 2) 0 h)

pub item_is : (m i prev : ℕ) → segment_of family.Tuple m i prev ≡ record { kind = Tuple; number = i }
unfolding segment_of
item_is m i prev = refl

pub free_is : (m i prev : ℕ) → segment_of family.Function m i prev ≡ record { kind = Free; number = i }
unfolding segment_of
free_is m i prev = refl

module _ (read : State → Result) where
  no-elems : (i : ℕ) (s : State) (f : State → Result) → and_then (elems read KList i zero s) f ≡ f s
  unfolding elems and_then
  no-elems i s f = refl

  pairs-none : (s : State) → pairs read zero s ≡ done s
  unfolding pairs
  pairs-none s = refl

  pairs-more : (n : ℕ) (s : State) → pairs read (suc n) s ≡ and_then (and_then (entered Key 0 (read s)) (λ t. entered Value s.at (read t))) (pairs read n)
  unfolding pairs pair
  pairs-more n s = refl

  tuples : (m i n prev : ℕ) (s : State) → elems read Tuple i n s ≡ kids_of read (segment_of family.Tuple m) i n prev s
  unfolding elems kids_of segment_of
  tuples m i zero prev s = refl
  tuples m i (suc n) prev s = after _ _ _ (λ t. tuples m (i + 1) n s.at t)

  -- a child, then the rest
  elems-more : (k : Kind) (i n : ℕ) (s : State) → elems read k i (suc n) s ≡ and_then (entered k i (read s)) (elems read k (i + 1) n)
  unfolding elems
  elems-more k i n s = refl

  kids_more : (seg : ℕ → ℕ → Segment) (i n prev : ℕ) (s : State) (k : Kind) (m : ℕ) → seg i prev ≡ record { kind = k; number = m } →
      kids_of read seg i (suc n) prev s ≡ and_then (entered k m (read s)) (λ t. kids_of read seg (i + 1) n s.at t)
  unfolding kids_of
  kids_more seg i n prev s k m e = rw e

  kids_none : (seg : ℕ → ℕ → Segment) (i prev : ℕ) (s : State) → kids_of read seg i zero prev s ≡ done s
  unfolding kids_of
  kids_none seg i prev s = refl

  lists : (m i n prev : ℕ) (s : State) → m ≡ i + n + 1 →
      and_then (elems read KList i n s) (λ u. entered Tail 0 (read u)) ≡ kids_of read (segment_of family.List m) i (suc n) prev s
  lists m i zero prev s h = ending
    where
      tail : segment_of family.List m i prev ≡ record { kind = Tail; number = 0 }
      tail = tail_is m i prev (omega arith)

      ending : and_then (elems read KList i zero s) (λ u. entered Tail 0 (read u)) ≡ kids_of read (segment_of family.List m) i (suc zero) prev s
      ending = no-elems i s (λ u. entered Tail 0 (read u)) ∙ sym (kids_more (segment_of family.List m) i zero prev s Tail 0 tail
          ∙ after (entered Tail 0 (read s)) (λ t. kids_of read (segment_of family.List m) (i + 1) zero s.at t) (λ t. done t) (λ t. kids_none (segment_of family.List m) (i + 1) s.at t)
          ∙ only (entered Tail 0 (read s)))
  lists m i (suc n) prev s h =
      ap (λ (o : Result). and_then o (λ u. entered Tail 0 (read u))) (elems-more KList i n s)
      ∙ assoc (entered KList i (read s)) (elems read KList (i + 1) n) (λ u. entered Tail 0 (read u))
      ∙ after (entered KList i (read s)) (λ t. and_then (elems read KList (i + 1) n t) (λ u. entered Tail 0 (read u))) (λ t. kids_of read (segment_of family.List m) (i + 1) (suc n) s.at t)
      (λ t. lists m (i + 1) n s.at t (omega arith))
      ∙ sym (kids_more (segment_of family.List m) i (suc n) prev s KList i (element_is m i prev (λ e. omega arith)))

  maps : (m i n prev : ℕ) (s : State) → i % 2 ≡ 0 → pairs read n s ≡ kids_of read (segment_of family.Map m) i (2 * n) prev s
  maps m i zero prev s h = pairs-none s ∙ sym (kids_none (segment_of family.Map m) i prev s)
  maps m i (suc n) prev s h =
      let d : 2 * suc n ≡ suc (suc (2 * n)) = omega arith in
      rw d (pairs-more n s
      ∙ assoc (entered Key 0 (read s)) (λ t. entered Value s.at (read t)) (pairs read n)
      ∙ after (entered Key 0 (read s)) (λ t. and_then (entered Value s.at (read t)) (pairs read n)) (λ t. kids_of read (segment_of family.Map m) (i + 1) (suc (2 * n)) s.at t)
      (λ t. after (entered Value s.at (read t)) (pairs read n) (λ u. kids_of read (segment_of family.Map m) (i + 1 + 1) (2 * n) t.at u) (λ u. maps m (i + 1 + 1) n t.at u (omega arith))
      ∙ sym (kids_more (segment_of family.Map m) (i + 1) (2 * n) s.at t Value s.at (value-is m (i + 1) s.at (λ e. omega arith))))
      ∙ sym (kids_more (segment_of family.Map m) i (suc (2 * n)) prev s Key 0 (key_is m i prev h)))

  frees : (m i n prev : ℕ) (s : State) → elems read Free i n s ≡ kids_of read (segment_of family.Function m) i n prev s
  unfolding elems kids_of segment_of
  frees m i zero prev s = refl
  frees m i (suc n) prev s = after _ _ _ (λ t. frees m (i + 1) n s.at t)

  -- the families, where their count is there and within its cap
  module _ (b : List ℕ) (s : State) (n prev : ℕ) where
    pub small_kids : field_at 1 b s.at ≡ Some n → small_tuple read b s ≡ kids_of read (segment_of family.Tuple n) 0 n prev (moved (s.at + 1) s)
    unfolding small_tuple
    small_kids e = sized-is 1 b _ s e ∙ tuples n 0 n prev (moved (s.at + 1) s)

    pub large_kids : count_at cap.elements b s.at ≡ Ok n → large_tuple read b s ≡ kids_of read (segment_of family.Tuple n) 0 n prev (moved (s.at + 4) s)
    unfolding large_tuple
    large_kids e = counted_is cap.elements b _ s e ∙ tuples n 0 n prev (moved (s.at + 4) s)

    pub list_kids : count_at cap.elements b s.at ≡ Ok n → list read b s ≡ kids_of read (segment_of family.List (n + 1)) 0 (n + 1) prev (moved (s.at + 4) s)
    unfolding list
    list_kids e =
        counted_is cap.elements b _ s e ∙ lists (n + 1) 0 n prev (moved (s.at + 4) s) (omega arith)
        ∙ ap (λ (k : ℕ). kids_of read (segment_of family.List (n + 1)) 0 k prev (moved (s.at + 4) s)) (sym (add-one n))

    pub map_kids : count_at cap.pairs b s.at ≡ Ok n → map read b s ≡ kids_of read (segment_of family.Map (2 * n)) 0 (2 * n) prev (moved (s.at + 4) s)
    unfolding map
    map_kids e = counted_is cap.pairs b _ s e ∙ maps (2 * n) 0 n prev (moved (s.at + 4) s) (omega arith)

  pub free_kids : (n prev : ℕ) (s : State) → elems read Free 0 n s ≡ kids_of read (segment_of family.Function n) 0 n prev s
  free_kids n prev s = frees n 0 n prev s

-- a count is refused with no extra
pub count_extra : (most : ℕ) (b : List ℕ) (p : ℕ) {r : Refusal} → count_at most b p ≡ Err r → extra_of r ≡ 0
count_extra most b p {r} h =
    by_count most b p
    (λ m e k. let f : Ok m ≡ Err r = sym (count_in most b p e k) ∙ h in absurd cc)
    (λ m e k. let f : Err why.Size ≡ Err r = sym (count-over most b p e k) ∙ h in let g : why.Size ≡ r = cc in rw (← g))
    (λ e. let f : Err why.Eof ≡ Err r = sym (count_eof most b p e) ∙ h in let g : why.Eof ≡ r = cc in rw (← g))

-- the deepest nesting may be raised to the first child's before the children are read
pub raise_kids : (allow : Allowed) (b : List ℕ) (limit rem : ℕ) (seg : ℕ → ℕ → Segment) (n prev : ℕ) (s : State) → ¬ (rem ≡ 0) → s.at < length b → ¬ (n ≡ 0) →
    kids_of (term allow b limit rem) seg 0 n prev s ≡ kids_of (term allow b limit rem) seg 0 n prev (record { at = s.at; last = s.last; begun = s.begun; deepest = max s.deepest (limit + 1 - rem) })
unfolding kids_of
raise_kids allow b limit rem seg zero prev s k h z = absurd (z refl)
raise_kids allow b limit rem seg (suc n) prev s k h z =
    ap (λ (o : Result). and_then (entering (seg 0 prev) o) (kids_of (term allow b limit rem) seg (0 + 1) n s.at)) (raise allow b limit rem s k h)
