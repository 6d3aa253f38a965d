-- The runs of bytes that heads name lie within the input: by `rows`, an atom or a binary that is not refused is all there. Assumes nothing.
use Prim.Native.Nat.{ℕ, ◌+◌, ◌*◌, ◌≤◌}
use native.Mathlib.Omega.{arith}
use mathlib.Core.Path.{◌≡◌, refl, sym, subst, ◌∙◌}
use mathlib.Core.List.{List}
use mathlib.Core.Bool.{Bool, true, false, cond, ◌||◌}
use borrow.Author.Tests.{eqb-true}
use lib.Dec.{eqb, ltb}
use lib.ListN.{length, get_or}
use Rattle.std.specs.Prelude.{Option, Some, None, Result, Ok, Err}
use Rattle.fields.specs.Field.{holds, field_at, number_at}
use Rattle.fields.proofs.Laws.{number_of, then_is, then_eof, by_then}
use Rattle.numbers.specs.Caps as cap
use Rattle.numbers.specs.declared.Refusal.TheVariants as refusal
use Rattle.numbers.proofs.Laws.{by_test}
use Rattle.rows.specs.Row as row
use Rattle.rows.specs.Row.{Row}
use Rattle.rows.specs.Layout as layout
use Rattle.rows.proofs.Laws.{name-to, count-is, counted_is, counted-no}
use Rattle.rows.proofs.Ends.{bytes-within, bytes-to}
use Rattle.heads.specs.Inner.Run.{run_of, inside}
use Rattle.heads.specs.Inner.Head.{refused, behind, sized, number_text, double, big, fixed, if_there, and_then, count, row_value, small_tuple, node, or_eof, pid_numbers, pid, reference_numbers, reference, port_numbers, port, function, term, head_at}
use Rattle.heads.specs.declared.Value.{Value}
use Rattle.heads.specs.declared.Value.TheVariants as value
use Rattle.heads.specs.declared.Run.{Run}
use Rattle.heads.specs.declared.Refused.{Refused}
use Rattle.heads.specs.declared.Headed.{Headed}

-- whatever run it names lies inside
pub record Inside (b : List ℕ) (v : Result Value Refused) : Type 0 where
  pub runs : (r : Run) → run_of v ≡ Some r → inside r b

-- it names none
abbrev None_named : Result Value Refused → Type 0
None_named v = run_of v ≡ None

module _ (b : List ℕ) where
  plain : {v : Result Value Refused} → None_named v → Inside b v
  plain e = record { runs = λ r f. let g : None ≡ Some r = sym e ∙ f in absurd cc }

  named : (r : Run) (v : Result Value Refused) → run_of v ≡ Some r → inside r b → Inside b v
  named r v e h = record { runs = λ q f. let g : r ≡ q = cc in rw g at h }

  -- where a row is there, its value lies inside
  record Held (r : Row) (v : Value) : Type 0 where
    held : (e : ℕ) → r ≡ Ok e → Inside b (Ok v)

  both : (t : Bool) (r s : Row) (v w : Value) → Held r v → Held s w → Held (cond t r s) (cond t v w)
  both true r s v w h k = h
  both false r s v w h k = k

  no_run : {r : Row} {v : Value} → None_named (Ok v) → Held r v
  no_run g = record { held = λ e h. plain g }

  -- a number that is there, and the row behind it
  sized-to : (k p e : ℕ) (f : ℕ → ℕ → Row) → row.sized k b f p ≡ Ok e → f (number_at k b p) (p + k) ≡ Ok e
  sized-to k p e f h = go (field_at k b p) refl
    where
      go : (x : Option ℕ) → field_at k b p ≡ x → f (number_at k b p) (p + k) ≡ Ok e
      go (Some n) g = rw (number_of k b p g) (sym (then_is k b p _ f g) ∙ h)
      go None g = let q : Err refusal.Eof ≡ Ok e = sym (then_eof k b p _ f g) ∙ h in absurd cc

  counted-to : (most p e : ℕ) (f : ℕ → ℕ → Row) → row.counted most b f p ≡ Ok e → f (number_at 4 b p) (p + 4) ≡ Ok e
  counted-to most p e f h = go (row.count_at most b p) refl
    where
      go : (x : Row) → row.count_at most b p ≡ x → f (number_at 4 b p) (p + 4) ≡ Ok e
      go (Ok n) g = rw (number_of 4 b p (count-is most b p g).0) (sym (counted_is most b p _ f g) ∙ h)
      go (Err r) g = let q : Err r ≡ Ok e = sym (counted-no most b p _ f g) ∙ h in absurd cc

  -- the text of a number is all there
  pub text-there : (tag p e : ℕ) → layout.row_at b tag p ≡ Ok e → tag ≡ 99 → p + 31 ≤ length b
  unfolding layout.row_at layout.number_text
  text-there tag p e h t = go (row.name b 31 p) refl (rw t at h)
    where
      go : (r : Row) → row.name b 31 p ≡ r → layout.number_text b p ≡ Ok e → p + 31 ≤ length b
      go (Ok d) g q = (name-to b 31 p g).1
      go (Err r) g q = let f : Err r ≡ Ok e = rw g at q in absurd cc

  -- the name of an atom that is there
  name-inside : (k p e : ℕ) → row.sized k b (row.name b) p ≡ Ok e → inside (behind k b p) b
  name-inside k p e h = (name-to b _ (p + k) (sized-to k p e (row.name b) h)).1

  atom-held : (k p : ℕ) → Held (row.sized k b (row.name b) p) (value.Atom (behind k b p))
  atom-held k p = record { held = λ e h. named (behind k b p) _ refl (name-inside k p e h) }

  binary-held : (p : ℕ) → Held (row.counted cap.binary b (row.bytes b) p) (value.Binary (behind 4 b p))
  binary-held p = record {
    held = λ e h.
        let k = counted-to cap.binary p e (row.bytes b) h in
        named (behind 4 b p) _ refl (omega (arith, bytes-to b _ (p + 4) k, (bytes-within b _ (p + 4) k).1));
  }

  fixed_held : (tag p : ℕ) → Held (layout.row_at b tag p) (fixed b tag p)
  unfolding fixed layout.row_at number_text double big
  fixed_held tag p =
      both (eqb tag 97) _ _ _ _ (no_run refl)
      (both (eqb tag 98) _ _ _ _ (no_run refl)
      (both (eqb tag 99) _ _ _ _ (no_run refl)
      (both (eqb tag 70) _ _ _ _ (no_run refl)
      (both (eqb tag 100 || eqb tag 118) _ _ _ _ (atom-held 2 p)
      (both (eqb tag 119) _ _ _ _ (atom-held 1 p)
      (both (eqb tag 106) _ _ _ _ (no_run refl)
      (both (eqb tag 107) _ _ _ _ (no_run refl)
      (both (eqb tag 109) _ _ _ _ (binary-held p)
      (both (eqb tag 77) _ _ _ _ (no_run refl)
      (both (eqb tag 110) _ _ _ _ (no_run refl)
      (no_run {r = cond (eqb tag 111) (row.sized 4 b (layout.digits b) p) (row.no refusal.Tag)} refl)))))))))))

  row_inside : (tag at : ℕ) → Inside b (row_value b tag at)
  unfolding row_value
  row_inside tag at = go (layout.row_at b tag (at + 1)) refl
    where
      go : (r : Row) → layout.row_at b tag (at + 1) ≡ r → Inside b (row_value b tag at)
      go (Ok e) h = rw h ((fixed_held tag (at + 1)).held e h)
      go (Err r) h = rw h (plain refl)

  -- the name of an atom child that is there
  pub node-inside : (c : ℕ) {r : Run} → node b c ≡ Ok r → inside r b
  unfolding node layout.row_at
  node-inside c {r} = go (ltb c (length b)) (get_or b c 0) (eqb (get_or b c 0) 100) (eqb (get_or b c 0) 118) (eqb (get_or b c 0) 119) refl refl refl
    where
      there : (x : Row) (k : ℕ) → x ≡ row.sized k b (row.name b) (c + 1) → if_there x c (behind k b (c + 1)) ≡ Ok r → inside r b
      there (Ok e) k f h = let q : behind k b (c + 1) ≡ r = cc in subst (λ (x : Run). inside x b) q (name-inside k (c + 1) e (sym f))
      there (Err x) k f h = absurd cc

      go : (t : Bool) (tag : ℕ) (x y z : Bool) → eqb tag 100 ≡ x → eqb tag 118 ≡ y → eqb tag 119 ≡ z →
          cond t (cond (x || y) (if_there (layout.row_at b tag (c + 1)) c (behind 2 b (c + 1))) (cond z (if_there (layout.row_at b tag (c + 1)) c (behind 1 b (c + 1))) (Err (refused refusal.Tag c)))) (Err (refused refusal.Eof c)) ≡ Ok r →
          inside r b
      go true tag true y z e f g h = there _ 2 (rw (eqb-true tag 100 e)) h
      go true tag false true z e f g h = there _ 2 (rw (eqb-true tag 118 f)) h
      go true tag false false true e f g h = there _ 1 (rw (eqb-true tag 119 g)) h
      go true tag false false false e f g h = absurd cc
      go false tag x y z e f g h = absurd cc

  -- no other row names one
  of_count : (r : Result ℕ Refused) (f : ℕ → Value) → ((n : ℕ) → None_named (Ok (f n))) → None_named (and_then r (λ n. Ok (f n)))
  of_count (Ok n) f h = h n
  of_count (Err e) f h = refl

  of_node : (r : Result Run Refused) (f : Run → Result Value Refused) → ((x : Run) → None_named (f x)) → None_named (and_then r f)
  of_node (Ok x) f h = h x
  of_node (Err e) f h = refl

  abbrev Numbers : ℕ → Option Value → Type 0
  Numbers o v = None_named (or_eof v o)

  of_sized : (k p o : ℕ) (f : ℕ → Option Value) → ((n : ℕ) → Numbers o (f n)) → Numbers o (sized k b p f)
  of_sized k p o f h = by_then k b p _ _ (Numbers o) refl h

  term-inside : (tag at : ℕ) → Inside b (term b tag at)
  unfolding term small_tuple pid pid_numbers reference reference_numbers port port_numbers function
  term-inside tag at =
      by_test (Inside b) (eqb tag 104) _ _ (plain (by_then 1 b (at + 1) _ _ None_named refl (λ n. refl)))
      (by_test (Inside b) (eqb tag 105) _ _ (plain (of_count (count cap.elements b at) value.Tuple (λ n. refl)))
      (by_test (Inside b) (eqb tag 108) _ _ (plain (of_count (count cap.elements b at) value.List (λ n. refl)))
      (by_test (Inside b) (eqb tag 116) _ _ (plain (of_count (count cap.pairs b at) value.Map (λ n. refl)))
      (by_test (Inside b) (eqb tag 88) _ _ (plain (of_node (node b (at + 1)) _ (λ r. of_sized 4 _ _ _ (λ i. of_sized 4 _ _ _ (λ j. of_sized 4 _ _ _ (λ k. refl))))))
      (by_test (Inside b) (eqb tag 90) _ _
      (plain (by_then 2 b (at + 1) _ _ None_named refl (λ k. of_node (node b (at + 3)) _ (λ r. of_sized 4 _ _ _ (λ i. by_test (Numbers (at + 3)) (holds (k * 4) b (r.at + r.len + 4)) _ _ refl refl)))))
      (by_test (Inside b) (eqb tag 120) _ _ (plain (of_node (node b (at + 1)) _ (λ r. of_sized 8 _ _ _ (λ i. of_sized 4 _ _ _ (λ j. refl)))))
      (by_test (Inside b) (eqb tag 113) _ _ (plain refl)
      (by_test (Inside b) (eqb tag 112) _ _ (plain (of_sized 4 _ _ _ (λ i. of_sized 1 _ _ _ (λ j. of_sized 4 _ _ _ (λ k. of_sized 4 _ _ _ (λ l. refl))))))
      (row_inside tag at)))))))))

  pub head-inside : (at : ℕ) → Inside b (head_at b at).value
  unfolding head_at
  head-inside at = by_test (λ (h : Headed). Inside b h.value) (ltb cap.input (length b)) _ _ (plain refl) (by_test (λ (h : Headed). Inside b h.value) (ltb at (length b)) _ _ (term-inside (get_or b at 0) at) (plain refl))
