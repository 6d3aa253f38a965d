-- Walking over keys and values that are known to be good: what is found from here on, or else what was found so far, is what there is to
-- find. Assumes nothing.
use Prim.Native.Nat.{ℕ, ◌+◌, ◌-◌, ◌≤◌, ◌<◌}
use native.Mathlib.Omega.{arith}
use mathlib.Core.Path.{◌≡◌, refl, ap, sym, ◌∙◌}
use mathlib.Core.List.{List, ◌++◌}
use mathlib.Core.Bool.{Bool, true, false, cond}
use lib.ListN.{length}
use Rattle.std.specs.Prelude.{Option, Some, None}
use Rattle.std.specs.Option.{option_or}
use Rattle.numbers.specs.Allowed.{plain}
use Rattle.numbers.specs.Caps as cap
use Rattle.layouts.specs.Tree.{Tree, Forest, none, more, count, bytes, bytes_all, Stands}
use Rattle.layouts.specs.Layout.{AllLaid, one_more}
use Rattle.layouts.proofs.Stands.{left, right}
use Rattle.lookup.specs.Lookup.{Key}
use Rattle.lookup.specs.Inner.Found.{equal, found}
use Rattle.lookup.specs.Inner.Walk.{Term, Terms, OneTerm, Ends, Judges}

-- a key and its value, and what is left behind them
pub record Entry (b : List ℕ) (p n : ℕ) (ts : Forest) : Type 0 where
  pub key : Tree
  pub value : Tree
  pub others : Forest
  pub is : ts ≡ more key (more value others)
  pub key_at : Term b p key
  pub value-at : Term b (p + length (bytes key)) value
  pub others_at : Terms b (p + length (bytes key) + length (bytes value)) (n - 2) others

entry : {b : List ℕ} {p n : ℕ} {ts : Forest} → 1 < n → Terms b p n ts → Entry b p n ts
unfolding count bytes
entry {b} {p} {n} {ts} h t = go ts t.laid t.counted t.stands
  where
    go : (ts : Forest) → AllLaid plain ts → count ts ≡ n → Stands b p (bytes_all ts) → Entry b p n ts
    go none l c s = absurd (omega arith)
    go (more x none) l c s = absurd (omega arith)
    go (more x (more y zs)) (one_more a (one_more a' l)) c s =
        let r = right b p (bytes x) (bytes y ++ bytes_all zs) s in
        let v = p + length (bytes x) in
        record {
          key = x;
          value = y;
          others = zs;
          is = refl;
          key_at = record { laid = a; stands = left b p (bytes x) (bytes y ++ bytes_all zs) s };
          value-at = record { laid = a'; stands = left b v (bytes y) (bytes_all zs) r };
          others_at = record { laid = l; counted = omega arith; stands = right b v (bytes y) (bytes_all zs) r };
        }

-- a later key wins
later : (a : Option ℕ) (e : Bool) (v : ℕ) (o : Option ℕ) → option_or (option_or a (cond e (Some v) None)) o ≡ option_or a (cond e (Some v) o)
later (Some q) e v o = refl
later None true v o = refl
later None false v o = refl

-- the n keys and values from p on, and what was found before them: together they are all that there is to find
pub record Left (b : List ℕ) (p n : ℕ) (k : Key) (all before : Option ℕ) : Type 0 where
  pub rest : Forest
  pub are : Terms b p n rest
  pub same : all ≡ option_or (found k p rest) before

-- at first all is left
pub at_first : {b : List ℕ} {p n m : ℕ} (k : Key) {ts : Forest} → m ≡ n → Terms b p n ts → Left b p m k (found k p ts) None
at_first {p = p} k {ts} e t = record { rest = ts; are = rw e t; same = go (found k p ts) }
  where
    go : (o : Option ℕ) → o ≡ option_or o None
    go (Some q) = refl
    go None = refl

module _ {b : List ℕ} {p n : ℕ} {k : Key} {all before : Option ℕ} (s : Left b p n k all before) where
  -- at the end nothing is left
  pub at_last : n ≤ 1 → before ≡ all
  unfolding count found
  at_last h = go s.rest s.are.counted s.same
    where
      go : (ts : Forest) → count ts ≡ n → all ≡ option_or (found k p ts) before → before ≡ all
      go none c e = sym e
      go (more x none) c e = sym e
      go (more x (more y zs)) c e = absurd (omega arith)

  -- there is a key, and behind it a value
  module _ (h : 1 < n) where
    abbrev here : Entry b p n s.rest
    here = entry h s.are

    pub a_key : length b ≤ cap.input → OneTerm b p
    a_key l = record { short = l; tree = here.key; is = here.key_at }

    value-is : {v : ℕ} → Ends b p v → v ≡ p + length (bytes here.key)
    value-is e = e.is here.key here.key_at

    value-at : {v : ℕ} → Ends b p v → Term b v here.value
    value-at e = rw (value-is e) here.value-at

    pub a_value : length b ≤ cap.input → {v : ℕ} → Ends b p v → OneTerm b v
    a_value l e = record { short = l; tree = here.value; is = value-at e }

    -- one entry on
    pub entry_on : {v p' m : ℕ} {e : Bool} {f : Option ℕ} → m ≡ n - 2 → Ends b p v → Judges b p k e → Ends b v p' → f ≡ cond e (Some v) before → Left b p' m k all f
    unfolding found
    entry_on {v} {p'} {m} {e} {f} a x y z w =
        let i = value-is x in
        let j : p' ≡ p + length (bytes here.key) + length (bytes here.value) = z.is here.value (value-at x) ∙ ap (λ (q : ℕ). q + length (bytes here.value)) i in
        let g : e ≡ equal k here.key = y.is here.key here.key_at in
        record {
          rest = here.others;
          are = rw (a, j) here.others_at;
          same =
              s.same
              ∙ ap (λ (ts : Forest). option_or (found k p ts) before) here.is
              ∙ later (found k _ here.others) (equal k here.key) _ before
              ∙ rw (w, j, g, i);
        }
