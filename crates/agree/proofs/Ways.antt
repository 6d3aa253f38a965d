-- The heads' definition by cases: one law for each way that a head can go. Assumes nothing.
use Prim.Native.Nat.{ℕ, ◌+◌, ◌≤◌, ◌<◌}
use native.Mathlib.Omega.{arith}
use mathlib.Core.Path.{◌≡◌, refl, sym, ◌∙◌}
use mathlib.Core.List.{List}
use mathlib.Core.Logic.{inl, inr}
use mathlib.Core.Bool.{Bool, true, false, ◌||◌}
use borrow.Author.Tests.{leb-true, leb-false, lt-ltb, le-ltb, eqb-true}
use lib.Dec.{eqb, leb}
use lib.ListN.{length, get_or}
use Rattle.std.specs.Prelude.{Option, Some, None, Result, Ok, Err}
use Rattle.numbers.specs.Allowed.{plain}
use Rattle.numbers.specs.Caps as cap
use Rattle.numbers.specs.declared.Refusal.{Refusal}
use Rattle.numbers.specs.declared.Refusal.TheVariants as refusal
use Rattle.fields.specs.Be.{be_at}
use Rattle.fields.specs.Field.{holds, field_at, number_at}
use Rattle.fields.proofs.Laws.{is-there, is_gone, field_is, field_eof, is_whole, at_there, then_is, then_eof}
use Rattle.rows.specs.Row as row
use Rattle.rows.specs.Layout as layout
use Rattle.rows.proofs.Laws.{name-to, counted_is, counted-no}
use Rattle.reading.specs.Reading.{State, fields}
use Rattle.reading.specs.Reading as reading
use Rattle.reading.specs.Terms.{is_atom, body}
use Rattle.heads.specs.Inner.Head as head
use Rattle.heads.specs.Inner.Head.{head_at}
use Rattle.heads.specs.declared.Value.{Value}
use Rattle.heads.specs.declared.Value.TheVariants as value
use Rattle.heads.specs.declared.Run.{Run}
use Rattle.heads.specs.declared.Refused.{Refused}
use Rattle.heads.proofs.Laws.{node-name, node-short}

-- bytes that are there, and bytes that are missing
module _ (k : ℕ) (b : List ℕ) (p : ℕ) where
  pub not_there : holds k b p ≡ false → length b < p + k
  unfolding holds
  not_there h = leb-false _ _ h

  pub field_there : p + k ≤ length b → field_at k b p ≡ Some (be_at k b p)
  field_there h = sym (field_is k b p (is-there k b p h) refl)

  pub eof_gone : field_at k b p ≡ None → length b < p + k
  eof_gone e = go (leb (p + k) (length b)) refl
    where
      go : (x : Bool) → leb (p + k) (length b) ≡ x → length b < p + k
      go true h = let f : Some (be_at k b p) ≡ None = sym (field_there (leb-true _ _ h)) ∙ e in absurd cc
      go false h = leb-false _ _ h

  -- a number that is there, one that is missing, and one behind which all is missing
  module _ (f : ℕ → Option Value) where
    pub sized-there : p + k ≤ length b → head.sized k b p f ≡ f (be_at k b p)
    sized-there h = then_is k b p _ _ (field_there h)

    pub sized_gone : length b < p + k → head.sized k b p f ≡ None
    sized_gone h = then_eof k b p _ _ (sym (field_eof k b p (is_gone k b p h)))

    pub sized-missing : ((n : ℕ) → f n ≡ None) → head.sized k b p f ≡ None
    sized-missing h = go (field_at k b p) refl
      where
        go : (x : Option ℕ) → field_at k b p ≡ x → head.sized k b p f ≡ None
        go (Some n) e = then_is k b p _ _ e ∙ h n
        go None e = then_eof k b p _ _ e

-- a count that is there, and one that is refused
module _ (most : ℕ) (b : List ℕ) (at : ℕ) (f : ℕ → Value) where
  pub counted-there : {n : ℕ} → row.count_at most b (at + 1) ≡ Ok n → head.counted most b at f ≡ Ok (f n)
  unfolding head.count
  counted-there e = rw (counted_is most b (at + 1) _ _ e)

  pub counted-refused : {r : Refusal} → row.count_at most b (at + 1) ≡ Err r → head.counted most b at f ≡ head.no r at
  unfolding head.count
  counted-refused e = rw (counted-no most b (at + 1) _ _ e)

-- a row without children
module _ (b : List ℕ) (tag at : ℕ) where
  pub leaf-to : {e : ℕ} → layout.row_at b tag (at + 1) ≡ Ok e → head.row_value b tag at ≡ Ok (head.fixed b tag (at + 1))
  unfolding head.row_value
  leaf-to h = rw h

  pub leaf-no : {r : Refusal} → layout.row_at b tag (at + 1) ≡ Err r → head.row_value b tag at ≡ head.no r at
  unfolding head.row_value
  leaf-no h = rw h

-- the atom of a pid, a reference or a port, and what stands behind it
module _ (f : Run → Result Value Refused) where
  pub named-atom : {v : Result Run Refused} {r : Run} → v ≡ Ok r → head.and_then v f ≡ f r
  named-atom e = rw e

  pub named-no : {v : Result Run Refused} {e : Refused} → v ≡ Err e → head.and_then v f ≡ Err e
  named-no e = rw e

module _ (b : List ℕ) (c : ℕ) where
  pub node_eof : length b ≤ c → head.node b c ≡ Err (head.refused refusal.Eof c)
  unfolding head.node
  node_eof h = rw (le-ltb c (length b) h)

  pub node-other : c < length b → is_atom b c ≡ false → head.node b c ≡ Err (head.refused refusal.Tag c)
  unfolding head.node is_atom
  node-other h = go (eqb (get_or b c 0) 100) (eqb (get_or b c 0) 118) (eqb (get_or b c 0) 119) (eqb (get_or b c 0) 82) refl refl refl
    where
      go : (x y z w : Bool) → eqb (get_or b c 0) 100 ≡ x → eqb (get_or b c 0) 118 ≡ y → eqb (get_or b c 0) 119 ≡ z → x || (y || (z || w)) ≡ false → head.node b c ≡ Err (head.refused refusal.Tag c)
      go true y z w e f g i = absurd (let q : ◌≡◌ {A = ℕ} 0 1 = cc in omega arith)
      go false true z w e f g i = absurd (let q : ◌≡◌ {A = ℕ} 0 1 = cc in omega arith)
      go false false true w e f g i = absurd (let q : ◌≡◌ {A = ℕ} 0 1 = cc in omega arith)
      go false false false w e f g i = rw (lt-ltb c (length b) h, e, f, g)

-- the name of an atom that starts at c: it ends where its row ends
pub record Name (b : List ℕ) (tag c e : ℕ) : Type 0 where
  pub name : Run
  pub is : head.fixed b tag (c + 1) ≡ value.Atom name
  pub node : c < length b → get_or b c 0 ≡ tag → head.node b c ≡ Ok name
  pub ends : name.at + name.len ≡ e

-- what is the same of the tags of an atom, 82 among them, which plain reading and heads both refuse
pub record AtomTag (b : List ℕ) (tag : ℕ) : Type 0 where
  pub body_is : (read : State → reading.Result) (s : State) → body plain read b tag s ≡ fields (layout.row_at b tag s.at) s
  pub name : (c e : ℕ) → layout.row_at b tag (c + 1) ≡ Ok e → Name b tag c e
  pub refused : (c : ℕ) {r : Refusal} → c < length b → get_or b c 0 ≡ tag → layout.row_at b tag (c + 1) ≡ Err r → head.node b c ≡ Err (head.refused r c)

-- a name behind a length of k bytes
module _ (b : List ℕ) (tag k c : ℕ) (row_is : layout.row_at b tag (c + 1) ≡ row.sized k b (row.name b) (c + 1))
    (node_is : c < length b → get_or b c 0 ≡ tag → head.node b c ≡ head.if_there (layout.row_at b tag (c + 1)) c (head.behind k b (c + 1))) where
  name-ends : {e : ℕ} → layout.row_at b tag (c + 1) ≡ Ok e → c + 1 + k + number_at k b (c + 1) ≡ e
  name-ends {e} h = go (field_at k b (c + 1)) refl (sym row_is ∙ h)
    where
      go : (x : Option ℕ) → field_at k b (c + 1) ≡ x → row.sized k b (row.name b) (c + 1) ≡ Ok e → c + 1 + k + number_at k b (c + 1) ≡ e
      go (Some n) f q =
          let w = is_whole k b (c + 1) f in
          let t = name-to b n (c + 1 + k) (sym (then_is k b (c + 1) _ (row.name b) f) ∙ q) in
          omega (arith, at_there k b (c + 1) w.0)
      go None f q = let g : Err refusal.Eof ≡ Ok e = sym (then_eof k b (c + 1) _ (row.name b) f) ∙ q in absurd cc

  name-is : head.fixed b tag (c + 1) ≡ value.Atom (head.behind k b (c + 1)) → {e : ℕ} → layout.row_at b tag (c + 1) ≡ Ok e → Name b tag c e
  name-is f h = record { name = head.behind k b (c + 1); is = f; node = λ l q. node_is l q ∙ rw h; ends = name-ends h }

  refused-is : {r : Refusal} → c < length b → get_or b c 0 ≡ tag → layout.row_at b tag (c + 1) ≡ Err r → head.node b c ≡ Err (head.refused r c)
  refused-is l q h = node_is l q ∙ rw h

module _ (b : List ℕ) where
  at_100 : (c : ℕ) → c < length b → get_or b c 0 ≡ 100 → head.node b c ≡ head.if_there (layout.row_at b 100 (c + 1)) c (head.behind 2 b (c + 1))
  at_100 c h e = node-name b c h (inl e) ∙ rw e

  at_118 : (c : ℕ) → c < length b → get_or b c 0 ≡ 118 → head.node b c ≡ head.if_there (layout.row_at b 118 (c + 1)) c (head.behind 2 b (c + 1))
  at_118 c h e = node-name b c h (inr e) ∙ rw e

  at_119 : (c : ℕ) → c < length b → get_or b c 0 ≡ 119 → head.node b c ≡ head.if_there (layout.row_at b 119 (c + 1)) c (head.behind 1 b (c + 1))
  at_119 c h e = node-short b c h e ∙ rw e

  tag_100 : AtomTag b 100
  unfolding body layout.leaf_at layout.row_at head.fixed
  tag_100 = record { body_is = λ read s. refl; name = λ c e. name-is b 100 2 c refl (at_100 c) refl; refused = λ c. refused-is b 100 2 c refl (at_100 c) }

  tag_118 : AtomTag b 118
  unfolding body layout.leaf_at layout.row_at head.fixed
  tag_118 = record { body_is = λ read s. refl; name = λ c e. name-is b 118 2 c refl (at_118 c) refl; refused = λ c. refused-is b 118 2 c refl (at_118 c) }

  tag_119 : AtomTag b 119
  unfolding body layout.leaf_at layout.row_at head.fixed
  tag_119 = record { body_is = λ read s. refl; name = λ c e. name-is b 119 1 c refl (at_119 c) refl; refused = λ c. refused-is b 119 1 c refl (at_119 c) }

  tag_82 : AtomTag b 82
  unfolding body layout.leaf_at layout.position_at layout.row_at head.node
  tag_82 = record {
    body_is = λ read s. refl;
    name = λ c e h. absurd cc;
    refused = λ c {r} l q h. let g : refusal.Tag ≡ r = cc in rw (lt-ltb c (length b) l, q, g);
  }

  pub atom_tag : (c : ℕ) → is_atom b c ≡ true → AtomTag b (get_or b c 0)
  unfolding is_atom
  atom_tag c = go (eqb tag 100) (eqb tag 118) (eqb tag 119) (eqb tag 82) refl refl refl refl
    where
      tag : ℕ
      tag = get_or b c 0

      go : (x y z w : Bool) → eqb tag 100 ≡ x → eqb tag 118 ≡ y → eqb tag 119 ≡ z → eqb tag 82 ≡ w → x || (y || (z || w)) ≡ true → AtomTag b tag
      go true y z w e f g i h = rw (eqb-true tag 100 e) tag_100
      go false true z w e f g i h = rw (eqb-true tag 118 f) tag_118
      go false false true w e f g i h = rw (eqb-true tag 119 g) tag_119
      go false false false true e f g i h = rw (eqb-true tag 82 i) tag_82
      go false false false false e f g i h = absurd (let z : ◌≡◌ {A = ℕ} 0 1 = cc in omega arith)

-- a head at any place
module _ (b : List ℕ) (at : ℕ) where
  pub head-long : cap.input < length b → head_at b at ≡ record { tag = 0; value = head.no refusal.Long 0 }
  unfolding head_at
  head-long h = rw (lt-ltb cap.input (length b) h)

  pub head-past : length b ≤ cap.input → length b ≤ at → head_at b at ≡ record { tag = 0; value = head.no refusal.Eof at }
  unfolding head_at
  head-past l h = rw (le-ltb cap.input (length b) l, le-ltb at (length b) h)

  pub head-there : length b ≤ cap.input → at < length b → head_at b at ≡ record { tag = get_or b at 0; value = head.term b (get_or b at 0) at }
  unfolding head_at
  head-there l h = rw (le-ltb cap.input (length b) l, lt-ltb at (length b) h)
