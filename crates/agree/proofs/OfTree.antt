-- The head of a term is its own fields: where the bytes of a laid tree stand, the head there is its tag and the fields that its tree tells.
-- Assumes nothing.
use Prim.Native.Nat.{ℕ, suc, ◌+◌, ◌-◌, ◌*◌, ◌≤◌}
use native.Mathlib.Nat.{div-eq_of_eq-mul_right}
use native.Mathlib.Omega.{arith}
use mathlib.Core.Path.{◌≡◌, refl, ap, sym, ◌∙◌}
use mathlib.Core.List.{List, [], ◌∷◌, ◌++◌}
use mathlib.Core.Bool.{true}
use lib.ListN.{length, get_or, take, drop, length-append, length-drop}
use lib.Seq.{take-length, drop-drop}
use Rattle.numbers.specs.Allowed.{plain}
use Rattle.fields.specs.Be.{be, be_at}
use Rattle.fields.specs.Field.{field_at, number_then, number_at}
use Rattle.fields.proofs.Laws.{number_of}
use Rattle.std.specs.Prelude.{Option, Some, Result, Ok}
use Rattle.numbers.specs.declared.Refusal.TheVariants as refusal
use Rattle.fields.proofs.Laws.{is-there, then_is}
use Rattle.numbers.specs.Caps as cap
use Rattle.rows.specs.Layout.{row_at}
use Rattle.rows.proofs.Laws.{count_in, plain-leaf}
use Rattle.rows.proofs.Ends.{agree_part}
use Rattle.reading.specs.Terms.{is_atom}
use Rattle.heads.specs.Inner.Head as head
use Rattle.heads.specs.Inner.Head.{head_at}
use Rattle.heads.specs.declared.Value.{Value}
use Rattle.heads.specs.declared.Value.TheVariants as value
use Rattle.heads.specs.declared.Run.{Run}
use Rattle.heads.specs.declared.Refused.{Refused}
use Rattle.layouts.specs.Tree.{Tree, Forest, node, none, more, leaf, tag_of, count, bytes, bytes_all, Stands}
use Rattle.layouts.specs.Layout as layout
use Rattle.layouts.specs.Layout.{Number, IsAtom, Leaf, Laid}
use Rattle.layouts.proofs.Stands.{left, right, byte, behind, spells}
use Rattle.accepts.proofs.Leaves.{leaf_complete}
use Rattle.agree.specs.Head.{length_bytes, run}
use Rattle.agree.specs.Inner.Fields.{big_of, atom_of, name_place, name_length, fields_by, fields_of}
use Rattle.agree.proofs.Ways.{field_there, counted-there, leaf-to, named-atom, atom_tag, head-there}

-- ---- what a run of bytes that stands at p tells

module _ (b : List ℕ) (p : ℕ) {l : List ℕ} (s : Stands b p l) where
  -- the k bytes from i on, at the place q
  run_in : (k i q : ℕ) → q ≡ p + i → i + k ≤ length l → take k (drop q b) ≡ take k (drop i l)
  run_in k i q e h = rw (e, ← drop-drop i p b) (agree_part {b = drop p b} {c = l} {e = length l} (record { same = s.same ∙ sym (take-length l) }) i k h)

  field_in : (k i q : ℕ) → q ≡ p + i → i + k ≤ length l → field_at k b q ≡ Some (be_at k l i)
  unfolding be_at
  field_in k i q e h = field_there k b q (omega (arith, s.inside)) ∙ ap (λ (r : List ℕ). Some (be r)) (run_in k i q e h)

  number_in : (k i q : ℕ) → q ≡ p + i → i + k ≤ length l → number_at k b q ≡ be_at k l i
  number_in k i q e h = number_of k b _ (field_in k i q e h)

  sized_in : (k i q : ℕ) (f : ℕ → Option Value) → q ≡ p + i → i + k ≤ length l → head.sized k b q f ≡ f (be_at k l i)
  sized_in k i q f e h = then_is k b q _ _ (field_in k i q e h)

module _ (b : List ℕ) (p : ℕ) where
  -- a length of k bytes, i bytes more, and as many as the length says
  length_in : {k m : ℕ} (i : ℕ) (n r : List ℕ) → Number k n m → length r ≡ m + i → Stands b p (n ++ r) → number_at k b p ≡ length (drop (k + i) (n ++ r))
  length_in {k} {m} i n r w e s = number_of _ b p (spells b p (left b p n r s) w) ∙ simp (length-drop, length-append) (omega (arith, w.wide))

  -- the rows without children
  fixed-is : {tag : ℕ} {l : List ℕ} → Leaf plain tag l → Stands b p l → head.fixed b tag p ≡ fields_by tag l none [] p
  unfolding head.fixed head.number_text head.double head.big fields_by big_of
  fixed-is (layout.small_integer w) s = rw (number_in b p s 1 0 p (omega arith) (omega arith))
  fixed-is (layout.integer w) s = rw (number_in b p s 4 0 p (omega arith) (omega arith))
  fixed-is (layout.number_text y w t) s = rw (ap (λ (k : ℕ). take k (drop p b)) (sym w) ∙ s.same)
  fixed-is (layout.double w) s = rw (number_in b p s 8 0 p (omega arith) (omega arith))
  fixed-is (layout.old_atom n name w u) s = rw (length_in 0 n name w (omega arith) s)
  fixed-is (layout.atom n name w u) s = rw (length_in 0 n name w (omega arith) s)
  fixed-is (layout.small_atom n name w u) s = rw (length_in 0 n name w (omega arith) s)
  fixed-is layout.nil s = refl
  fixed-is (layout.string n r w) s = rw (length_in 0 n r w (omega arith) s)
  fixed-is (layout.binary n r w c) s = rw (length_in 0 n r w (omega arith) s)
  fixed-is (layout.bit_string n k r w c t) s = rw (length_in 1 n (k ∷ r) w (omega arith) s, number_in b p s 1 4 (p + 4) refl (simp length-append (omega (arith, w.wide))))
  fixed-is (layout.small_big n x r w) s = rw (length_in 1 n (x ∷ r) w (omega arith) s, number_in b p s 1 1 (p + 1) refl (simp length-append (omega (arith, w.wide))))
  fixed-is (layout.large_big n x r w) s = rw (length_in 1 n (x ∷ r) w (omega arith) s, number_in b p s 1 4 (p + 4) refl (simp length-append (omega (arith, w.wide))))
  fixed-is (layout.position y h) s = absurd (let z : ◌≡◌ {A = ℕ} 0 1 = cc in omega arith)

-- their tags are no others'
leaf-term : {tag : ℕ} {l : List ℕ} (b : List ℕ) (at : ℕ) → Leaf plain tag l → head.term b tag at ≡ head.row_value b tag at
unfolding head.term
leaf-term b at (layout.small_integer w) = refl
leaf-term b at (layout.integer w) = refl
leaf-term b at (layout.number_text y w t) = refl
leaf-term b at (layout.double w) = refl
leaf-term b at (layout.old_atom n name w u) = refl
leaf-term b at (layout.atom n name w u) = refl
leaf-term b at (layout.small_atom n name w u) = refl
leaf-term b at layout.nil = refl
leaf-term b at (layout.string n r w) = refl
leaf-term b at (layout.binary n r w c) = refl
leaf-term b at (layout.bit_string n k r w c t) = refl
leaf-term b at (layout.small_big n x r w) = refl
leaf-term b at (layout.large_big n x r w) = refl
leaf-term b at (layout.position y h) = refl

-- the row that heads ask
row_complete : (b : List ℕ) (p : ℕ) {tag : ℕ} {l : List ℕ} → Leaf plain tag l → Stands b p l → row_at b tag p ≡ Ok (p + length l)
row_complete b p {tag} q s = sym (plain-leaf b tag p) ∙ leaf_complete plain b p q s

leaf-is : (b : List ℕ) (at : ℕ) {tag : ℕ} {l : List ℕ} → Leaf plain tag l → Stands b (at + 1) l → head.row_value b tag at ≡ Ok (fields_by tag l none [] (at + 1))
leaf-is b at {tag} q s = leaf-to b tag at (row_complete b (at + 1) q s) ∙ rw (fixed-is b (at + 1) q s)

-- ---- the atom of a pid, a reference and a port

module _ (b : List ℕ) where
  -- the head's node is the atom's name, which ends where the atom ends
  record Atom (c : ℕ) (x : Tree) : Type 0 where
    is : head.node b c ≡ Ok (run (name_place x c) (name_length x))
    ends : name_place x c + name_length x ≡ c + length (bytes x)

  is-atom : (c : ℕ) {tag : ℕ} → IsAtom tag → get_or b c 0 ≡ tag → is_atom b c ≡ true
  unfolding is_atom
  is-atom c layout.atom_100 e = rw e
  is-atom c layout.atom_118 e = rw e
  is-atom c layout.atom_119 e = rw e
  is-atom c layout.atom_82 e = rw e

  name-is : (c : ℕ) {tag : ℕ} {l : List ℕ} → Leaf plain tag l → IsAtom tag → fields_by tag l none [] (c + 1) ≡ value.Atom (run (name_place (leaf tag l) c) (name_length (leaf tag l)))
  unfolding fields_by name_place name_length length_bytes
  name-is c q layout.atom_100 = refl
  name-is c q layout.atom_118 = refl
  name-is c q layout.atom_119 = refl
  name-is c (layout.position y h) layout.atom_82 = absurd (let z : ◌≡◌ {A = ℕ} 0 1 = cc in omega arith)

  atom : (c : ℕ) {x : Tree} → Laid plain x → IsAtom (tag_of x) → Stands b c (bytes x) → Atom c x
  unfolding bytes bytes_all
  atom c (layout.row {tag} {l} q) i s =
      let x = leaf tag l in
      let e = byte b c tag (l ++ ([] ++ [])) s in
      let t = left b (c + 1) l [] (behind b c tag (l ++ ([] ++ [])) s) in
      let r = row_complete b (c + 1) q t in
      let f : head.fixed b tag (c + 1) ≡ value.Atom (run (name_place x c) (name_length x)) = fixed-is b (c + 1) q t ∙ name-is c q i in
      let n = (rw e at (atom_tag b c (is-atom c i e))).name c _ r in
      let g : n.name ≡ run (name_place x c) (name_length x) = cc (n.is, f) in
      record {
        is = n.node (omega (arith, s.inside)) e ∙ ap Ok g;
        ends = ap (λ (y : Run). y.at + y.len) (sym g) ∙ omega (arith, n.ends, length-append l []);
      }
  atom c other i s = elim i [ ]

  -- an atom that stands at c, and bytes behind it
  record Behind (c : ℕ) (x : Tree) (back : List ℕ) : Type 0 where
    atom : Atom c x
    stands : Stands b (name_place x c + name_length x) back

  after : (c : ℕ) {x : Tree} {back : List ℕ} → Laid plain x → IsAtom (tag_of x) → Stands b c (bytes_all (more x none) ++ back) → Behind c x back
  unfolding bytes_all
  after c {x} {back} a i s =
      let t = atom c a i (left b c (bytes x) [] (left b c (bytes x ++ []) back s)) in
      let e : name_place x c + name_length x ≡ c + length (bytes x ++ []) = omega (arith, t.ends, length-append (bytes x) []) in
      record { atom = t; stands = rw e (right b c (bytes x ++ []) back s) }

  module _ (c : ℕ) {x : Tree} {back : List ℕ} (t : Behind c x back) where
    abbrev q : ℕ
    q = name_place x c + name_length x

    abbrev name : Run
    name = run (name_place x c) (name_length x)

    pid-is : length back ≡ 12 → head.and_then (head.node b c) (λ r. head.or_eof (head.pid_numbers b r) c) ≡ Ok (value.Pid name (be_at 4 back 0) (be_at 4 back 4) (be_at 4 back 8))
    unfolding head.pid_numbers
    pid-is w =
        named-atom _ t.atom.is
        ∙ ap (λ (v : Option Value). head.or_eof v c)
        (sized_in b q t.stands 4 0 q _ (omega arith) (omega arith) ∙ sized_in b q t.stands 4 4 (q + 4) _ refl (omega arith) ∙ sized_in b q t.stands 4 8 (q + 8) _ refl (omega arith))

    port-is : length back ≡ 12 → head.and_then (head.node b c) (λ r. head.or_eof (head.port_numbers b r) c) ≡ Ok (value.Port name (be_at 8 back 0) (be_at 4 back 8))
    unfolding head.port_numbers
    port-is w =
        named-atom _ t.atom.is ∙ ap (λ (v : Option Value). head.or_eof v c) (sized_in b q t.stands 8 0 q _ (omega arith) (omega arith) ∙ sized_in b q t.stands 4 8 (q + 8) _ refl (omega arith))

    reference-is : (m : ℕ) → length back ≡ 4 + 4 * m → head.and_then (head.node b c) (λ r. head.or_eof (head.reference_numbers b m r) c) ≡ Ok (value.Reference m name (be_at 4 back 0) (q + 4))
    unfolding head.reference_numbers
    reference-is m w =
        let e : head.reference_numbers b m name ≡ Some (value.Reference m name (be_at 4 back 0) (q + 4)) =
        sized_in b q t.stands 4 0 q _ (omega arith) (omega arith) ∙ rw (is-there (m * 4) b (q + 4) (omega (arith, t.stands.inside))) in
        named-atom _ t.atom.is ∙ ap (λ (v : Option Value). head.or_eof v c) e

-- ---- every row

module _ (b : List ℕ) (at : ℕ) where
  -- a number that stands behind the tag, and a count within its cap
  sized : {k n : ℕ} {l : List ℕ} (v : ℕ → Result Value Refused) → Number k l n → Stands b (at + 1) l → number_then (head.no refusal.Eof at) k b (λ n q. v n) (at + 1) ≡ v n
  sized v w s = then_is _ b (at + 1) _ _ (spells b (at + 1) s w)

  counted : {n : ℕ} {l : List ℕ} (most : ℕ) (v : ℕ → Value) → Number 4 l n → n ≤ most → Stands b (at + 1) l → head.counted most b at v ≡ Ok (v n)
  counted most v w c s = counted-there most b at v (count_in most b (at + 1) (spells b (at + 1) s w) c)

  row_is : {tag : ℕ} {front : List ℕ} {kids : Forest} {back : List ℕ} → Laid plain (node tag front kids back) → Stands b (at + 1) (front ++ (bytes_all kids ++ back)) →
      head.term b tag at ≡ Ok (fields_by tag front kids back (at + 1))
  unfolding head.term head.small_tuple head.pid head.reference head.port head.function fields_by atom_of count
  row_is (layout.row {l = l} q) s = leaf-term b at q ∙ leaf-is b at q (left b (at + 1) l _ s)
  row_is (layout.small_tuple {n = n} w a) s = sized _ w (left b (at + 1) n _ s)
  row_is (layout.large_tuple {n = n} w c a) s = counted cap.elements _ w c (left b (at + 1) n _ s)
  row_is (layout.list {n = n} {m = m} {ts = ts} w c e a) s =
      let d : count ts - 1 ≡ m = omega arith in
      counted cap.elements _ w c (left b (at + 1) n _ s) ∙ rw d
  row_is (layout.map {n = n} w c e a) s = counted cap.pairs _ w c (left b (at + 1) n _ s) ∙ rw (div-eq_of_eq-mul_right (omega arith) e)
  row_is (layout.pid a i w) s = pid-is b (at + 1) (after b (at + 1) a i s) w
  row_is (layout.reference {n = n} {m = m} w a i e) s =
      let t = left b (at + 1) n _ s in
      let c : at + 1 + length n ≡ at + 3 = omega (arith, w.wide) in
      let d : be_at 2 n 0 ≡ m = cc (field_in b (at + 1) t 2 0 (at + 1) (omega arith) (omega (arith, w.wide)), spells b (at + 1) t w) in
      let g : at + 1 + 2 ≡ at + 3 = omega arith in
      sized _ w t ∙ reference-is b (at + 3) (after b (at + 3) a i (rw c at (right b (at + 1) n _ s))) m e ∙ rw (d, g)
  row_is (layout.port a i w) s = port-is b (at + 1) (after b (at + 1) a i s) w
  row_is (layout.export a i a2 i2 a3 i3) s = refl
  row_is (layout.function f n {ts = ts} e w a i a2 i2 a3 i3 a4 i4 a5) s =
      let t = left b (at + 1) (f ++ n) _ s in
      let l : length (f ++ n) ≡ 29 = omega (arith, length-append f n, w.wide) in
      let u : field_at 4 b (at + 1 + 25) ≡ Some (count ts) = rw e at (spells b (at + 1 + length f) (right b (at + 1) f n t) w) in
      let d : suc (suc (suc (suc (count ts)))) - 4 ≡ count ts = omega arith in
      ap (λ (v : Option Value). head.or_eof v at)
      (sized_in b (at + 1) t 4 0 (at + 1) _ (omega arith) (omega arith) ∙ sized_in b (at + 1) t 1 4 (at + 1 + 4) _ refl (omega arith)
      ∙ sized_in b (at + 1) t 4 21 (at + 1 + 21) _ refl (omega arith) ∙ then_is 4 b (at + 1 + 25) _ _ u) ∙ rw d

pub head_of_tree : (b : List ℕ) (at : ℕ) (t : Tree) → length b ≤ cap.input → Laid plain t → Stands b at (bytes t) → head_at b at ≡ record { tag = tag_of t; value = Ok (fields_of t at) }
unfolding bytes fields_of
head_of_tree b at (node tag front kids back) l a s =
    let r = front ++ (bytes_all kids ++ back) in
    head-there b at l (omega (arith, s.inside)) ∙ rw (byte b at tag r s, row_is b at a (behind b at tag r s))
