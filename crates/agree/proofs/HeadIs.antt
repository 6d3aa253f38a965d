-- A head that is no refusal is the fields at its place: one law for each way that the heads' definition goes, then every tag; and so a head is
-- what reading and the fields say that it is. Assumes nothing.
use Prim.Native.Nat.{ℕ, ◌+◌, ◌*◌, ◌≤◌}
use native.Mathlib.Omega.{arith}
use mathlib.Core.Path.{◌≡◌, refl, ap, sym, ◌∙◌}
use mathlib.Core.List.{List}
use mathlib.Core.Bool.{Bool, true, false, cond, not, ◌&&◌, ◌||◌}
use borrow.Author.Tests.{ltb-true, ltb-false, eqb-true}
use lib.Dec.{eqb, ltb}
use lib.ListN.{length, get_or, take, drop, get_or-eq_default}
use Rattle.std.specs.Prelude.{Option, Some, None, Result, Ok, Err}
use Rattle.numbers.specs.Allowed.{plain}
use Rattle.numbers.specs.Caps as cap
use Rattle.numbers.specs.Numbers as number
use Rattle.numbers.specs.declared.Refusal.{Refusal}
use Rattle.numbers.specs.declared.Refusal.TheVariants as refusal
use Rattle.numbers.proofs.Laws.{by_test, none_of, arm}
use Rattle.fields.specs.Field.{holds, field_at, number_then, number_at}
use Rattle.fields.proofs.Laws.{number_of, then_is, then_eof}
use Rattle.rows.specs.Row as row
use Rattle.rows.specs.Row.{Row}
use Rattle.rows.specs.Layout as layout
use Rattle.rows.proofs.Laws.{count-is}
use Rattle.reading.specs.Told as reading
use Rattle.reading.specs.Terms.{is_atom}
use Rattle.reading.specs.Answer.{read_at}
use Rattle.reading.proofs.Answers.{starts-long, read_no}
use Rattle.heads.specs.declared.Value.{Value}
use Rattle.heads.specs.declared.Value.TheVariants as value
use Rattle.heads.specs.declared.Run.{Run}
use Rattle.heads.specs.declared.Refused.{Refused}
use Rattle.heads.specs.declared.Headed.{Headed}
use Rattle.heads.specs.Told.{Told, told, told_head}
use Rattle.heads.specs.Inner.Run.{run_of, placed, part_of}
use Rattle.heads.specs.Inner.Head as head
use Rattle.heads.specs.Inner.Head.{head_at, part_at}
use Rattle.agree.specs.Head.{atom_at, length_bytes, name_place, name_length, run, fields_at, at_once, own_offset, head_then, head_of, run_by, run_at, part}
use Rattle.agree.specs.Inner.Refusals.{Said, a_value, a_refusal, said_by_head, said_by_reading, by_tag, as_reading}
use Rattle.agree.proofs.Ways.{counted-there, counted-refused, leaf-to, leaf-no, named-atom, named-no, node_eof, node-other, AtomTag, atom_tag, head-long, head-past, head-there}
use Rattle.agree.proofs.AsReading.{heads_as_reading}

-- a refusal, or else this value
unfoldable valued : Value → Said → Told
valued w a_value = Ok w
valued w (a_refusal n o x) = Err (n, o, x)

-- what a head says is a refusal, or else w
record Fields (w : Value) (v : Result Value Refused) : Type 0 where
  fields : told v ≡ valued w (said_by_head v)

-- the same of the numbers that it makes, where they are there
record Made (w : Value) (v : Option Value) : Type 0 where
  made : (x : Value) → v ≡ Some x → x ≡ w

-- the name of an atom
module _ (b : List ℕ) where
  name-is : (c : ℕ) {d : ℕ} {r : Run} → is_atom b c ≡ true → layout.row_at b (get_or b c 0) (c + 1) ≡ Ok d → head.fixed b (get_or b c 0) (c + 1) ≡ value.Atom r → r ≡ run (name_place (get_or b c 0) c) (name_length b (get_or b c 0) c)
  unfolding is_atom layout.row_at head.fixed name_place name_length length_bytes
  name-is c {d} {r} = go (get_or b c 0) (eqb (get_or b c 0) 100) (eqb (get_or b c 0) 118) (eqb (get_or b c 0) 119) (eqb (get_or b c 0) 82) refl refl refl refl
    where
      go : (tag : ℕ) (x y z w : Bool) → eqb tag 100 ≡ x → eqb tag 118 ≡ y → eqb tag 119 ≡ z → eqb tag 82 ≡ w → x || (y || (z || w)) ≡ true → layout.row_at b tag (c + 1) ≡ Ok d →
          head.fixed b tag (c + 1) ≡ value.Atom r → r ≡ run (c + 1 + cond (eqb tag 119) 1 2) (number_at (cond (eqb tag 119) 1 2) b (c + 1))
      go tag true y z w e f g i h k l = let q : value.Atom (head.behind 2 b (c + 1)) ≡ value.Atom r = rw (eqb-true tag 100 e) at l in rw (eqb-true tag 100 e) cc
      go tag false true z w e f g i h k l = let q : value.Atom (head.behind 2 b (c + 1)) ≡ value.Atom r = rw (eqb-true tag 118 f) at l in rw (eqb-true tag 118 f) cc
      go tag false false true w e f g i h k l = let q : value.Atom (head.behind 1 b (c + 1)) ≡ value.Atom r = rw (eqb-true tag 119 g) at l in rw (eqb-true tag 119 g) cc
      go tag false false false true e f g i h k l = let j : Err refusal.Tag ≡ Ok d = rw (eqb-true tag 82 i) at k in absurd cc
      go tag false false false false e f g i h k l = absurd (let z : ◌≡◌ {A = ℕ} 0 1 = cc in omega arith)

module _ {w : Value} where
  by : {v u : Result Value Refused} → v ≡ u → Fields w u → Fields w v
  by e h = rw e h

  is : {v : Value} → v ≡ w → Fields w (Ok v)
  unfolding valued
  is f = record { fields = rw f }

  no : (r : Refusal) (o : ℕ) → Fields w (head.no r o)
  unfolding valued
  no r o = record { fields = refl }

  -- numbers, all of which have to be there
  alike : {v u : Option Value} → v ≡ u → Made w u → Made w v
  alike e h = rw e h

  some : {v : Value} → v ≡ w → Made w (Some v)
  some {v} f = record { made = λ x e. let g : v ≡ x = cc in sym g ∙ f }

  made-none : Made w None
  made-none = record { made = λ x e. absurd cc }

  or_eof : {v : Option Value} (o : ℕ) → Made w v → Fields w (head.or_eof v o)
  or_eof {v} o h = go v h.made
    where
      go : (v : Option Value) → ((x : Value) → v ≡ Some x → x ≡ w) → Fields w (head.or_eof v o)
      go (Some x) k = is (k x refl)
      go None k = no refusal.Eof o

  held : (t : Bool) {v : Option Value} → Made w v → Made w (cond t v None)
  held true h = h
  held false h = made-none

  module _ (b : List ℕ) where
    -- a number, a count, a row without children
    sized : (k p : ℕ) (f : ℕ → Option Value) → Made w (f (number_at k b p)) → Made w (head.sized k b p f)
    sized k p f h = go (field_at k b p) refl
      where
        go : (x : Option ℕ) → field_at k b p ≡ x → Made w (head.sized k b p f)
        go (Some n) e = alike (then_is k b p _ _ e ∙ ap f (sym (number_of k b p e))) h
        go None e = alike (then_eof k b p _ _ e) made-none

    numbered : (k o p : ℕ) (f : ℕ → Result Value Refused) → Fields w (f (number_at k b p)) → Fields w (number_then (head.no refusal.Eof o) k b (λ n q. f n) p)
    numbered k o p f h = go (field_at k b p) refl
      where
        go : (x : Option ℕ) → field_at k b p ≡ x → Fields w (number_then (head.no refusal.Eof o) k b (λ n q. f n) p)
        go (Some n) e = by (then_is k b p _ _ e ∙ ap f (sym (number_of k b p e))) h
        go None e = by (then_eof k b p _ _ e) (no refusal.Eof o)

    counted : (most at : ℕ) (f : ℕ → Value) → f (number_at 4 b (at + 1)) ≡ w → Fields w (head.counted most b at f)
    counted most at f h = go (row.count_at most b (at + 1)) refl
      where
        go : (x : Row) → row.count_at most b (at + 1) ≡ x → Fields w (head.counted most b at f)
        go (Ok n) e = by (counted-there most b at f e) (is (ap f (sym (number_of 4 b (at + 1) (count-is most b (at + 1) e).0)) ∙ h))
        go (Err r) e = by (counted-refused most b at f e) (no r at)

    leaf : (tag at : ℕ) → head.fixed b tag (at + 1) ≡ w → Fields w (head.row_value b tag at)
    leaf tag at h = go (layout.row_at b tag (at + 1)) refl
      where
        go : (r : Row) → layout.row_at b tag (at + 1) ≡ r → Fields w (head.row_value b tag at)
        go (Ok e) k = by (leaf-to b tag at k) (is h)
        go (Err r) k = by (leaf-no b tag at k) (no r at)

    -- an atom child, and what stands behind it
    named : (c : ℕ) (f : Run → Option Value) → Made w (f (run (name_place (get_or b c 0) c) (name_length b (get_or b c 0) c))) → Fields w (head.and_then (head.node b c) (λ r. head.or_eof (f r) c))
    named c f h = go (ltb c (length b)) (is_atom b c) refl refl
      where
        x : ℕ
        x = get_or b c 0

        go : (y z : Bool) → ltb c (length b) ≡ y → is_atom b c ≡ z → Fields w (head.and_then (head.node b c) (λ r. head.or_eof (f r) c))
        go false z e i = by (named-no _ (node_eof b c (ltb-false c (length b) e))) (no refusal.Eof c)
        go true false e i = by (named-no _ (node-other b c (ltb-true c (length b) e) i)) (no refusal.Tag c)
        go true true e i = at_leaf (layout.row_at b x (c + 1)) refl
          where
            one : AtomTag b x
            one = atom_tag b c i

            at_leaf : (r : Row) → layout.row_at b x (c + 1) ≡ r → Fields w (head.and_then (head.node b c) (λ r. head.or_eof (f r) c))
            at_leaf (Ok d) k =
                let n = one.name c d k in
                by (named-atom _ (n.node (ltb-true c (length b) e) refl)) (or_eof c (rw (name-is b c i k n.is) h))
            at_leaf (Err r) k = by (named-no _ (one.refused c (ltb-true c (length b) e) refl k)) (no r c)

-- every tag
module _ (b : List ℕ) (at : ℕ) where
  abbrev Tagged : ℕ → Type 0
  Tagged tag = Fields (fields_at b tag at) (head.term b tag at)

  small_integer : Tagged 97
  unfolding head.term head.fixed fields_at
  small_integer = leaf b 97 at refl

  integer : Tagged 98
  unfolding head.term head.fixed fields_at
  integer = leaf b 98 at refl

  number_text : Tagged 99
  unfolding head.term head.fixed head.number_text fields_at
  number_text = leaf b 99 at refl

  double : Tagged 70
  unfolding head.term head.fixed head.double fields_at
  double = leaf b 70 at refl

  old_atom : Tagged 100
  unfolding head.term head.fixed name_place name_length length_bytes fields_at
  old_atom = leaf b 100 at refl

  atom : Tagged 118
  unfolding head.term head.fixed name_place name_length length_bytes fields_at
  atom = leaf b 118 at refl

  small_atom : Tagged 119
  unfolding head.term head.fixed name_place name_length length_bytes fields_at
  small_atom = leaf b 119 at refl

  nil : Tagged 106
  unfolding head.term head.fixed fields_at
  nil = leaf b 106 at refl

  string : Tagged 107
  unfolding head.term head.fixed fields_at
  string = leaf b 107 at refl

  binary : Tagged 109
  unfolding head.term head.fixed fields_at
  binary = leaf b 109 at refl

  bit_string : Tagged 77
  unfolding head.term head.fixed fields_at
  bit_string = leaf b 77 at refl

  small_big : Tagged 110
  unfolding head.term head.fixed head.big fields_at
  small_big = let e : at + 1 + 1 + 1 ≡ at + 1 + 2 = omega arith in leaf b 110 at (rw e)

  large_big : Tagged 111
  unfolding head.term head.fixed head.big fields_at
  large_big = let e : at + 1 + 4 + 1 ≡ at + 1 + 5 = omega arith in leaf b 111 at (rw e)

  small_tuple : Tagged 104
  unfolding head.term head.small_tuple fields_at
  small_tuple = numbered b 1 at (at + 1) _ (is refl)

  large_tuple : Tagged 105
  unfolding head.term fields_at
  large_tuple = counted b cap.elements at value.Tuple refl

  list : Tagged 108
  unfolding head.term fields_at
  list = counted b cap.elements at value.List refl

  map : Tagged 116
  unfolding head.term fields_at
  map = counted b cap.pairs at value.Map refl

  -- behind an atom's name
  abbrev behind : ℕ → ℕ
  behind c = name_place (get_or b c 0) c + name_length b (get_or b c 0) c

  pid : Tagged 88
  unfolding head.term head.pid head.pid_numbers atom_at fields_at
  pid =
      let q = behind (at + 1) in
      named b (at + 1) (head.pid_numbers b) (sized b 4 q _ (sized b 4 (q + 4) _ (sized b 4 (q + 8) _ (some refl))))

  port : Tagged 120
  unfolding head.term head.port head.port_numbers atom_at fields_at
  port =
      let q = behind (at + 1) in
      named b (at + 1) (head.port_numbers b) (sized b 8 q _ (sized b 4 (q + 8) _ (some refl)))

  reference : Tagged 90
  unfolding head.term head.reference head.reference_numbers atom_at fields_at
  reference =
      let q = behind (at + 3) in
      let k = number_at 2 b (at + 1) in
      numbered b 2 at (at + 1) _ (named b (at + 3) (head.reference_numbers b k) (sized b 4 q _ (held (holds (k * 4) b (q + 4)) (some refl))))

  export : Tagged 113
  unfolding head.term fields_at
  export = is refl

  function : Tagged 112
  unfolding head.term head.function fields_at
  function =
      let p = at + 1 in
      or_eof at (sized b 4 p _ (sized b 1 (p + 4) _ (sized b 4 (p + 21) _ (sized b 4 (p + 25) _ (some refl)))))

  -- no other tag has a row
  by_tag_lem : (tag : ℕ) → Tagged tag
  unfolding head.term layout.row_at
  by_tag_lem tag =
      arm Tagged tag 97 small_integer
      (arm Tagged tag 98 integer
      (arm Tagged tag 99 number_text
      (arm Tagged tag 70 double
      (arm Tagged tag 100 old_atom
      (arm Tagged tag 118 atom
      (arm Tagged tag 119 small_atom
      (arm Tagged tag 104 small_tuple
      (arm Tagged tag 105 large_tuple
      (arm Tagged tag 106 nil
      (arm Tagged tag 107 string
      (arm Tagged tag 108 list
      (arm Tagged tag 109 binary
      (arm Tagged tag 77 bit_string
      (arm Tagged tag 110 small_big
      (arm Tagged tag 111 large_big
      (arm Tagged tag 116 map
      (arm Tagged tag 88 pid
      (arm Tagged tag 90 reference
      (arm Tagged tag 120 port
      (arm Tagged tag 113 export
      (arm Tagged tag 112 function
      (λ n. by (search none_of) (by (leaf-no b tag at (search none_of)) (no refusal.Tag at)))))))))))))))))))))))) (tt {0})

-- ---- a head is what is said of it

-- a test whose ways are both turned into values
module _ (w : Value) where
  turned : (t : Bool) (x y : Said) → valued w (cond t x y) ≡ cond t (valued w x) (valued w y)
  turned true x y = refl
  turned false x y = refl

  refused_or : (z o : Bool) (n p x : ℕ) → valued w (cond o (cond z a_value (a_refusal n p x)) a_value) ≡ cond (not z && o) (Err (n, p, x)) (Ok w)
  unfolding valued
  refused_or true true n p x = refl
  refused_or true false n p x = refl
  refused_or false true n p x = refl
  refused_or false false n p x = refl

-- where reading answers a
abbrev told_by : List ℕ → ℕ → reading.Told → Told
told_by b at a = head_then (λ n o x. Err (n, o, x)) (λ tag. Ok (fields_at b tag at)) b at a

abbrev head_by : List ℕ → ℕ → reading.Told → ℕ × Told
head_by b at a = (cond (ltb cap.input (length b)) 0 (get_or b at 0), told_by b at a)

module _ (b : List ℕ) (at : ℕ) where
  abbrev tag : ℕ
  tag = get_or b at 0

  -- an input that isn't too long
  abbrev value_by : reading.Told → Told
  value_by a = cond (at_once b tag at) (Err (number.Tag, atom_at tag at, 0)) (cond (not (eqb a.number 0) && own_offset tag at a.offset) (Err (a.number, a.offset, a.extra)) (Ok (fields_at b tag at)))

  by_tag_is : (a : reading.Told) → valued (fields_at b tag at) (by_tag b tag at a) ≡ value_by a
  unfolding valued by_tag said_by_reading
  by_tag_is a = turned _ (at_once b tag at) _ _ ∙ ap (cond (at_once b tag at) (Err (number.Tag, atom_at tag at, 0))) (refused_or _ (eqb a.number 0) (own_offset tag at a.offset) _ _ _)

  module _ (limit : ℕ) (few : 2 ≤ limit) (most : limit ≤ cap.nesting) where
    abbrev a : reading.Told
    a = read_at b at limit

    value-is : ltb cap.input (length b) ≡ false → {h : Headed} → head_at b at ≡ h → Fields (fields_at b tag at) h.value → told h.value ≡ value_by a
    unfolding as_reading
    value-is e {h} i f =
        let s : said_by_head h.value ≡ by_tag b tag at a = ap (λ (x : Headed). said_by_head x.value) (sym i) ∙ heads_as_reading b at limit few most ∙ rw e in
        f.fields ∙ ap (valued (fields_at b tag at)) s ∙ by_tag_is a

    pub head_by_lem : told_head (head_at b at) ≡ head_by b at a
    unfolding head_then
    head_by_lem = go (ltb cap.input (length b)) (ltb at (length b)) refl refl
      where
        go : (x y : Bool) → ltb cap.input (length b) ≡ x → ltb at (length b) ≡ y → told_head (head_at b at) ≡ head_by b at a
        go true y e f =
            let l = ltb-true cap.input (length b) e in
            rw (read_no plain b at limit refusal.Long (starts-long limit (length b) (λ z. omega arith) most l), head-long b at l, e)
        go false true e f =
            let h = head-there b at (ltb-false cap.input (length b) e) (ltb-true at (length b) f) in
            ap told_head h ∙ ap (λ (v : Told). (tag, v)) (value-is e h (by_tag_lem b at tag)) ∙ rw e
        go false false e f =
            let h = head-past b at (ltb-false cap.input (length b) e) (ltb-false at (length b) f) in
            let z : 0 ≡ tag = sym (get_or-eq_default b 0 {n = at} (ltb-false at (length b) f)) in
            ap told_head h ∙ ap (λ (v : Told). (0, v)) (value-is e h (no refusal.Eof at)) ∙ ap (λ (t : ℕ). (t, value_by a)) z ∙ rw e

pub head-is : (b : List ℕ) (at : ℕ) → told_head (head_at b at) ≡ head_of b at
unfolding head_of
head-is b at = head_by_lem b at cap.nesting (omega arith) (omega arith)

-- ---- the second call

module _ (b : List ℕ) (at : ℕ) where
  -- the run that a head names, by what it tells
  named-at : Told → ℕ × ℕ
  named-at (Ok v) = placed (run_of (Ok v))
  named-at (Err e) = (0, 0)

  told_named : (v : Result Value Refused) → placed (run_of v) ≡ named-at (told v)
  unfolding named-at
  told_named (Ok v) = refl
  told_named (Err e) = refl

  abbrev None_named : Value → Type 0
  None_named v = placed (run_of (Ok v)) ≡ (0, 0)

  -- what a row's fields name, by the tag
  row_run : (tag : ℕ) → placed (run_of (Ok (fields_at b tag at))) ≡ run_by b at tag
  unfolding fields_at run_by
  row_run tag = go (eqb tag 100) (eqb tag 118) (eqb tag 119) (eqb tag 109) refl refl refl refl
    where
      go : (x y z w : Bool) → eqb tag 100 ≡ x → eqb tag 118 ≡ y → eqb tag 119 ≡ z → eqb tag 109 ≡ w → placed (run_of (Ok (fields_at b tag at))) ≡ run_by b at tag
      go true y z w e f g h = rw (eqb-true tag 100 e)
      go false true z w e f g h = rw (eqb-true tag 118 f)
      go false false true w e f g h = rw (eqb-true tag 119 g)
      go false false false true e f g h = rw (eqb-true tag 109 h)
      go false false false false e f g h =
          rw (e, f, g, h)
          (by_test None_named (eqb tag 97) _ _ refl (by_test None_named (eqb tag 98) _ _ refl (by_test None_named (eqb tag 99) _ _ refl (by_test None_named (eqb tag 70) _ _ refl
          (by_test None_named (eqb tag 104) _ _ refl (by_test None_named (eqb tag 105) _ _ refl (by_test None_named (eqb tag 106) _ _ refl (by_test None_named (eqb tag 107) _ _ refl
          (by_test None_named (eqb tag 108) _ _ refl (by_test None_named (eqb tag 77) _ _ refl (by_test None_named (eqb tag 110) _ _ refl (by_test None_named (eqb tag 111) _ _ refl
          (by_test None_named (eqb tag 116) _ _ refl (by_test None_named (eqb tag 88) _ _ refl (by_test None_named (eqb tag 90) _ _ refl (by_test None_named (eqb tag 120) _ _ refl
          (by_test None_named (eqb tag 113) _ _ refl refl)))))))))))))))))

  -- a test whose ways both name a run
  which : (t : Bool) (v w : Told) → named-at (cond t v w) ≡ cond t (named-at v) (named-at w)
  which true v w = refl
  which false v w = refl

  pub run_is : placed (run_of (head_at b at).value) ≡ run_at b at
  unfolding head_of run_at head_then named-at
  run_is = told_named (head_at b at).value ∙ ap (λ (h : ℕ × Told). named-at h.1) (head-is b at) ∙ rw (which, which, which, row_run (get_or b at 0))

pub part-is : (b : List ℕ) (at : ℕ) → part_at b at ≡ part b at
unfolding part_at part_of part
part-is b at = ap (λ (r : ℕ × ℕ). take r.1 (drop r.0 b)) (run_is b at)
