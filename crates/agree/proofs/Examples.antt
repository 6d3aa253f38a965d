-- Heads that the statement shuts out, each a wrong reading that looks right: the term stands behind byte 131, at 1. Then the own fields of
-- some trees, worked out. Assumes nothing.
use Prim.Native.Nat.{ℕ}
use native.Mathlib.Omega.{arith}
use mathlib.Core.Path.{◌≡◌, refl, ap}
use mathlib.Core.List.{List, [], ◌∷◌}
use Rattle.fields.specs.Be.{be, be_at}
use Rattle.fields.specs.Field.{holds, field_at}
use Rattle.numbers.specs.Numbers as number
use Rattle.reading.specs.Answer.{answer, starts, read_by}
use Rattle.reading.proofs.Examples.{behind}
use Rattle.std.specs.Prelude.{Ok, Err}
use Rattle.heads.specs.Told.{Told}
use Rattle.heads.specs.declared.Value.TheVariants as value
use Rattle.layouts.specs.Tree.{Tree, node, none, more, leaf, count}
use Rattle.agree.specs.Head.{run, has_atom, atom_at, length_bytes, fields_at, at_once, own_offset, head_then, head_of}
use Rattle.agree.specs.Inner.Fields.{atom_of, name_place, name_length, fields_by, fields_of}

-- no head says v
abbrev Wrong : List ℕ → Told → Type 0
Wrong b v = ¬ (v ≡ (head_of b 1).1)

-- a refusal whose extra is 0
abbrev no : ℕ → ℕ → Told
no n o = Err (n, o, 0)

offset_of : Told → ℕ
offset_of (Err (n, o, x)) = o
offset_of (Ok v) = 0

one-offset : {m n o p : ℕ} → no m o ≡ no n p → o ≡ p
unfolding offset_of
one-offset e = ap offset_of e

-- 131 88 119 0: the pid's id is missing. A head that answers Eof at the pid's own start
pub at_the_pid : Wrong (131 ∷ 88 ∷ 119 ∷ 0 ∷ []) (no number.Eof 1)
unfolding head_of head_then at_once own_offset has_atom atom_at read_by answer starts behind
at_the_pid e =
    let z : ◌≡◌ {A = ℕ} 1 2 = one-offset {m = number.Eof} {n = number.Eof} e in
    omega arith

-- 131 105 0 152 150 129: 10,000,001 elements. A head that answers a value
pub over_the_cap : Wrong (131 ∷ 105 ∷ 0 ∷ 152 ∷ 150 ∷ 129 ∷ []) (Ok (value.Tuple 10000001))
unfolding head_of head_then at_once own_offset has_atom atom_at read_by answer starts behind
over_the_cap e =
    let f : Ok (value.Tuple 10000001) ≡ no number.Size 1 = e in
    let z : ◌≡◌ {A = ℕ} 0 1 = cc in
    omega arith

-- 131 88 104 1 106: the pid's child is a tuple. A head that reads it whole first, and answers Tag at the last term reached inside it
pub whole-first : Wrong (131 ∷ 88 ∷ 104 ∷ 1 ∷ 106 ∷ []) (no number.Tag 4)
unfolding head_of head_then at_once own_offset has_atom atom_at read_by answer starts behind
whole-first e =
    let z : ◌≡◌ {A = ℕ} 4 2 = one-offset {m = number.Tag} {n = number.Tag} e in
    omega arith

-- 131 104 1 97: the tuple's element is cut off. A head that answers what reading is refused for inside a child
pub inside_a_child : Wrong (131 ∷ 104 ∷ 1 ∷ 97 ∷ []) (no number.Eof 3)
unfolding head_of head_then fields_at field_at holds be be_at at_once own_offset has_atom atom_at read_by answer starts behind
inside_a_child e =
    let f : no number.Eof 3 ≡ Ok (value.Tuple 1) = e in
    let z : ◌≡◌ {A = ℕ} 0 1 = cc in
    omega arith

-- a list of one element: its tail is not counted
pub one_element : fields_of (node 108 (0 ∷ 0 ∷ 0 ∷ 1 ∷ []) (more (leaf 97 (5 ∷ [])) (more (leaf 106 []) none)) []) 1 ≡ value.List 1
unfolding fields_of fields_by count
one_element = refl

-- the pid <a.1.2> of creation 3, and the reference of two ids whose node is "ab": the name's place is two bytes behind the atom's start
abbrev name : List ℕ → Tree
name l = leaf 119 l

pub a_pid : fields_of (node 88 [] (more (name (1 ∷ 97 ∷ [])) none) (0 ∷ 0 ∷ 0 ∷ 1 ∷ 0 ∷ 0 ∷ 0 ∷ 2 ∷ 0 ∷ 0 ∷ 0 ∷ 3 ∷ [])) 1 ≡ value.Pid (run 4 1) 1 2 3
unfolding fields_of fields_by atom_of name_place name_length length_bytes be_at be
a_pid = refl

pub a_reference : fields_of (node 90 (0 ∷ 2 ∷ []) (more (name (2 ∷ 97 ∷ 98 ∷ [])) none) (0 ∷ 0 ∷ 0 ∷ 3 ∷ 0 ∷ 0 ∷ 0 ∷ 7 ∷ 0 ∷ 0 ∷ 0 ∷ 8 ∷ [])) 1 ≡ value.Reference 2 (run 6 2) 3 12
unfolding fields_of fields_by atom_of name_place name_length length_bytes be_at be
a_reference = refl
