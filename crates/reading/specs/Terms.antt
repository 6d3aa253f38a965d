-- The definition of reading a term: document 01's layouts and steps, one clause for each row, over what is allowed. What stands behind a
-- child is read by `read`, which is `term` with one level of nesting less.
use Rattle.std.specs.Prelude.{ℕ, zero, suc, ◌+◌, ◌-◌, ◌*◌, List, Bool, false, cond, ◌||◌, ltb, leb, eqb, length, get_or}
use Rattle.fields.specs.Field.{number_at}
use Rattle.numbers.specs.Numbers as number
use Rattle.numbers.specs.Caps as cap
use Rattle.numbers.specs.Allowed.{Allowed}
use Rattle.rows.specs.Layout.{leaf_at}
use Rattle.reading.specs.declared.Kind.{Kind}
use Rattle.reading.specs.declared.Kind.TheVariants as kind
use Rattle.reading.specs.Reading.{State, Result, done, and_then, entered, reach, begin, refused, fields, pass, sized, counted}

-- n children, the first of which has the index i
unfoldable pub elems : (State → Result) → Kind → ℕ → ℕ → State → Result
elems read k i zero s = done s
elems read k i (suc n) s = and_then (entered k i (read s)) (elems read k (i + 1) n)

-- "key and value pairs": the value's segment has the key's offset
unfoldable pub pair : (State → Result) → State → Result
pair read s = and_then (entered kind.Key 0 (read s)) (λ t. entered kind.Value s.at (read t))

unfoldable pub pairs : (State → Result) → ℕ → State → Result
pairs read zero s = done s
pairs read (suc n) s = and_then (pair read s) (pairs read n)

-- "A required child is first read whole, then its kind is judged", by its place
unfoldable pub required : (State → Result) → (ℕ → Bool) → State → Result
required read fits s = and_then (read s) (λ t. cond (fits s.at) (done t) (refused number.Tag t))

-- "An atom child has tag 100, 118 or 119"; a child that was read and has tag 82 "counts as an atom child" (document 02, P3)
unfoldable pub is_atom : List ℕ → ℕ → Bool
is_atom b p = eqb (get_or b p 0) 100 || (eqb (get_or b p 0) 118 || (eqb (get_or b p 0) 119 || eqb (get_or b p 0) 82))

-- "an integer child 97 or 98", from 0 to `most`: a negative one spells 2 ^ 31 or more, above every `most` (`signed_natural`, fields/proofs/Laws.antt)
unfoldable pub is_natural : ℕ → List ℕ → ℕ → Bool
is_natural most b p =
    cond (eqb (get_or b p 0) 97) (leb (number_at 1 b (p + 1)) most)
    (cond (eqb (get_or b p 0) 98) (leb (number_at 4 b (p + 1)) most) false)

unfoldable pub is_pid : List ℕ → ℕ → Bool
is_pid b p = eqb (get_or b p 0) 88

module _ (read : State → Result) (b : List ℕ) where
  -- "arity of 1 / 4 bytes, children"
  unfoldable pub small_tuple : State → Result
  small_tuple = sized 1 b (elems read kind.Tuple 0)

  unfoldable pub large_tuple : State → Result
  large_tuple = counted cap.elements b (elems read kind.Tuple 0)

  -- "length of 4 bytes, children, then a tail child"
  unfoldable pub list : State → Result
  list = counted cap.elements b (λ n s. and_then (elems read kind.List 0 n s) (λ t. entered kind.Tail 0 (read t)))

  -- "arity of 4 bytes, key and value pairs"
  unfoldable pub map : State → Result
  map = counted cap.pairs b (pairs read)

  -- "atom child, id, serial, creation, 4 bytes each" (88); "atom child, id 8, creation 4" (120)
  unfoldable pub pid : State → Result
  pid s = and_then (required read (is_atom b) s) (pass b 12)

  -- "count of 2 bytes, atom child, creation 4, count ids of 4"
  unfoldable pub reference : State → Result
  reference = sized 2 b (λ n s. and_then (required read (is_atom b) s) (pass b (4 + 4 * n)))

  -- "atom child, atom child, integer child 0 to 255"
  unfoldable pub export : State → Result
  export s =
      and_then (required read (is_atom b) s) (λ t.
      and_then (required read (is_atom b) t) (required read (is_natural 255 b)))

  -- "size 4 (ignored), arity 1, 16 bytes, index 4, free count 4; atom child, two integer children of 0 or more, child with tag 88, then
  -- the free children"
  unfoldable pub captured : ℕ → State → Result
  captured n s =
      and_then (required read (is_atom b) s) (λ t.
      and_then (required read (is_natural 2147483647 b) t) (λ u.
      and_then (required read (is_natural 2147483647 b) u) (λ v.
      and_then (required read (is_pid b) v) (elems read kind.Free 0 n))))

  unfoldable pub function : State → Result
  function s = and_then (pass b 25 s) (sized 4 b captured)

-- what stands behind a tag
unfoldable pub body : Allowed → (State → Result) → List ℕ → ℕ → State → Result
body allow read b tag s =
    cond (eqb tag 104) (small_tuple read b s)
    (cond (eqb tag 105) (large_tuple read b s)
    (cond (eqb tag 108) (list read b s)
    (cond (eqb tag 116) (map read b s)
    (cond (eqb tag 88 || eqb tag 120) (pid read b s)
    (cond (eqb tag 90) (reference read b s)
    (cond (eqb tag 113) (export read b s)
    (cond (eqb tag 112) (function read b s)
    (fields (leaf_at allow b tag s.at) s))))))))

-- "no byte left, Eof; nesting over the limit, Deep; else the term is begun". `left` levels of nesting are left of `limit`
unfoldable pub term : Allowed → List ℕ → ℕ → ℕ → State → Result
term allow b limit zero s = cond (ltb s.at (length b)) (refused number.Deep (reach s)) (refused number.Eof (reach s))
term allow b limit (suc left) s =
    cond (ltb s.at (length b))
    (body allow (term allow b limit left) b (get_or b s.at 0) (begin (limit - left) s))
    (refused number.Eof (reach s))
