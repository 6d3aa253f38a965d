-- Where the children of a term that is known to be one lie: what its first bytes say of it.
use Rattle.std.specs.Prelude.{ℕ, ◌+◌, ◌*◌, ◌≡◌, ◌<◌, ◌≤◌, List, Bool, cond, ◌||◌, ◌&&◌, eqb, ltb, leb, length, get_or, Option, Some, None}
use Rattle.numbers.specs.Caps as cap
use Rattle.fields.specs.Field.{number_at}
use Rattle.layouts.specs.declared.Shape.{Shape}
use Rattle.layouts.specs.Tree.{Tree, node, count}

-- a term without children, that ends at e; one with n children from p on, and m bytes behind them
abbrev pub ends : ℕ → Shape
ends e = record { from = e; kids = 0; back = 0 }

abbrev pub inner : ℕ → ℕ → ℕ → Shape
inner p n m = record { from = p; kids = n; back = m }

-- the shape of the term at p, by its tag
unfoldable pub shape_by : List ℕ → ℕ → ℕ → Shape
shape_by b p tag =
    cond (eqb tag 97) (ends (p + 2))
    (cond (eqb tag 98) (ends (p + 5))
    (cond (eqb tag 99) (ends (p + 32))
    (cond (eqb tag 70) (ends (p + 9))
    (cond (eqb tag 100 || eqb tag 107 || eqb tag 118) (ends (p + 3 + number_at 2 b (p + 1)))
    (cond (eqb tag 119) (ends (p + 2 + number_at 1 b (p + 1)))
    (cond (eqb tag 106) (ends (p + 1))
    (cond (eqb tag 109) (ends (p + 5 + number_at 4 b (p + 1)))
    (cond (eqb tag 77 || eqb tag 111) (ends (p + 6 + number_at 4 b (p + 1)))
    (cond (eqb tag 110) (ends (p + 3 + number_at 1 b (p + 1)))
    (cond (eqb tag 104) (inner (p + 2) (number_at 1 b (p + 1)) 0)
    (cond (eqb tag 105) (inner (p + 5) (number_at 4 b (p + 1)) 0)
    (cond (eqb tag 108) (inner (p + 5) (number_at 4 b (p + 1) + 1) 0)
    (cond (eqb tag 116) (inner (p + 5) (2 * number_at 4 b (p + 1)) 0)
    (cond (eqb tag 88 || eqb tag 120) (inner (p + 1) 1 12)
    (cond (eqb tag 90) (inner (p + 3) 1 (4 + 4 * number_at 2 b (p + 1)))
    (cond (eqb tag 113) (inner (p + 1) 3 0)
    (cond (eqb tag 112) (inner (p + 30) (number_at 4 b (p + 26) + 4) 0)
    (cond (eqb tag 82) (ends (p + 2))
    (ends p)))))))))))))))))))

-- whether a place is within an input that reading takes, and a tag that stands at such a place
unfoldable pub inside : List ℕ → ℕ → Bool
inside b p = ltb p (length b) && leb (length b) cap.input

pub record IsTagAt (b : List ℕ) (p tag : ℕ) : Type 0 where
  pub within : p < length b
  pub short : length b ≤ cap.input
  pub is : tag ≡ get_or b p 0

-- the shape of the term at p. Past the end, and in an input longer than reading takes, it says nothing of use: so no sum is too large
unfoldable pub shape_at : List ℕ → ℕ → Shape
shape_at b p = cond (inside b p) (shape_by b p (get_or b p 0)) (ends p)

-- what stands between a tree's tag and its children
abbrev pub front_of : Tree → List ℕ
front_of (node tag front kids back) = front

-- the shape of a tree that stands at p
abbrev pub shape_of : Tree → ℕ → Shape
shape_of (node tag front kids back) p = inner (p + 1 + length front) (count kids) (length back)

-- the end of one of the commonest terms without children, by its tag; none says nothing
unfoldable pub short_by : List ℕ → ℕ → ℕ → Option ℕ
short_by b p tag =
    cond (eqb tag 97) (Some (p + 2))
    (cond (eqb tag 98) (Some (p + 5))
    (cond (eqb tag 70) (Some (p + 9))
    (cond (eqb tag 106) (Some (p + 1))
    (cond (eqb tag 119) (Some (p + 2 + number_at 1 b (p + 1)))
    (cond (eqb tag 109) (Some (p + 5 + number_at 4 b (p + 1)))
    (cond (eqb tag 82) (Some (p + 2))
    None))))))

unfoldable pub short_at : List ℕ → ℕ → Option ℕ
short_at b p = cond (inside b p) (short_by b p (get_or b p 0)) None
