-- A term as it lies in its bytes, taken apart: its tag, what stands between the tag and the children, the children, and what stands
-- behind them. Any bytes and any children make one; which of them are terms is said in Layout.antt.
use Rattle.std.specs.Prelude.{ℕ, zero, suc, ◌+◌, ◌≤◌, max, ◌≡◌, List, [], ◌∷◌, ◌++◌, length, take, drop}

mutual
  pub data Tree : Type 0 where
    node : (tag : ℕ) (front : List ℕ) (kids : Forest) (back : List ℕ) → Tree

  pub data Forest : Type 0 where
    none : Forest
    more : Tree → Forest → Forest

abbrev pub tag_of : Tree → ℕ
tag_of (node tag front kids back) = tag

-- a term without children
abbrev pub leaf : ℕ → List ℕ → Tree
leaf tag front = node tag front none []

-- how many trees stand side by side
unfoldable pub count : Forest → ℕ
count none = zero
count (more t ts) = suc (count ts)

unfoldable mutual
  -- all its bytes, in order
  pub bytes : Tree → List ℕ
  bytes (node tag front kids back) = tag ∷ (front ++ (bytes_all kids ++ back))

  pub bytes_all : Forest → List ℕ
  bytes_all none = []
  bytes_all (more t ts) = bytes t ++ bytes_all ts

unfoldable mutual
  -- the terms in it, itself among them
  pub size : Tree → ℕ
  size (node tag front kids back) = suc (sizes kids)

  pub sizes : Forest → ℕ
  sizes none = zero
  sizes (more t ts) = size t + sizes ts

unfoldable mutual
  -- how deep it is nested: "The root has nesting 1, every child its parent's plus 1"
  pub depth : Tree → ℕ
  depth (node tag front kids back) = suc (depths kids)

  pub depths : Forest → ℕ
  depths none = zero
  depths (more t ts) = max (depth t) (depths ts)

-- the elements l stand in b from p on
pub record Stands (b : List ℕ) (p : ℕ) (l : List ℕ) : Type 0 where
  pub inside : p + length l ≤ length b
  pub same : take (length l) (drop p b) ≡ l
