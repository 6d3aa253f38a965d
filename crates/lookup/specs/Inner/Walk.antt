-- What the walk over a map's entries promises on the way: of terms that are known to stand at a place, in an input of a length that
-- reading takes, so that nothing is judged again.
use Rattle.std.specs.Prelude.{ℕ, ◌+◌, ◌≤◌, ◌≡◌, List, Bool, Option, length}
use Rattle.numbers.specs.Allowed.{plain}
use Rattle.numbers.specs.Caps as cap
use Rattle.layouts.specs.Tree.{Tree, Forest, count, bytes, bytes_all, Stands}
use Rattle.layouts.specs.Layout.{Laid, AllLaid}
use Rattle.lookup.specs.declared.Key as code
use Rattle.lookup.specs.declared.Key.TheVariants as sought
use Rattle.lookup.specs.Lookup.{Key, name, number}
use Rattle.lookup.specs.Inner.Found.{equal, found}

-- the key that the code is looking for
abbrev pub key_of : code.Key → Key
key_of (sought.Name s) = name s.now
key_of (sought.Number z) = number z

-- the term t stands at p; the n terms ts stand side by side from p on
pub record Term (b : List ℕ) (p : ℕ) (t : Tree) : Type 0 where
  pub laid : Laid plain t
  pub stands : Stands b p (bytes t)

pub record Terms (b : List ℕ) (p n : ℕ) (ts : Forest) : Type 0 where
  pub laid : AllLaid plain ts
  pub counted : count ts ≡ n
  pub stands : Stands b p (bytes_all ts)

-- there is one; there are some
pub record OneTerm (b : List ℕ) (p : ℕ) : Type 0 where
  pub short : length b ≤ cap.input
  pub tree : Tree
  pub is : Term b p tree

pub record SomeTerms (b : List ℕ) (p n : ℕ) : Type 0 where
  pub short : length b ≤ cap.input
  pub forest : Forest
  pub are : Terms b p n forest

-- r is the end of the term at p
pub record Ends (b : List ℕ) (p r : ℕ) : Type 0 where
  pub is : (t : Tree) → Term b p t → r ≡ p + length (bytes t)

-- r says whether the key at p is equal
pub record Judges (b : List ℕ) (p : ℕ) (k : Key) (r : Bool) : Type 0 where
  pub is : (t : Tree) → Term b p t → r ≡ equal k t

-- r is where the value of the last equal key stands, among n keys and values from p on
pub record Finds (b : List ℕ) (p n : ℕ) (k : Key) (r : Option ℕ) : Type 0 where
  pub is : (ts : Forest) → Terms b p n ts → r ≡ found k p ts
