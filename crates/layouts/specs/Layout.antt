-- Which trees are terms: document 01's table of term layouts, a case for each row, in its words, and document 02's atom by its position. There
-- is no reader here, no order of reading and no place: a tree is a term by its bytes, its children and what is allowed, `plain` in document 01.
use Rattle.std.specs.Prelude.{ℕ, ◌+◌, ◌*◌, ◌≤◌, ◌≡◌, true, List, [], ◌∷◌, ◌++◌, length, take}
use Rattle.fields.specs.Be.{be}
use Rattle.utf8.specs.Good.{Utf8}
use Rattle.literal.specs.Trim.{Trimmed}
use Rattle.literal.specs.Literal.{Literal}
use Rattle.numbers.specs.Caps as cap
use Rattle.numbers.specs.Allowed.{Allowed}
use Rattle.layouts.specs.Tree.{Tree, Forest, node, none, more, leaf, tag_of, count}

-- "Numbers are big-endian": the bytes l are the number n, in k bytes
pub record Number (k : ℕ) (l : List ℕ) (n : ℕ) : Type 0 where
  pub wide : length l ≡ k
  pub is : be l ≡ n

-- "checked as UTF-8, loses trailing zero bytes, and must then read as a Rust `f64` literal"
pub record NumberText (l : List ℕ) : Type 0 where
  pub text : Utf8 l
  pub left : ℕ
  pub trimmed : Trimmed l left
  pub literal : Literal (take left l)

-- "An atom child has tag 100, 118 or 119"; 82, where it is a tag, "counts as an atom child" (document 02, P3)
pub data IsAtom : ℕ → Type 0 where
  atom_100 : IsAtom 100
  atom_118 : IsAtom 118
  atom_119 : IsAtom 119
  atom_82 : IsAtom 82

-- "an integer child 97 or 98", from 0 to `most`: a negative one spells 2 ^ 31 or more, above every `most` (`signed_natural`, fields/proofs/Laws.antt)
pub data IsNatural (most : ℕ) : Tree → Type 0 where
  natural_97 : {l : List ℕ} → be l ≤ most → IsNatural most (leaf 97 l)
  natural_98 : {l : List ℕ} → be l ≤ most → IsNatural most (leaf 98 l)

-- the rows without children: the tag, and the bytes after it
pub data Leaf (allow : Allowed) : ℕ → List ℕ → Type 0 where
  -- "97 / 98: 1 byte unsigned / 4 bytes two's complement"
  small_integer : {l : List ℕ} → length l ≡ 1 → Leaf allow 97 l
  integer : {l : List ℕ} → length l ≡ 4 → Leaf allow 98 l
  -- "99: 31 bytes of text"
  number_text : {l : List ℕ} → allow.texts ≡ true → length l ≡ 31 → NumberText l → Leaf allow 99 l
  -- "70: 8 bytes, a double's bits, kept exactly"
  double : {l : List ℕ} → length l ≡ 8 → Leaf allow 70 l
  -- "100, 118 / 119: length of 2 / 1 bytes, name in UTF-8"
  old_atom : (n name : List ℕ) → Number 2 n (length name) → Utf8 name → Leaf allow 100 (n ++ name)
  atom : (n name : List ℕ) → Number 2 n (length name) → Utf8 name → Leaf allow 118 (n ++ name)
  small_atom : (n name : List ℕ) → Number 1 n (length name) → Utf8 name → Leaf allow 119 (n ++ name)
  -- "106: nothing"
  nil : Leaf allow 106 []
  -- "107: length of 2 bytes, bytes; a list of integers 0 to 255"
  string : (n s : List ℕ) → Number 2 n (length s) → Leaf allow 107 (n ++ s)
  -- "109: length of 4 bytes, bytes"
  binary : (n s : List ℕ) → Number 4 n (length s) → length s ≤ cap.binary → Leaf allow 109 (n ++ s)
  -- "77: length of 4 bytes, bits byte, bytes"
  bit_string : (n : List ℕ) (k : ℕ) (s : List ℕ) → Number 4 n (length s) → length s ≤ cap.binary → cap.bits_byte (length s) k ≡ true → Leaf allow 77 (n ++ (k ∷ s))
  -- "110 / 111: n of 1 / 4 bytes, sign byte (nonzero is negative), n digit bytes, least first"
  small_big : (n : List ℕ) (sign : ℕ) (s : List ℕ) → Number 1 n (length s) → Leaf allow 110 (n ++ (sign ∷ s))
  large_big : (n : List ℕ) (sign : ℕ) (s : List ℕ) → Number 4 n (length s) → Leaf allow 111 (n ++ (sign ∷ s))
  -- "tag 82 and one byte is also an atom .. the byte is a position in this header's list of references"
  position : {k : ℕ} → allow.names ≡ true → allow.known k ≡ true → Leaf allow 82 (k ∷ [])

mutual
  -- a term
  pub data Laid (allow : Allowed) : Tree → Type 0 where
    row : {tag : ℕ} {l : List ℕ} → Leaf allow tag l → Laid allow (leaf tag l)
    -- "104 / 105: arity of 1 / 4 bytes, children"
    small_tuple : {n : List ℕ} {ts : Forest} → Number 1 n (count ts) → AllLaid allow ts → Laid allow (node 104 n ts [])
    large_tuple : {n : List ℕ} {ts : Forest} → Number 4 n (count ts) → count ts ≤ cap.elements → AllLaid allow ts → Laid allow (node 105 n ts [])
    -- "108: length of 4 bytes, children, then a tail child"
    list : {n : List ℕ} {m : ℕ} {ts : Forest} → Number 4 n m → m ≤ cap.elements → count ts ≡ m + 1 → AllLaid allow ts → Laid allow (node 108 n ts [])
    -- "116: arity of 4 bytes, key and value pairs"
    map : {n : List ℕ} {m : ℕ} {ts : Forest} → Number 4 n m → m ≤ cap.pairs → count ts ≡ 2 * m → AllLaid allow ts → Laid allow (node 116 n ts [])
    -- "88: atom child, id, serial, creation, 4 bytes each"
    pid : {x : Tree} {k : List ℕ} → Laid allow x → IsAtom (tag_of x) → length k ≡ 12 → Laid allow (node 88 [] (more x none) k)
    -- "90: count of 2 bytes, atom child, creation 4, count ids of 4"
    reference : {n : List ℕ} {m : ℕ} {x : Tree} {k : List ℕ} → Number 2 n m → Laid allow x → IsAtom (tag_of x) → length k ≡ 4 + 4 * m → Laid allow (node 90 n (more x none) k)
    -- "120: atom child, id 8, creation 4"
    port : {x : Tree} {k : List ℕ} → Laid allow x → IsAtom (tag_of x) → length k ≡ 12 → Laid allow (node 120 [] (more x none) k)
    -- "113: atom child, atom child, integer child 0 to 255"
    export : {x y z : Tree} → Laid allow x → IsAtom (tag_of x) → Laid allow y → IsAtom (tag_of y) → Laid allow z → IsNatural 255 z → Laid allow (node 113 [] (more x (more y (more z none))) [])
    -- "112: size 4 (ignored), arity 1, 16 bytes, index 4, free count 4; atom child, two integer children of 0 or more, child with tag 88,
    -- then the free children"
    function : (f n : List ℕ) {x y z p : Tree} {ts : Forest} → length f ≡ 4 + 1 + 16 + 4 → Number 4 n (count ts) →
        Laid allow x → IsAtom (tag_of x) → Laid allow y → IsNatural 2147483647 y → Laid allow z → IsNatural 2147483647 z → Laid allow p → tag_of p ≡ 88 → AllLaid allow ts →
        Laid allow (node 112 (f ++ n) (more x (more y (more z (more p ts)))) [])

  -- terms side by side
  pub data AllLaid (allow : Allowed) : Forest → Type 0 where
    no_more : AllLaid allow none
    one_more : {t : Tree} {ts : Forest} → Laid allow t → AllLaid allow ts → AllLaid allow (more t ts)

-- the tail of a list, by its children: the last of them
pub data Tail : Forest → Tree → Type 0 where
  only : {t : Tree} → Tail (more t none) t
  after : {x t : Tree} {ts : Forest} → Tail ts t → Tail (more x ts) t

-- "A list is proper exactly when its tail child has tag 106"
pub data Proper : Tree → Type 0 where
  proper : {n : List ℕ} {ts : Forest} {t : Tree} → Tail ts t → tag_of t ≡ 106 → Proper (node 108 n ts [])
