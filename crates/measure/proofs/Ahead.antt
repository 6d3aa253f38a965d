-- The first pass looks ahead: where items are open and others are still to come, these are judged by what the open ones wait for. `Fine` says that
-- all will be well from here; each step of the pass keeps whether it will. Assumes nothing.
use Rattle.std.proofs.Common.{◌≡◌, ℕ, suc, ◌+◌, ◌-◌, ◌<◌, ◌≤◌, Bool, true, false, cond, ◌↔◌, List, [], ◌∷◌, ◌++◌, length, Option, Some, None, sym, refl, ap, ◌∙◌, arith, length-append, eq-eqb, le-leb}
use native.Mathlib.Nat.{le-max_left, le-max_right, max-le}
use Rattle.numbers.specs.Caps as cap
use Rattle.layouts.specs.Tree.{Forest, node, none, more, count, depth, depths, bytes, bytes_all}
use Rattle.measure.specs.Item.{Item, kids_of, allowed}
use Rattle.measure.specs.Term.{first, behind, tree_of, trees_of, sound, written, accepted, needed}
use Rattle.measure.specs.Inner.Own.{head_of, tail_of}
use Rattle.measure.proofs.Forests.{count-first, count-behind, first_one}
use Rattle.measure.proofs.Laid.{sound-is, accepted-is}
use Rattle.measure.proofs.Shape.{split, deep}
use Rattle.measure.proofs.Frames.{Frame, frame, total}

-- no tree that is to come nests too deep: the children of the innermost frame have as many levels above them as there are frames around it, and one
unfoldable pub Shallow : List Frame → Forest → Type 0
Shallow [] ts = Unit {0}
Shallow (frame n tail ∷ fs) ts = (length fs + depths (first n ts) ≤ cap.nesting) × Shallow fs (behind n ts)

-- the bytes of the trees that are to come; a tail's byte is counted when its list is opened
unfoldable pub due : List Frame → Forest → ℕ
due [] ts = 0
due (frame n tail ∷ fs) ts = length (bytes_all (first n ts)) + due fs (behind n ts)

-- all will be well: `size` bytes are counted, and s is to come
pub record Fine (fs : List Frame) (s : List Item) (size : ℕ) : Type 0 where
  pub goes : sound s ≡ true
  pub counted : total fs ≡ count (trees_of s)
  pub shallow : Shallow fs (trees_of s)
  pub short : size + due fs (trees_of s) ≤ cap.input

-- ---- at the front

pub begins : (s : List Item) → (accepted s ≡ true) ↔ Fine (frame 1 [] ∷ []) s 1
unfolding Shallow due total written accepted
begins s = (
  λ e.
      let a = accepted-is s e in
      let f = first_one (trees_of s) a.one in
      let d : length (bytes_all (first 1 (trees_of s))) ≡ length (bytes_all (trees_of s)) = ap (λ (ts : Forest). length (bytes_all ts)) f in
      let g : depths (first 1 (trees_of s)) ≡ depths (trees_of s) = ap depths f in
      record { goes = a.goes; counted = omega (arith, a.one); shallow = (omega (arith, a.shallow), tt); short = omega (arith, a.short) },
  λ h.
      let one : count (trees_of s) ≡ 1 = omega (arith, h.counted) in
      let f = first_one (trees_of s) one in
      let d : length (bytes_all (first 1 (trees_of s))) ≡ length (bytes_all (trees_of s)) = ap (λ (ts : Forest). length (bytes_all ts)) f in
      let g : depths (first 1 (trees_of s)) ≡ depths (trees_of s) = ap depths f in
      rw (h.goes, eq-eqb _ _ one, le-leb (depths (trees_of s)) cap.nesting (omega (arith, h.shallow.0)), le-leb (suc (length (bytes_all (trees_of s)))) cap.input (omega (arith, h.short))) refl,
)

-- ---- an item is done with

module _ (tail : List ℕ) (fs : List Frame) (s : List Item) (size : ℕ) where
  pub closing : length fs ≤ cap.nesting → Fine (frame 0 tail ∷ fs) s size ↔ Fine fs s size
  unfolding Shallow due total first behind bytes_all depths
  closing l = (
    λ h. record { goes = h.goes; counted = omega (arith, h.counted); shallow = h.shallow.1; short = omega (arith, h.short) },
    λ h. record { goes = h.goes; counted = omega (arith, h.counted); shallow = (omega arith, h.shallow); short = omega (arith, h.short) },
  )

-- trees side by side are nested
some-depth : (ts : Forest) → 1 ≤ count ts → 1 ≤ depths ts
unfolding count depths
some-depth none h = absurd (omega arith)
some-depth (more (node tag front kids back) ts) h = omega (arith, le-max_left (suc (depths kids)) (depths ts))

-- ---- an item comes: `closing` and this are all that the pass does

module _ (i : Item) (s : List Item) (n : ℕ) (tail : List ℕ) (fs : List Frame) (size : ℕ) where
  abbrev pub after : ℕ
  after = size + (length (head_of i) + length (tail_of i))

  -- the counts
  counts : kids_of i ≤ count (trees_of s) → (total (frame (suc n) tail ∷ fs) ≡ count (trees_of (i ∷ s))) ↔ (total (frame (kids_of i) (tail_of i) ∷ frame n tail ∷ fs) ≡ count (trees_of s))
  unfolding total trees_of count
  counts k = let e = count-behind (kids_of i) (trees_of s) k in (λ h. omega arith, λ h. omega arith)

  -- the bytes
  bytes-are : kids_of i ≤ count (trees_of s) → size + due (frame (suc n) tail ∷ fs) (trees_of (i ∷ s)) ≡ after + due (frame (kids_of i) (tail_of i) ∷ frame n tail ∷ fs) (trees_of s)
  unfolding due trees_of first behind bytes_all
  bytes-are k =
      let ks = first (kids_of i) (trees_of s) in
      let us = behind (kids_of i) (trees_of s) in
      let t = tree_of i ks in
      let e = ap length (split i ks (count-first (kids_of i) (trees_of s) k)) in
      let f = length-append (head_of i) (bytes_all ks ++ tail_of i) in
      let g = length-append (bytes_all ks) (tail_of i) in
      let h = length-append (bytes t) (bytes_all (first n us)) in
      omega arith

  -- the nesting
  nests : kids_of i ≤ count (trees_of s) → length fs + 1 ≤ cap.nesting → Shallow (frame (suc n) tail ∷ fs) (trees_of (i ∷ s)) ↔ (Shallow (frame (kids_of i) (tail_of i) ∷ frame n tail ∷ fs) (trees_of s) × (length fs + 1 + length (tail_of i) ≤ cap.nesting))
  unfolding Shallow trees_of first behind depths
  nests k l =
      let ks = first (kids_of i) (trees_of s) in
      let us = behind (kids_of i) (trees_of s) in
      let t = tree_of i ks in
      let (x, y) = deep i ks (63 - length fs) (count-first (kids_of i) (trees_of s) k) in
      let left = le-max_left (depth t) (depths (first n us)) in
      let right = le-max_right (depth t) (depths (first n us)) in (
        λ h.
            let (a, b) = x (omega (arith, h.0)) in
            ((omega arith, (omega (arith, h.0), h.1)), omega arith),
        λ h.
            let d = y (omega (arith, h.0.0), omega (arith, h.1)) in
            (let m = max-le {a = depth t} {b = depths (first n us)} {k = 64 - length fs} (omega arith) (omega (arith, h.0.1.0)) in omega arith, h.0.1.1),
      )

  -- its children are among what is to come
  pub kids_there : total (frame (kids_of i) (tail_of i) ∷ frame n tail ∷ fs) ≡ count (trees_of s) → kids_of i ≤ count (trees_of s)
  unfolding total
  kids_there e = omega arith

  sound_back : allowed i ≡ true → kids_of i ≤ count (trees_of s) → sound s ≡ true → sound (i ∷ s) ≡ true
  unfolding sound
  sound_back a k e = rw (a, le-leb (kids_of i) (count (trees_of s)) k, e) refl

  -- an item that is allowed, and that may be opened where it has children or a tail
  pub coming : length fs + 1 ≤ cap.nesting → Fine (frame (suc n) tail ∷ fs) (i ∷ s) size ↔ ((allowed i ≡ true) × ((length fs + 1 + length (tail_of i) ≤ cap.nesting) × Fine (frame (kids_of i) (tail_of i) ∷ frame n tail ∷ fs) s after))
  coming l = (
    λ h.
        let p = sound-is i s h.goes in
        let (a, b) = (nests p.kids l).0 h.shallow in
        (p.item, (b, record { goes = p.rest; counted = (counts p.kids).0 h.counted; shallow = a; short = omega (arith, h.short, bytes-are p.kids) })),
    λ h.
        let f = h.1.1 in
        let k = kids_there f.counted in
        record { goes = sound_back h.0 k f.goes; counted = (counts k).1 f.counted; shallow = (nests k l).1 (f.shallow, h.1.0); short = omega (arith, f.short, bytes-are k) },
  )

  -- where it has children or a tail, there is a level for them
  pub opens-within : length fs + 1 ≤ cap.nesting → Fine (frame (suc n) tail ∷ fs) (i ∷ s) size → 1 ≤ kids_of i + length (tail_of i) → length fs + 2 ≤ cap.nesting
  unfolding Shallow
  opens-within l f k =
      let (_, (t, g)) = (coming l).0 f in
      let c = count-first (kids_of i) (trees_of s) (kids_there g.counted) in
      by_length (tail_of i) k t (λ e. let d = some-depth (first (kids_of i) (trees_of s)) (omega arith) in omega (arith, g.shallow.0))
    where
      by_length : (l : List ℕ) → 1 ≤ kids_of i + length l → length fs + 1 + length l ≤ cap.nesting → (1 ≤ kids_of i → length fs + 2 ≤ cap.nesting) → length fs + 2 ≤ cap.nesting
      by_length [] k t h = h (omega arith)
      by_length (x ∷ l) k t h = omega arith

-- ---- the pass

-- what is known of a row s on the way: whether all will be well from here is whether it is accepted, and then its bytes are known
pub record Judged (s : List Item) (fs : List Frame) (rest : List Item) (size : ℕ) : Type 0 where
  pub same : (accepted s ≡ true) ↔ Fine fs rest size
  pub adds : accepted s ≡ true → length (written s) ≡ size + due fs (trees_of rest)

pub at_first : (s : List Item) → Judged s (frame 1 [] ∷ []) s 1
unfolding due written
at_first s = record {
  same = begins s;
  adds = λ e.
      let a = accepted-is s e in
      let f = first_one (trees_of s) a.one in
      let d : length (bytes_all (first 1 (trees_of s))) ≡ length (bytes_all (trees_of s)) = ap (λ (ts : Forest). length (bytes_all ts)) f in
      omega arith;
}

refused : (s : List Item) → ¬ (accepted s ≡ true) → None ≡ needed s
unfolding needed
refused s h = go (accepted s) h
  where
    go : (x : Bool) → ¬ (x ≡ true) → None ≡ cond {A = Option ℕ} x (Some (length (written s))) None
    go true h = absurd (h refl)
    go false h = refl

-- a row that isn't sound, and one whose rest can't be well, is refused
pub unsound : (s : List Item) → sound s ≡ false → None ≡ needed s
unsound s e = refused s (λ t. let g = (accepted-is s t).goes in omega (arith, ap {B = ℕ} (λ (z : Bool). cond z 1 0) (sym e ∙ g)))

pub fails : {s : List Item} {fs : List Frame} {rest : List Item} {size : ℕ} → Judged s fs rest size → ¬ (Fine fs rest size) → None ≡ needed s
fails {s} j h = refused s (λ e. h (j.same.0 e))

-- the root is closed at the row's end
pub ends : {s : List Item} {tail : List ℕ} {size : ℕ} → Judged s (frame 0 tail ∷ []) [] size → size ≤ cap.input → Some size ≡ needed s
unfolding needed due Shallow total sound trees_of count first depths bytes_all
ends {s} {tail} {size} j h =
    let e = j.same.1 (record { goes = refl; counted = refl; shallow = (omega arith, tt); short = omega arith }) in
    let same : size ≡ length (written s) = omega (arith, j.adds e) in
    rw e (ap Some same)

-- and not before it
pub goes_on : {s : List Item} {tail : List ℕ} {i : Item} {rest : List Item} {size : ℕ} → Judged s (frame 0 tail ∷ []) (i ∷ rest) size → None ≡ needed s
unfolding total trees_of count
goes_on j = fails j (λ f. omega (arith, f.counted))

-- an item is closed
pub shut : {s : List Item} {tail : List ℕ} {fs : List Frame} {rest : List Item} {size : ℕ} → length fs ≤ cap.nesting → Judged s (frame 0 tail ∷ fs) rest size → Judged s fs rest size
unfolding due first behind bytes_all
shut {s} {tail} {fs} {rest} {size} l j =
    let (x, y) = closing tail fs rest size l in
    record { same = (λ e. x (j.same.0 e), λ f. j.same.1 (y f)); adds = λ e. omega (arith, j.adds e) }

module _ {s : List Item} {n : ℕ} {tail : List ℕ} {fs : List Frame} {size : ℕ} where
  -- the row ends early
  pub lacks : Judged s (frame (suc n) tail ∷ fs) [] size → None ≡ needed s
  unfolding total trees_of count
  lacks j = fails j (λ f. omega (arith, f.counted))

  module _ {i : Item} {rest : List Item} (l : length fs + 1 ≤ cap.nesting) (j : Judged s (frame (suc n) tail ∷ fs) (i ∷ rest) size) where
    -- an item that isn't allowed
    pub wrong_item : allowed i ≡ false → None ≡ needed s
    wrong_item e = fails j (λ f. let t = ((coming i rest n tail fs size l).0 f).0 in omega (arith, ap {B = ℕ} (λ (z : Bool). cond z 1 0) (sym e ∙ t)))

    -- one whose bytes are too many
    pub too_long : cap.input < size + (length (head_of i) + length (tail_of i)) → None ≡ needed s
    too_long h = fails j (λ f. omega (arith, ((coming i rest n tail fs size l).0 f).1.1.short))

    -- one whose children or tail would be nested too deep
    pub too_deep : cap.nesting ≤ length fs + 1 → 1 ≤ kids_of i + length (tail_of i) → None ≡ needed s
    too_deep h k = fails j (λ f. omega (arith, opens-within i rest n tail fs size l f k))

    -- one that goes
    pub came : allowed i ≡ true → length fs + 1 + length (tail_of i) ≤ cap.nesting → Judged s (frame (kids_of i) (tail_of i) ∷ frame n tail ∷ fs) rest (size + (length (head_of i) + length (tail_of i)))
    came a t =
        let (x, y) = coming i rest n tail fs size l in
        record {
          same = (λ e. (x (j.same.0 e)).1.1, λ f. j.same.1 (y (a, (t, f))));
          adds = λ e. omega (arith, j.adds e, bytes-are i rest n tail fs size (kids_there i rest n tail fs size (x (j.same.0 e)).1.1.counted));
        }
