-- What is still to come behind an item's first bytes: of an item that is allowed it is its children and its tail, of whatever kind it is. And an
-- item that is neither one without children nor one with some isn't allowed. Assumes nothing.
use Rattle.std.proofs.Common.{◌≡◌, ℕ, ◌+◌, ◌*◌, ◌/◌, ◌%◌, ◌≤◌, Bool, true, false, cond, eqb, ltb, leb, List, [], ◌∷◌, length, take, drop, Option, Some, None, sym, refl, ap, ◌∙◌, inl, inr, arith, ltb-false, ltb-true, ne_eqb, eqb-true, le-leb, leb-false, leb-true}
use borrow.Author.Tests.{eqb-false}
use Rattle.numbers.specs.Caps as cap
use Rattle.layouts.specs.Tree.{Tree, node}
use Rattle.measure.specs.Item.{Item, atom, binary, wrong, text_at, item_of, kids_of, allowed}
use Rattle.measure.specs.Inner.Own.{head_in, head_of, tail_of, own_of, Parent, Leaf, Alone, Around, twos_of, owes_of}
use Rattle.measure.proofs.Items.{kind_known, by_kinds, own_is}
use Rattle.measure.proofs.Frames.{frame, tail_by, frame_of}

-- a double number is half itself and nothing; one more is half itself and a tail
even : (n : ℕ) → frame_of (2 * n) ≡ frame n []
unfolding frame_of
even n =
    let h : 2 * n / 2 ≡ n = omega arith in
    let r : 2 * n % 2 ≡ 0 = omega arith in
    rw (h, r) refl

odd : (n : ℕ) → frame_of (2 * n + 1) ≡ frame n (106 ∷ [])
unfolding frame_of
odd n =
    let h : (2 * n + 1) / 2 ≡ n = omega arith in
    let r : (2 * n + 1) % 2 ≡ 1 = omega arith in
    rw (h, r) refl

-- a frame's numbers
pub halves : (k : ℕ) {n : ℕ} {t : List ℕ} → frame_of k ≡ frame n t → (n ≡ k / 2) × (length t ≡ k % 2)
unfolding frame_of
halves k {n} {t} e =
    let h : n ≡ k / 2 = cc in
    let s : t ≡ tail_by k = cc in
    (h, ap length s ∙ go (eqb (k % 2) 1) refl)
  where
    go : (x : Bool) → eqb (k % 2) 1 ≡ x → length (cond {A = List ℕ} x (106 ∷ []) []) ≡ k % 2
    go true x = sym (eqb-true (k % 2) 1 x)
    go false x = let y = eqb-false (k % 2) 1 x in omega arith

module _ (texts : List ℕ) (x y : ℕ) where
  abbrev pub Owed : ℕ → Type 0
  Owed kind = allowed (item_of texts kind x y) ≡ true → frame_of (owes_of kind x) ≡ frame (kids_of (item_of texts kind x y)) (tail_of (item_of texts kind x y))

  -- a text is an atom or a binary, or nothing
  text_owed : (z : Bool) (i : Item) → kids_of i ≡ 0 → tail_of i ≡ [] → frame_of 0 ≡ frame (kids_of (cond z i wrong)) (tail_of (cond z i wrong))
  unfolding kids_of tail_of
  text_owed true i k t = rw (k, t) (even 0)
  text_owed false i k t = even 0

  pub owed_is : (kind : ℕ) → Owed kind
  unfolding item_of twos_of owes_of kids_of tail_of allowed text_at
  owed_is kind a =
      by_kinds Owed kind (kind_known texts kind x y a)
      (λ _. even 0)
      (λ _. even 0)
      (λ _. text_owed (leb (x + y) (length texts)) (atom (take y (drop x texts))) refl refl)
      (λ _. text_owed (leb (x + y) (length texts)) (binary (take y (drop x texts))) refl refl)
      (λ a. rw a (even x))
      (λ a. rw a (odd x))
      (λ a. rw (le-leb x cap.elements (omega (arith, leb-true x cap.pairs a))) (even (2 * x)))
      (λ _. even 0) a

-- ---- what the counts of own bytes say

some-head : (t : Tree) → 1 ≤ length (head_in t)
some-head (node tag front kids back) = omega arith

-- an item of which bytes are told is allowed, and these are its own
module _ (i : Item) {n : ℕ} (h : Some n ≡ own_of i) where
  told : (allowed i ≡ true) × (n ≡ length (head_of i) + length (tail_of i))
  unfolding own_of
  told = go (allowed i) refl h
    where
      go : (x : Bool) → allowed i ≡ x → Some n ≡ cond {A = Option ℕ} x (Some (length (head_of i) + length (tail_of i))) None → (allowed i ≡ true) × (n ≡ length (head_of i) + length (tail_of i))
      go true e f = (e, cc)
      go false e f = absurd (cc)

-- a kind is with children or without
by_kind : (P : Type 0) (kind : ℕ) → (Parent kind → P) → (Leaf kind → P) → P
by_kind P kind f g = go (ltb kind 5) (leb kind 7) refl refl
  where
    go : (x y : Bool) → ltb kind 5 ≡ x → leb kind 7 ≡ y → P
    go true y e h = g (inl (ltb-true kind 5 e))
    go false true e h = f (ltb-false kind 5 e, leb-true kind 7 h)
    go false false e h = g (inr (leb-false kind 7 h))

-- behind one without, nothing is to come
pub none_comes : (kind x : ℕ) → Leaf kind → owes_of kind x ≡ 0
unfolding owes_of
none_comes kind x l = rw (ne_eqb kind 5 (apart l 5 (omega arith) (omega arith)), ne_eqb kind 6 (apart l 6 (omega arith) (omega arith)), ne_eqb kind 7 (apart l 7 (omega arith) (omega arith)))
  where
    apart : Leaf kind → (k : ℕ) → 5 ≤ k → k ≤ 7 → ¬ (kind ≡ k)
    apart (inl l) k h m e = omega arith
    apart (inr l) k h m e = omega arith

no_bytes : (l : List ℕ) → length l ≡ 0 → l ≡ []
no_bytes [] h = refl
no_bytes (x ∷ l) h = absurd (omega arith)

module _ (texts : List ℕ) (kind x y : ℕ) where
  abbrev item : Item
  item = item_of texts kind x y

  -- nothing is to come behind it: it has no child and no tail
  pub over : allowed item ≡ true → owes_of kind x ≡ 0 → (kids_of item ≡ 0) × (tail_of item ≡ [])
  over a e = let (k, t) = halves (owes_of kind x) (owed_is texts x y kind a) in (omega arith, no_bytes (tail_of item) (omega arith))

  -- nothing is told of it: it isn't allowed
  pub neither : Alone item kind None → Around kind x None → allowed item ≡ false
  neither a b = go (allowed item) refl
    where
      go : (z : Bool) → allowed item ≡ z → z ≡ false
      go false e = refl
      go true e = let s = own_is item e in by_kind _ kind (λ p. let t = b.is p texts y in absurd (cc)) (λ l. let t = a.is l in absurd (cc))

  -- an item without children
  module _ {n : ℕ} (a : Alone item kind (Some n)) where
    leaf_kind : Leaf kind
    leaf_kind = by_kind _ kind (λ p. let t = a.other p in absurd (cc)) (λ l. l)

    pub alone_allowed : allowed item ≡ true
    alone_allowed = (told item (a.is leaf_kind)).0

    pub alone_over : (kids_of item ≡ 0) × (tail_of item ≡ [])
    alone_over = over alone_allowed (none_comes kind x leaf_kind)

    pub alone_bytes : n ≡ length (head_of item)
    alone_bytes = (told item (a.is leaf_kind)).1 ∙ rw alone_over.1 (omega arith)

  -- one with children
  module _ {n : ℕ} (b : Around kind x (Some n)) where
    parent_kind : Parent kind
    parent_kind = by_kind _ kind (λ p. p) (λ l. let t = b.other l in absurd (cc))

    pub around_allowed : allowed item ≡ true
    around_allowed = (told item (b.is parent_kind texts y)).0

    pub around_bytes : n ≡ length (head_of item) + length (tail_of item)
    around_bytes = (told item (b.is parent_kind texts y)).1

    pub around_over : owes_of kind x ≡ 0 → n ≡ length (head_of item)
    around_over e = around_bytes ∙ rw (over around_allowed e).1 (omega arith)
