-- Where trees that say items stand in a record and their cells on its tape, the cells say these items. One induction over the trees, with their
-- parent's cell known: it ends where the last of them does, and every term has a byte, so that of a list's children only the tail ends where the list
-- does. Assumes nothing.
use Prim.Native.Nat.{ℕ, suc, ◌+◌, ◌-◌, ◌*◌, ◌≤◌, ◌<◌}
use native.Mathlib.Numerals.{add-one}
use native.Mathlib.Omega.{arith}
use mathlib.Core.Path.{◌≡◌, refl, ap, sym, ◌∙◌}
use mathlib.Core.Bool.{Bool, true, false, ◌&&◌, and-false}
use mathlib.Core.List.{List, [], ◌∷◌, ◌++◌, append_assoc, append-nil}
use lib.Dec.{eqb}
use lib.ListN.{length, length-append}
use borrow.Author.Tests.{eqb-true, eq-eqb, ne_eqb}
use Rattle.layouts.specs.Tree.{Tree, Forest, Stands, node, none, more, leaf, bytes, bytes_all, size, sizes}
use Rattle.layouts.proofs.Stands.{left, right, behind}
use Rattle.tape.specs.Cells.{cell_words, words}
use Rattle.tape.specs.Inner.Fill.{words_all}
use Rattle.tape.specs.Spans.{tag_at, start_at, end_at, parent_at}
use Rattle.tape.proofs.Blocks.{Own, own, kids, first, others}
use Rattle.measure.specs.Item.{Item}
use Rattle.roundtrip.specs.Told.{item_at, is_tail, told}
use Rattle.roundtrip.proofs.Says.{Itself, Says, no_more, tail, one_more}

-- ---- tails

-- where there is one there is a byte
some : {x : Bool} {ts : Forest} {s : List Item} → Says x ts s → x ≡ true → 1 ≤ length (bytes_all ts)
unfolding bytes
some no_more e = absurd (let z : ◌≡◌ {A = ℕ} 0 1 = cc in omega arith)
some tail e = omega arith
some (one_more f k w) e = omega arith

module _ (tape : List ℕ) (up c : ℕ) (p : parent_at tape c ≡ up) where
  -- a cell is none where its parent is no list, or ends later
  no_tail : (x : Bool) → eqb (tag_at tape up) 108 ≡ x → (x ≡ true → end_at tape c < end_at tape up) → is_tail tape c ≡ false
  unfolding is_tail
  no_tail false e h = rw (p, e, and-false)
  no_tail true e h = rw (p, ne_eqb (end_at tape c) (end_at tape up) (λ z. omega (arith, h refl)), and-false)

  -- and is one where it is a Nil that ends with its parent, a list
  a_tail : tag_at tape c ≡ 106 → eqb (tag_at tape up) 108 ≡ true → end_at tape c ≡ end_at tape up → is_tail tape c ≡ true
  unfolding is_tail
  a_tail t l e = rw (p, t, l, eq-eqb (end_at tape c) (end_at tape up) e)

-- the root is none: it is its own parent, and no Nil is a list
no-root : (tape : List ℕ) → parent_at tape 0 ≡ 0 → is_tail tape 0 ≡ false
unfolding is_tail
no-root tape p = rw p (go (eqb (tag_at tape 0) 106) refl)
  where
    go : (x : Bool) → eqb (tag_at tape 0) 106 ≡ x → (x && eqb (tag_at tape 0) 108 && eqb (end_at tape 0) (end_at tape 0)) ≡ false
    go true e = rw (eqb-true (tag_at tape 0) 106 e)
    go false e = refl

module _ (b tape : List ℕ) where
  -- ---- one cell

  -- a tail says nothing
  skips : (c : ℕ) → is_tail tape c ≡ true → told b tape (c + 1) ≡ told b tape c
  unfolding told
  skips c e = rw (add-one c, e) (append-nil (told b tape c))

  -- another cell says its term's item
  says : {i : Item} (tag : ℕ) (front : List ℕ) (ts : Forest) (p up c : ℕ) → Itself i tag front ts → Own tape (node tag front ts []) p up c →
      Stands b p (bytes (node tag front ts [])) → is_tail tape c ≡ false → told b tape (c + 1) ≡ told b tape c ++ (i ∷ [])
  unfolding told item_at bytes
  says tag front ts p up c f o s e =
      let n : end_at tape c - start_at tape c - 1 ≡ length front + length (bytes_all ts) =
      omega (arith, o.start, o.end, length-append front (bytes_all ts ++ []), length-append (bytes_all ts) []) in
      let r = left b (p + 1) front (bytes_all ts ++ []) (behind b p tag (front ++ (bytes_all ts ++ [])) s) in
      rw (add-one c, e, o.tag, n, o.start, f.wide, r.same, f.says)

  -- ---- a term's cells

  -- the children of the cell `up`, from p to its end and from the cell c on
  record Children (x : Bool) (ts : Forest) (s : List Item) : Type 0 where
    say : (p up c : ℕ) → eqb (tag_at tape up) 108 ≡ x → end_at tape up ≡ p + length (bytes_all ts) →
        Stands tape (cell_words * c) (words_all ts p up c) → Stands b p (bytes_all ts) → told b tape (c + sizes ts) ≡ told b tape c ++ s

  -- a term that is no tail, over such children
  term : {i : Item} {tag : ℕ} {front : List ℕ} {ts : Forest} {l : List Item} → Itself i tag front ts → Children (eqb tag 108) ts l → (p up c : ℕ) →
      Stands tape (cell_words * c) (words (node tag front ts []) p up c) → Stands b p (bytes (node tag front ts [])) → is_tail tape c ≡ false →
      told b tape (c + size (node tag front ts [])) ≡ told b tape c ++ (i ∷ l)
  unfolding bytes size
  term {i} {tag} {front} {ts} {l} f h p up c x y e =
      let o = own tape (node tag front ts []) p up c x in
      let q : ℕ = p + 1 + length front in
      let r = right b (p + 1) front (bytes_all ts ++ []) (behind b p tag (front ++ (bytes_all ts ++ [])) y) in
      let k =
      h.say q c (c + 1) (rw o.tag) (omega (arith, o.end, length-append front (bytes_all ts ++ []), length-append (bytes_all ts) []))
      (kids tape tag front ts [] p up c x) (left b q (bytes_all ts) [] r) in
      let n : c + suc (sizes ts) ≡ c + 1 + sizes ts = omega arith in
      rw (n, k, says tag front ts p up c f o y e) (append_assoc (told b tape c) (i ∷ []) l)

  terms : {x : Bool} {ts : Forest} {s : List Item} → Says x ts s → Children x ts s
  unfolding bytes sizes
  terms no_more = record { say = λ p up c t e x y. let n : c + 0 ≡ c = omega arith in rw n (sym (append-nil (told b tape c))) }
  terms tail =
      record {
        say = λ p up c t e x y.
            let o = own tape (leaf 106 []) p up c (first tape (leaf 106 []) none p up c x) in
            skips c (a_tail tape up c o.parent o.tag t (omega arith)) ∙ sym (append-nil (told b tape c));
      }
  terms (one_more {x = z} {i} {tag} {front} {ks} {ts} {l} {m} f k w) =
      record {
        say = λ p up c t e x y.
            let u : Tree = node tag front ks [] in
            let j = length-append (bytes u) (bytes_all ts) in
            let x₁ = first tape u ts p up c x in
            let o = own tape u p up c x₁ in
            let a = term f (terms k) p up c x₁ (left b p (bytes u) (bytes_all ts) y) (no_tail tape up c o.parent z t (λ d. omega (arith, some w d))) in
            let r = (terms w).say (p + length (bytes u)) up (c + size u) t (omega arith) (others tape u ts p up c x) (right b p (bytes u) (bytes_all ts) y) in
            let n : c + (size u + sizes ts) ≡ c + size u + sizes ts = omega arith in
            rw (n, r, a) (append_assoc (told b tape c) (i ∷ l) m);
      }

  -- the term behind byte 131, whose cell is the first
  pub whole : {t : Tree} {s : List Item} → Says false (more t none) s → Stands tape 0 (words t 1 0 0) → Stands b 1 (bytes t) → told b tape (size t) ≡ s
  unfolding told
  whole {t} (one_more {i = i} {l = l} f k no_more) x y =
      let n : 0 + size t ≡ size t = omega arith in
      (rw n at (term f (terms k) 1 0 0 x y (no-root tape (own tape t 1 0 0 x).parent))) ∙ ap (λ (r : List Item). i ∷ r) (sym (append-nil l))
