-- The second pass: what its loop keeps, and each way a turn can go. What is put already, and what the open items still owe, are the bytes that are
-- wanted; and all will be well from here (`Fine` of the first pass), so that nothing is judged again. Assumes nothing.
use Rattle.std.proofs.Common.{◌≡◌, ℕ, suc, ◌+◌, ◌-◌, ◌/◌, ◌<◌, ◌≤◌, true, List, [], ◌∷◌, ◌++◌, length, get_or, take, drop, set, sym, refl, ap, ◌∙◌, append_assoc, append-nil, arith, length-append, length-drop, length-set, take-append-drop, length-take-le, take-suc-set, drop-set-lt}
use Rattle.numbers.specs.Caps as cap
use Rattle.layouts.specs.Tree.{bytes_all}
use Rattle.measure.specs.Item.{Item, item_of, items_of, kids_of, allowed}
use Rattle.measure.specs.Term.{trees_of, written}
use Rattle.measure.specs.Inner.Own.{head_of, tail_of}
use Rattle.measure.proofs.Rows as items
use Rattle.measure.proofs.Forests.{first_one}
use Rattle.measure.proofs.Laid.{accepted-is}
use Rattle.measure.proofs.Frames.{frame, tail_by, frame_of, frames_of, outer, outer_length, idle, busy, less, pushed, total, owed, closes, opens}
use Rattle.measure.proofs.Ahead.{Fine, begins, closing, coming, kids_there, opens-within}
use Rattle.measure.proofs.Items.{kind_parent}
use Rattle.measure.proofs.Coming as coming
use Rattle.writer.specs.Inner.Put.{Wrote, HeadFits, ParentFits, Fits}
use Rattle.writer.proofs.Wrote.{wider}

module _ (texts row old : List ℕ) (end : ℕ) where
  abbrev rest : ℕ → List Item
  rest i = items.from texts row i

  pub record Going (out os : List ℕ) (depth left i p : ℕ) : Type 0 where
    pub size : ℕ
    pub fine : Fine (frames_of os depth left) (rest i) size
    pub is : take p out ++ owed (frames_of os depth left) (trees_of (rest i)) ≡ written (items_of texts row)
    pub at : p ≤ length out
    pub fits : Fits (items_of texts row) end (length old)
    pub behind : drop end out ≡ drop end old
    pub kept : length out ≡ length old
    pub level : depth < cap.nesting
    pub stack : length os ≡ cap.nesting

  -- what is still owed ends where it should
  room : {out os : List ℕ} {depth left i p : ℕ} (g : Going out os depth left i p) → p + length (owed (frames_of os depth left) (trees_of (rest i))) ≡ end
  room {out} {os} {depth} {left} {i} {p} g =
      omega (arith, ap length g.is, length-append (take p out) (owed (frames_of os depth left) (trees_of (rest i))), length-take-le p out g.at, g.fits.ends)

  -- bytes were put: what was owed is those bytes and what is owed now
  moved : {out out' os os' : List ℕ} {depth depth' left left' i i' p q size : ℕ} {l : List ℕ} → Going out os depth left i p → Wrote out out' p q end l →
      owed (frames_of os depth left) (trees_of (rest i)) ≡ l ++ owed (frames_of os' depth' left') (trees_of (rest i')) →
      Fine (frames_of os' depth' left') (rest i') size → depth' < cap.nesting → length os' ≡ cap.nesting → Going out' os' depth' left' i' q
  moved {out} {out'} {os} {os'} {depth} {depth'} {left} {left'} {i} {i'} {p} {q} {size} {l} g w e f d k =
      let o = owed (frames_of os' depth' left') (trees_of (rest i')) in
      let r = room g in
      let n : length (owed (frames_of os depth left) (trees_of (rest i))) ≡ length l + length o = ap length e ∙ length-append l o in
      record {
        size = size;
        fine = f;
        is = ap (λ (x : List ℕ). x ++ o) w.front ∙ append_assoc (take p out) l o ∙ ap (λ (x : List ℕ). take p out ++ x) (sym e) ∙ g.is;
        at = omega (arith, w.to, w.kept, g.kept, g.fits.lent);
        fits = g.fits;
        behind = w.rest ∙ g.behind;
        kept = w.kept ∙ g.kept;
        level = d;
        stack = k;
      }

  module _ {out os : List ℕ} {depth left i p : ℕ} (g : Going out os depth left i p) where
    -- nothing is left of the innermost but its tail
    module _ (h : left < 2) where
      shuts : owed (frames_of os depth left) (trees_of (rest i)) ≡ tail_by left ++ owed (outer os depth) (trees_of (rest i))
      shuts = rw (idle os depth left h) (closes (tail_by left) (outer os depth) (trees_of (rest i)))

      -- its byte has its place
      pub tail_fits : length (tail_by left) + p ≤ end
      tail_fits = omega (arith, room g, ap length shuts, length-append (tail_by left) (owed (outer os depth) (trees_of (rest i))))

      -- it gives way to the one around it
      pub shut : {out' : List ℕ} {q d : ℕ} → depth ≡ suc d → Wrote out out' p q end (tail_by left) → Going out' os d (get_or os d 0) i q
      unfolding outer
      shut {d = d} e w =
          let f = (closing (tail_by left) (outer os depth) (rest i) g.size (omega (arith, outer_length os depth, g.level))).0 (let x = g.fine in rw (idle os depth left h) at x) in
          moved g w (shuts ∙ rw e refl) (rw e at f) (omega (arith, g.level)) g.stack

      -- and the root is all
      pub ends : {out' : List ℕ} {q : ℕ} → depth ≡ 0 → Wrote out out' p q end (tail_by left) → out' ≡ written (items_of texts row) ++ drop end old
      unfolding outer owed
      ends {out'} {q} e w =
          let o : owed (frames_of os depth left) (trees_of (rest i)) ≡ tail_by left = shuts ∙ rw e (append-nil (tail_by left)) in
          let f : take q out' ≡ written (items_of texts row) = w.front ∙ ap (λ (x : List ℕ). take p out ++ x) (sym o) ∙ g.is in
          let n : q ≡ end = omega (arith, w.to, room g, ap length o) in
          sym (take-append-drop q out') ∙ ap (λ (x : List ℕ). x ++ drop q out') f ∙ ap (λ (x : List ℕ). written (items_of texts row) ++ x) (ap (λ (m : ℕ). drop m out') n ∙ w.rest ∙ g.behind)

    -- a child is left
    module _ (h : 2 ≤ left) where
      waits : Fine (frame (suc ((left - 2) / 2)) (tail_by left) ∷ outer os depth) (rest i) g.size
      waits = let x = g.fine in rw (busy os depth left h) at x

      -- three numbers are there
      pub three : i + 3 ≤ length row
      unfolding total
      three = omega (arith, items.three texts (drop i row) waits.goes (omega (arith, waits.counted)), length-drop i row)

      abbrev pub item : Item
      item = items.at texts row i

      comes : Fine (frame (suc ((left - 2) / 2)) (tail_by left) ∷ outer os depth) (item ∷ rest (i + 3)) g.size
      comes = let x = waits in rw (items.one_more texts row i three) at x

      inside : length (outer os depth) + 1 ≤ cap.nesting
      inside = omega (arith, outer_length os depth, g.level)

      abbrev after : ℕ
      after = g.size + (length (head_of item) + length (tail_of item))

      goes : (allowed item ≡ true) × ((length (outer os depth) + 1 + length (tail_of item) ≤ cap.nesting) × Fine (frame (kids_of item) (tail_of item) ∷ frame ((left - 2) / 2) (tail_by left) ∷ outer os depth) (rest (i + 3)) after)
      goes = (coming item (rest (i + 3)) ((left - 2) / 2) (tail_by left) (outer os depth) g.size inside).0 comes

      pub good : allowed item ≡ true
      good = goes.0

      -- its bytes, then its children and tail
      opened : owed (frames_of os depth left) (trees_of (rest i)) ≡ head_of item ++ owed (frame (kids_of item) (tail_of item) ∷ frame ((left - 2) / 2) (tail_by left) ∷ outer os depth) (trees_of (rest (i + 3)))
      unfolding trees_of
      opened = rw (busy os depth left h, items.one_more texts row i three) (opens item (trees_of (rest (i + 3))) ((left - 2) / 2) (tail_by left) (outer os depth) (kids_there item (rest (i + 3)) ((left - 2) / 2) (tail_by left) (outer os depth) g.size goes.1.1.counted))

      pub head-fits : HeadFits item p end (length out)
      head-fits =
          let n = ap length opened ∙ length-append (head_of item) _ in
          record { good = good; fits = omega (arith, room g, n); lent = omega (arith, g.fits.lent, g.kept) }

      -- where it may have children, its kind and its first field say all of it
      module _ (k : 5 ≤ get_or row i 0) where
        alike : item ≡ item_of [] (get_or row i 0) (get_or row (i + 1) 0) 0
        alike = kind_parent texts (get_or row i 0) (get_or row (i + 1) 0) (get_or row (i + 2) 0) k

        pub parent-fits : ParentFits (get_or row i 0) (get_or row (i + 1) 0) p (length out)
        parent-fits =
            let h = head-fits in
            let e = ap (λ (j : Item). length (head_of j)) alike in
            record { above = k; head = record { good = rw alike at h.good; fits = omega (arith, h.fits, h.lent); lent = omega arith } }

        pub parent_wrote : {out' : List ℕ} {q : ℕ} → Wrote out out' p q q (head_of (item_of [] (get_or row i 0) (get_or row (i + 1) 0) 0)) → Wrote out out' p q end (head_of item)
        parent_wrote w = let e = ap (λ (j : Item). length (head_of j)) alike in rw alike (wider refl (omega (arith, head-fits.fits, w.to)) w)

      -- one that is done with at once
      pub past : {out' : List ℕ} {q : ℕ} → Wrote out out' p q end (head_of item) → (kids_of item ≡ 0) × (tail_of item ≡ []) → Going out' os depth (left - 2) (i + 3) q
      past w (k, t) =
          let f = (closing [] (frame ((left - 2) / 2) (tail_by left) ∷ outer os depth) (rest (i + 3)) _ (omega (arith, inside))).0 (let x = goes.1.1 in rw (k, t) at x) in
          let o = opened in
          let c = closes [] (frame ((left - 2) / 2) (tail_by left) ∷ outer os depth) (trees_of (rest (i + 3))) in
          moved {size = g.size + (length (head_of item) + 0)} g w (rw (less os depth left h) (rw (k, t, c) at o)) (rw (less os depth left h) f) g.level g.stack

      -- one that is open now
      pub into : {out' : List ℕ} {q kids : ℕ} → Wrote out out' p q end (head_of item) → frame_of kids ≡ frame (kids_of item) (tail_of item) → ¬ (kids ≡ 0) → Going out' (set os depth (left - 2)) (depth + 1) kids (i + 3) q
      into {out'} {q} {kids} w f s =
          let (k, t) = coming.halves kids f in
          let l = opens-within item (rest (i + 3)) ((left - 2) / 2) (tail_by left) (outer os depth) g.size inside comes (omega arith) in
          let u : depth + 1 ≡ suc depth = omega arith in
          let e = pushed os depth (left - 2) kids (omega (arith, g.level, g.stack)) in
          moved {size = after} g w (rw (u, e, less os depth left h, f) opened) (rw (u, e, less os depth left h, f) goes.1.1) (omega (arith, outer_length os depth)) (length-set os depth (left - 2) ∙ g.stack)

-- byte 131 stands there, and the whole row is to come
module _ (texts row old : List ℕ) (end : ℕ) (f : Fits (items_of texts row) end (length old)) where
  pub some : (1 ≤ end) × (1 ≤ length old)
  unfolding written
  some = (omega (arith, f.ends), omega (arith, f.ends, f.lent))

  pub start : (os : List ℕ) → length os ≡ cap.nesting → Going texts row (set old 0 131) end (set old 0 131) os 0 2 0 1
  unfolding frames_of frame_of written owed
  start os l =
      let o = first_one (trees_of (items_of texts row)) (accepted-is (items_of texts row) f.good).one in
      let n = length-set old 0 131 in
      record {
        size = 1;
        fine = (begins (items_of texts row)).0 f.good;
        is = rw (take-suc-set old 0 131 some.1, o, append-nil (bytes_all (trees_of (items_of texts row)))) refl;
        at = omega (arith, some.1);
        fits = record { good = f.good; ends = f.ends; lent = omega (arith, f.lent) };
        behind = refl;
        kept = refl;
        level = omega arith;
        stack = l;
      }

  -- what stood behind the end stands there still
  pub finish : {new : List ℕ} → new ≡ written (items_of texts row) ++ drop end (set old 0 131) → new ≡ written (items_of texts row) ++ drop end old
  finish e = e ∙ ap (λ (l : List ℕ). written (items_of texts row) ++ l) (drop-set-lt end old 0 131 some.0)
