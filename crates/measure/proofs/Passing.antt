-- The first pass over a row's numbers: what its loop keeps, and each way a turn can go. Assumes nothing.
use Rattle.std.proofs.Common.{◌≡◌, ℕ, suc, ◌+◌, ◌-◌, ◌/◌, ◌%◌, ◌<◌, ◌≤◌, true, false, List, [], ◌∷◌, length, get_or, set, Some, None, refl, ◌∙◌, arith, length-set}
use Rattle.numbers.specs.Caps as cap
use Rattle.measure.specs.Item.{Item, items_of, kids_of, allowed}
use Rattle.measure.specs.Term.{needed}
use Rattle.measure.specs.Inner.Own.{head_of, tail_of}
use Rattle.measure.proofs.Rows as items
use Rattle.measure.proofs.Shape.{one_tail}
use Rattle.measure.proofs.Frames.{frame, tail_by, frame_of, frames_of, outer, outer_length, idle, busy, less, pushed}
use Rattle.measure.proofs.Ahead as ahead
use Rattle.measure.proofs.Ahead.{Judged}

module _ (texts row : List ℕ) where
  -- whether all will be well from here is whether the row is accepted; and the numbers are within their bounds
  pub record Going (os : List ℕ) (depth left size i : ℕ) : Type 0 where
    pub judged : Judged (items_of texts row) (frames_of os depth left) (items.from texts row i) size
    pub threes : (length row % 3 ≡ 0) × (i % 3 ≡ 0)
    pub within : i ≤ length row
    pub level : depth < cap.nesting
    pub stack : length os ≡ cap.nesting
    pub short : size ≤ cap.input

  pub start : (os : List ℕ) → length os ≡ cap.nesting → length row % 3 ≡ 0 → Going os 0 2 1 0
  unfolding frames_of frame_of
  start os l h = record { judged = ahead.at_first (items_of texts row); threes = (h, refl); within = omega arith; level = omega arith; stack = l; short = omega arith }

  module _ {os : List ℕ} {depth left size i : ℕ} (g : Going os depth left size i) where
    -- nothing is left of the innermost
    module _ (h : left < 2) where
      closed : Judged (items_of texts row) (frame 0 (tail_by left) ∷ outer os depth) (items.from texts row i) size
      closed = let j = g.judged in rw (idle os depth left h) at j

      -- the root is closed
      pub all : depth ≡ 0 → i ≡ length row → Some size ≡ needed (items_of texts row)
      unfolding outer
      all d e = let j = closed in ahead.ends (rw (items.no_more texts row e, d) at j) g.short

      pub more : depth ≡ 0 → ¬ (i ≡ length row) → None ≡ needed (items_of texts row)
      unfolding outer
      more d e = let j = closed in ahead.goes_on (rw (items.one_more texts row i (omega (arith, g.within, g.threes.0, g.threes.1)), d) at j)

      pub shut : {d : ℕ} → depth ≡ suc d → Going os d (get_or os d 0) size i
      unfolding outer
      shut {d} e =
          let j = ahead.shut (omega (arith, outer_length os depth, g.level)) closed in
          record { judged = rw e at j; threes = g.threes; within = g.within; level = omega (arith, g.level); stack = g.stack; short = g.short }

    -- a child is left
    module _ (h : 2 ≤ left) where
      waits : Judged (items_of texts row) (frame (suc ((left - 2) / 2)) (tail_by left) ∷ outer os depth) (items.from texts row i) size
      waits = let j = g.judged in rw (busy os depth left h) at j

      pub lacks : i ≡ length row → None ≡ needed (items_of texts row)
      lacks e = let j = waits in ahead.lacks (rw (items.no_more texts row e) at j)

      -- and an item
      module _ (k : ¬ (i ≡ length row)) where
        pub three : i + 3 ≤ length row
        three = omega (arith, g.within, g.threes.0, g.threes.1)

        abbrev item : Item
        item = items.at texts row i

        comes : Judged (items_of texts row) (frame (suc ((left - 2) / 2)) (tail_by left) ∷ outer os depth) (item ∷ items.from texts row (i + 3)) size
        comes = let j = waits in rw (items.one_more texts row i three) at j

        inside : length (outer os depth) + 1 ≤ cap.nesting
        inside = omega (arith, outer_length os depth, g.level)

        pub wrong : allowed item ≡ false → None ≡ needed (items_of texts row)
        wrong e = ahead.wrong_item inside comes e

        pub too_long : cap.input < size + (length (head_of item) + length (tail_of item)) → None ≡ needed (items_of texts row)
        too_long e = ahead.too_long inside comes e

        pub too_deep : cap.nesting ≤ depth + 1 → 1 ≤ kids_of item + length (tail_of item) → None ≡ needed (items_of texts row)
        too_deep d e = ahead.too_deep inside comes (omega (arith, outer_length os depth)) e

        -- an item that is done with at once
        pub past : {own : ℕ} → allowed item ≡ true → own ≡ length (head_of item) → (kids_of item ≡ 0) × (tail_of item ≡ []) → size + own ≤ cap.input → Going os depth (left - 2) (size + own) (i + 3)
        past {own} a o (n, t) s =
            let e : size + (length (head_of item) + length (tail_of item)) ≡ size + own = rw t (omega arith) in
            let j = ahead.came inside comes a (rw t (omega (arith, inside))) in
            record {
              judged = rw (less os depth left h) (ahead.shut (omega (arith, inside)) (rw (e, n) at j));
              threes = (g.threes.0, omega (arith, g.threes.1));
              within = three;
              level = g.level;
              stack = g.stack;
              short = s;
            }

        -- one that is open now
        pub into : {own kids : ℕ} → allowed item ≡ true → own ≡ length (head_of item) + length (tail_of item) → frame_of kids ≡ frame (kids_of item) (tail_of item) → depth + 2 ≤ cap.nesting → size + own ≤ cap.input → Going (set os depth (left - 2)) (depth + 1) kids (size + own) (i + 3)
        into {own} {kids} a o f d s =
            let e : size + (length (head_of item) + length (tail_of item)) ≡ size + own = omega arith in
            let j = ahead.came inside comes a (omega (arith, outer_length os depth, one_tail item)) in
            let u : depth + 1 ≡ suc depth = omega arith in
            let p = pushed os depth (left - 2) kids (omega (arith, g.level, g.stack)) in
            record {
              judged = rw (u, p, less os depth left h, f) (rw e at j);
              threes = (g.threes.0, omega (arith, g.threes.1));
              within = three;
              level = omega arith;
              stack = length-set os depth (left - 2) ∙ g.stack;
              short = s;
            }
