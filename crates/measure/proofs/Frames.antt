-- The items that are open while a row is gone through: each waits for so many trees, and has bytes behind them. Both passes keep such a row in
-- lent numbers, the innermost apart: children are counted by twos, with one more for a tail. Assumes nothing.
use Rattle.std.proofs.Common.{◌≡◌, ℕ, zero, suc, ◌+◌, ◌-◌, ◌/◌, ◌%◌, ◌<◌, ◌≤◌, cond, eqb, List, [], ◌∷◌, ◌++◌, length, get_or, set, refl, ap, append_assoc, arith, get_or-set_other, get_or-set_same}
use Rattle.layouts.specs.Tree.{Forest, more, count, bytes_all}
use Rattle.measure.specs.Item.{Item, kids_of}
use Rattle.measure.specs.Term.{first, behind, tree_of}
use Rattle.measure.specs.Inner.Own.{head_of, tail_of}
use Rattle.measure.proofs.Forests.{count-first}
use Rattle.measure.proofs.Shape.{split}

-- an open item: how many of its children are still to come, and the bytes behind them
pub data Frame : Type 0 where
  frame : ℕ → List ℕ → Frame

abbrev pub tail_by : ℕ → List ℕ
tail_by left = cond (eqb (left % 2) 1) (106 ∷ []) []

unfoldable pub frame_of : ℕ → Frame
frame_of left = frame (left / 2) (tail_by left)

-- the innermost, which has `left`, and those around it
unfoldable pub frames_of : List ℕ → ℕ → ℕ → List Frame
frames_of os zero left = frame_of left ∷ []
frames_of os (suc d) left = frame_of left ∷ frames_of os d (get_or os d 0)

unfoldable pub outer : List ℕ → ℕ → List Frame
outer os zero = []
outer os (suc d) = frames_of os d (get_or os d 0)

pub top_is : (os : List ℕ) (d left : ℕ) → frames_of os d left ≡ frame_of left ∷ outer os d
unfolding frames_of outer
top_is os zero left = refl
top_is os (suc d) left = refl

pub outer_length : (os : List ℕ) (d : ℕ) → length (outer os d) ≡ d
unfolding outer
outer_length os zero = refl
outer_length os (suc d) = rw (top_is os d (get_or os d 0)) (ap suc (outer_length os d))

-- the innermost by what it has left: nothing but a tail, or a child; when that has come it has two less
module _ (os : List ℕ) (d left : ℕ) where
  pub idle : left < 2 → frames_of os d left ≡ frame 0 (tail_by left) ∷ outer os d
  unfolding frame_of
  idle h = let e : left / 2 ≡ 0 = omega arith in rw (top_is os d left, e) refl

  pub busy : 2 ≤ left → frames_of os d left ≡ frame (suc ((left - 2) / 2)) (tail_by left) ∷ outer os d
  unfolding frame_of
  busy h = let e : left / 2 ≡ suc ((left - 2) / 2) = omega arith in rw (top_is os d left, e) refl

  pub less : 2 ≤ left → frames_of os d (left - 2) ≡ frame ((left - 2) / 2) (tail_by left) ∷ outer os d
  unfolding frame_of
  less h = let e : (left - 2) % 2 ≡ left % 2 = omega arith in rw (top_is os d (left - 2), e) refl

-- a store behind them changes nothing
kept_frames : (os : List ℕ) (d left k x : ℕ) → d ≤ k → frames_of (set os k x) d left ≡ frames_of os d left
unfolding frames_of
kept_frames os zero left k x h = refl
kept_frames os (suc d) left k x h =
    rw (get_or-set_other os k d x 0 (λ e. omega arith)) (ap (λ (fs : List Frame). frame_of left ∷ fs) (kept_frames os d (get_or os d 0) k x (omega arith)))

-- what was innermost is stored, and another is
pub pushed : (os : List ℕ) (d left kids : ℕ) → d < length os → frames_of (set os d left) (suc d) kids ≡ frame_of kids ∷ frames_of os d left
unfolding frames_of
pushed os d left kids h = rw (get_or-set_same os d left 0 h) (ap (λ (fs : List Frame). frame_of kids ∷ fs) (kept_frames os d left d left (omega arith)))

-- how many trees they wait for
unfoldable pub total : List Frame → ℕ
total [] = 0
total (frame n tail ∷ fs) = n + total fs

-- the bytes that are still to be written where these trees are to come
unfoldable pub owed : List Frame → Forest → List ℕ
owed [] ts = []
owed (frame n tail ∷ fs) ts = bytes_all (first n ts) ++ (tail ++ owed fs (behind n ts))

-- nothing is left of the innermost: its tail
pub closes : (tail : List ℕ) (fs : List Frame) (ts : Forest) → owed (frame 0 tail ∷ fs) ts ≡ tail ++ owed fs ts
unfolding owed first behind bytes_all
closes tail fs ts = refl

-- a tree of theirs is an item's: its own bytes, then its children and tail are owed before what was
pub opens : (i : Item) (ts : Forest) (n : ℕ) (tail : List ℕ) (fs : List Frame) → kids_of i ≤ count ts →
    owed (frame (suc n) tail ∷ fs) (more (tree_of i (first (kids_of i) ts)) (behind (kids_of i) ts)) ≡ head_of i ++ owed (frame (kids_of i) (tail_of i) ∷ frame n tail ∷ fs) ts
unfolding owed first behind bytes_all
opens i ts n tail fs k =
    let ks = first (kids_of i) ts in
    let us = behind (kids_of i) ts in
    let r : List ℕ = tail ++ owed fs (behind n us) in
    let f : List ℕ = bytes_all (first n us) in
    rw (split i ks (count-first (kids_of i) ts k), append_assoc (head_of i ++ (bytes_all ks ++ tail_of i)) f r, append_assoc (head_of i) (bytes_all ks ++ tail_of i) (f ++ r), append_assoc (bytes_all ks) (tail_of i) (f ++ r)) refl
