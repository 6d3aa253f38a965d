-- A term at a place is read exactly where the layouts describe one there, nested within the limit. Assumes nothing.
use Prim.Native.Nat.{ℕ, ◌+◌, ◌≤◌, ◌<◌}
use native.Mathlib.Omega.{arith}
use mathlib.Core.Path.{◌≡◌, refl, sym, ◌∙◌}
use mathlib.Core.List.{List}
use mathlib.Core.Bool.{Bool, true, false}
use lib.Dec.{ltb}
use lib.ListN.{length}
use borrow.Author.Tests.{ltb-true, ltb-false}
use Rattle.numbers.specs.Caps as cap
use Rattle.numbers.specs.Allowed.{Allowed}
use Rattle.numbers.specs.Numbers as number
use Rattle.reading.specs.Told.{Told}
use Rattle.reading.specs.declared.Segment.{Segment}
use Rattle.reading.specs.Reading.{State, Result, done, no, reach, refused}
use Rattle.reading.specs.Terms.{term}
use Rattle.reading.specs.Answer.{answer, read_by}
use Rattle.reading.proofs.Bounds.{within, at-end}
use Rattle.reading.proofs.Answers.{by-start, read-on}
use Rattle.layouts.specs.Tree.{Tree, Stands, bytes, size, depth}
use Rattle.layouts.specs.Layout.{Laid}
use Rattle.accepts.proofs.Sound.{sound}
use Rattle.accepts.proofs.Complete.{complete}

-- the term that was read, by the layouts
pub record ReadTree (allow : Allowed) (b : List ℕ) (at limit : ℕ) (a : Told) : Type 0 where
  pub tree : Tree
  pub laid : Laid allow tree
  pub shallow : depth tree ≤ limit
  pub stands : Stands b at (bytes tree)
  pub ends : a.end ≡ at + length (bytes tree)
  pub counted : a.begun ≡ size tree
  pub nested : a.deepest ≡ depth tree

module _ (allow : Allowed) (b : List ℕ) (at limit : ℕ) where
  abbrev start : State
  start = record { at = at; last = 0; begun = 0; deepest = 0 }

  -- no refusal has the number of Done
  refuses : (n x : ℕ) (t : State) (p : List Segment) → term allow b limit limit start ≡ no n x t p → 0 < n
  refuses n x t p e = go (ltb (length b) at) refl
    where
      go : (y : Bool) → ltb (length b) at ≡ y → 0 < n
      go true k =
          let f : refused number.Eof (reach start) ≡ no n x t p = sym (at-end allow b limit limit start (omega (arith, ltb-true (length b) at k))) ∙ e in
          let g : n ≡ number.Eof = cc in
          omega arith
      go false k = (rw e at (within allow b limit limit start (ltb-false (length b) at k))).some

  pub read_sound : (read_by allow b at limit).number ≡ 0 → ReadTree allow b at limit (read_by allow b at limit)
  unfolding read_by answer
  read_sound = by-start limit (length b) (λ a. a.number ≡ 0 → ReadTree allow b at limit a) _ (λ h. absurd (omega arith)) (λ h. absurd (omega arith)) (λ k m l. go (term allow b limit limit start) refl)
    where
      go : (o : Result) → term allow b limit limit start ≡ o → (answer o).number ≡ 0 → ReadTree allow b at limit (answer o)
      go (no n x t p) e h = absurd (omega (arith, refuses n x t p e))
      go (done t) e h =
          let l = sound allow b limit limit start t e in
          let r = complete allow b limit l.laid limit start l.shallow (omega arith) l.stands in
          let deep : t.deepest ≡ r.stop.deepest = let f : done t ≡ done r.stop = sym e ∙ r.is in cc in
          record { tree = l.tree; laid = l.laid; shallow = l.shallow; stands = l.stands; ends = l.ends; counted = omega (arith, l.counted); nested = omega (arith, deep, r.nested) }

  pub read_complete : (t : Tree) → Laid allow t → 1 ≤ limit → depth t ≤ limit → limit ≤ cap.nesting → length b ≤ cap.input → Stands b at (bytes t) →
      ((read_by allow b at limit).number ≡ 0) × ((read_by allow b at limit).end ≡ at + length (bytes t)) × ((read_by allow b at limit).begun ≡ size t)
  unfolding answer
  read_complete t l o d h k s =
      let r = complete allow b limit l limit start d (omega arith) s in
      rw (read-on allow b at limit (done r.stop) (λ e. omega arith) h k (sym r.is)) (refl, r.at, omega (arith, r.counted))
