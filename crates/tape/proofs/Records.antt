-- A record, byte 131 and one term: what is said of reading behind anything, of that. Assumes nothing.
use Prim.Native.Nat.{ℕ, suc, ◌≤◌}
use native.Mathlib.Omega.{arith}
use mathlib.Core.Path.{◌≡◌, refl, ap, sym, ◌∙◌}
use mathlib.Core.Logic.{◌↔◌}
use mathlib.Core.List.{List, [], ◌∷◌}
use mathlib.Core.Bool.{Bool, true, false, cond}
use lib.Dec.{eqb}
use lib.ListN.{length, get_or, take}
use borrow.Author.Tests.{eqb-true, eqb-false}
use Rattle.numbers.specs.Caps as cap
use Rattle.numbers.specs.Numbers as number
use Rattle.numbers.specs.Numbers.{among}
use Rattle.numbers.specs.Allowed.{Allowed, plain}
use Rattle.reading.specs.Told.{Told}
use Rattle.std.specs.Prelude.{Ok, Err}
use Rattle.numbers.proofs.Laws.{refusal_listed}
use Rattle.reading.specs.Answer.{Start}
use Rattle.reading.specs.Answer.{starts}
use Rattle.layouts.specs.Tree.{Tree, bytes, size}
use Rattle.layouts.specs.Layout.{Laid}
use Rattle.tape.specs.Cells.{taped}
use Rattle.tape.specs.Read.{Before, refuses, opens, whole_from, starts_before, version, record_before, read_all, Accepted, Recorded}
use Rattle.tape.proofs.Reading.{behind-term, before-term, behind_131}
use Rattle.tape.proofs.Accepts.{Inside, Sure, done-opened, opened}
use Rattle.tape.proofs.Accepts as any

-- what it says that a term is read
pub record Version (b : List ℕ) (from : ℕ) (allow : Allowed) : Type 0 where
  pub first : get_or b 0 0 ≡ 131
  pub here : ¬ (length b ≡ 0)
  pub behind : from ≡ 1
  pub own : allow ≡ plain

never : {A : Type 0} {n x from : ℕ} {allow : Allowed} → refuses n x ≡ opens from allow → A
never e = absurd (let z : ◌≡◌ {A = ℕ} 0 1 = cc in omega arith)

module _ (b : List ℕ) (limit : ℕ) where
  pub opens_record : {from : ℕ} {allow : Allowed} → record_before b limit ≡ opens from allow → Version b from allow
  unfolding record_before starts_before version
  opens_record {from} {allow} = go (starts limit (length b)) (eqb (length b) 0) refl (eqb (get_or b 0 0) 131) refl
    where
      go : (s : Start) (x : Bool) → eqb (length b) 0 ≡ x → (y : Bool) → eqb (get_or b 0 0) 131 ≡ y → starts_before s (cond x (refuses number.Eof 0) (cond y (opens 1 plain) (refuses number.Tag 0))) ≡ opens from allow →
          Version b from allow
      go (Err r) x h y k e = never e
      go (Ok u) true h y k e = never e
      go (Ok u) false h true k e = record { first = eqb-true _ _ k; here = eqb-false _ _ h; behind = let q : 1 ≡ from = cc in sym q; own = let q : plain ≡ allow = cc in sym q }
      go (Ok u) false h false k e = never e

  -- its refusals bear numbers of the list, and it lies in the input
  pub record_sure : Sure (record_before b limit)
  unfolding record_before starts_before version among
  record_sure = go (starts limit (length b)) (eqb (length b) 0) (eqb (get_or b 0 0) 131)
    where
      go : (s : Start) (x y : Bool) → Sure (starts_before s (cond x (refuses number.Eof 0) (cond y (opens 1 plain) (refuses number.Tag 0))))
      go (Err r) x y = refusal_listed r
      go (Ok u) true y = refl
      go (Ok u) false true = tt
      go (Ok u) false false = refl

  pub record_inside : Inside (record_before b limit) b
  record_inside = go (record_before b limit) refl
    where
      go : (o : Before) → record_before b limit ≡ o → Inside o b
      go (refuses n x) e = tt
      go (opens from allow) e = let v = opens_record e in (omega (arith, v.behind), omega (arith, v.behind, v.here))

  -- the byte before the term
  front-is : get_or b 0 0 ≡ 131 → ¬ (length b ≡ 0) → take 1 b ≡ 131 ∷ []
  front-is = go b
    where
      go : (l : List ℕ) → get_or l 0 0 ≡ 131 → ¬ (length l ≡ 0) → take 1 l ≡ 131 ∷ []
      go [] e h = absurd (h refl)
      go (x ∷ l) e h = rw e

  module _ (room : ℕ) where
    pub sound : (read_all b limit room).number ≡ 0 → Accepted plain (131 ∷ []) b limit room
    sound e =
        let o = (done-opened (record_before b limit) b limit room record_sure e).0 in
        let v = opens_record o.is in
        rw (v.own, v.behind, front-is v.first v.here) at o.accepted

    -- an accepted input is read, and its terms are counted
    pub complete : 1 ≤ limit → limit ≤ cap.nesting → length b ≤ cap.input → (x : Accepted plain (131 ∷ []) b limit room) → ((read_all b limit room).number ≡ 0) × ((read_all b limit room).begun ≡ size x.tree)
    complete h k l x =
        let len : length b ≡ suc (length (bytes x.tree)) = ap length x.is in
        let first : get_or b 0 0 ≡ 131 = ap (λ (z : List ℕ). get_or z 0 0) x.is in
        let here : ¬ (length b ≡ 0) = λ z. omega arith in
        let f = front-is first here in
        let y : Accepted plain (take 1 b) b limit room = rw f x in
        let r : whole_from plain b 1 limit room ≡ read_all b limit room = behind-term b limit room (before-term b limit (h, (k, l)) here first) in
        rw r at (any.complete plain b 1 limit room (omega arith) h k l y)

    -- "accepted exactly when it is byte 131 and one whole term"
    pub accepts : 1 ≤ limit → limit ≤ cap.nesting → length b ≤ cap.input → ((read_all b limit room).number ≡ 0) ↔ Accepted plain (131 ∷ []) b limit room
    accepts h k l = (sound, λ x. (complete h k l x).0)

-- a call of `read` that was Done: its term, and its tape
module _ {b : List ℕ} {limit : ℕ} {r : Told} {old new : List ℕ} (p : Recorded b limit r old new) (d : r.number ≡ 0) where
  pub accepted : Accepted plain (131 ∷ []) b limit (length old)
  accepted = sound b limit (length old) (ap (λ (a : Told). a.number) (sym p.answered) ∙ d)

  pub written : (t : Tree) → Laid plain t → b ≡ 131 ∷ bytes t → new ≡ taped 1 t old
  written t l e =
      let o = opened (record_sure b limit) p d in
      let v = opens_record b limit o.is in
      p.done d 1 plain (rw (v.own, v.behind) at o.is) t l (behind_131 t e)
