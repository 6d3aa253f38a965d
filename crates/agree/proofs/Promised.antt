-- What the calls of heads promise, whatever they are called with, in the words of specs/Head.antt. Assumes nothing.
use mathlib.Core.Path.{◌≡◌, ap, ◌∙◌}
use Rattle.heads.proofs.head.Reads as heads_head
use Rattle.heads.proofs.part.Reads as heads_part
use Rattle.heads.specs.Told.{told_head}
use Rattle.agree.specs.Head.{head_of, part}
use Rattle.agree.proofs.HeadIs.{head-is, part-is}

-- a promise, of the lifetimes of what is lent, the arguments, the answer, and the parameters at the end
module _ {L : Type 0} {A R S : L → Type 0} {B : Type 0} (Promise : (κ : L) → A κ → R κ → S κ → Type 0) where
  -- what is told of the answer is this
  abbrev Tells : ((κ : L) → R κ → B) → ((κ : L) → A κ → B) → Type 0
  Tells told is = (κ : L) (a : A κ) (r : R κ) (s : S κ) → Promise κ a r s → told κ r ≡ is κ a

pub head-promised : Tells heads_head.Post (λ κ r. told_head r) (λ κ a. head_of a.0.now a.1.0)
head-promised = λ κ a r s p. ap told_head p ∙ head-is _ _

pub part-promised : Tells heads_part.Post (λ κ r. r.now) (λ κ a. part a.0.now a.1.0)
part-promised = λ κ a r s p. p ∙ part-is _ _
