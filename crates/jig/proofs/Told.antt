-- What is told of one answer is one. Assumes nothing.
use mathlib.Core.Path.{◌≡◌, ap, sym, ◌∙◌}
use mathlib.Core.List.{List}
use Prim.Native.Nat.{ℕ}
use Rattle.reading.specs.Told.{Told}
use Rattle.tape.specs.Read.{Before, Promised}
use Rattle.tape.proofs.Accepts.{Sure, determined}
use Rattle.jig.specs.Shown.{answer_words, path_words, Tells}

pub told_once : {P Q : Told → Type 0} {told told' old new new' : List ℕ} → ((x y : Told) → P x → Q y → x ≡ y) → Tells P told old new → Tells Q told' old new' → (told ≡ told') × (new ≡ new')
told_once {old = old} once f g =
    let e = once f.answer g.answer f.promised g.promised in
    (f.shows ∙ ap answer_words e ∙ sym g.shows, f.traces ∙ ap (λ (a : Told). path_words a old) e ∙ sym g.traces)

-- and two reads that are told leave one tape
pub read_once : {o : Before} {b : List ℕ} {limit : ℕ} {old tape tape' told told' path new new' : List ℕ} → Sure o →
    Tells (λ r. Promised o b limit r old tape) told path new → Tells (λ r. Promised o b limit r old tape') told' path new' → (told ≡ told') × ((new ≡ new') × (tape ≡ tape'))
read_once sure f g =
    let (e, h) = told_once (λ x y p q. (determined sure p q).0) f g in
    (e, (h, (determined sure f.promised g.promised).1))
