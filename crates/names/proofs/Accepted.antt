-- A header that is accepted, over a cache of any form: none of its references is refused, so it has a slot for each of them, and who goes over its
-- references again has nothing to judge (`AllThere`). Assumes nothing.
use Prim.Native.Nat.{ℕ}
use native.Mathlib.Omega.{arith}
use mathlib.Core.Path.{◌≡◌, ap, sym, ◌∙◌}
use mathlib.Core.Bool.{cond}
use mathlib.Core.List.{List, [], ◌∷◌}
use lib.ListN.{take, drop}
use Rattle.std.specs.Prelude.{Result, Ok, Err}
use Rattle.numbers.specs.declared.Refusal.{Refusal}
use Rattle.references.specs.declared.Opening.{Opening}
use Rattle.references.specs.declared.Reference.{Reference}
use Rattle.references.specs.declared.Reference.TheVariants as ref
use Rattle.references.specs.Header.{start_of, header_of}
use Rattle.references.specs.Inner.Known.{AllThere}
use Rattle.references.proofs.Halves.{start-there}
use Rattle.references.proofs.Every.{all_slots}
use Rattle.names.specs.Form.{Form, Left, after, put_all, over}
use Rattle.names.specs.Inner.Map.{Bytes}
use Rattle.names.proofs.Going.{begins}

module _ (F : Form) (b : List ℕ) (rest : Result ℕ Refusal) {e : ℕ} where
  -- what is accepted over any cache is read to its end: a name that is put, and all of them
  by_put : (s : F.State) (next : F.State → Left F.State) (p : Result F.State Refusal) →
      ((t : F.State) → (next t).rest ≡ Ok e → rest ≡ Ok e) → (after s next p).rest ≡ Ok e → rest ≡ Ok e
  unfolding after
  by_put s next (Ok t) h d = h t d
  by_put s next (Err r) h d = absurd (let z : ◌≡◌ {A = ℕ} 0 1 = cc in omega arith)

  pub put_rest : (rs : List Reference) (s : F.State) → (put_all F b rest rs s).rest ≡ Ok e → rest ≡ Ok e
  unfolding put_all
  put_rest [] s d = d
  put_rest (ref.Old slot ∷ rs) s d = put_rest rs s d
  put_rest (ref.New slot at n ∷ rs) s d = by_put s (put_all F b rest rs) (F.put s slot (take n (drop at b))) (put_rest rs) d

-- and its flags are there
pub accepted : (F : Form) (b : List ℕ) → Bytes b → {o : Opening} → start_of b ≡ Ok o → (s : F.State) {e : ℕ} →
    (over F b (header_of b) s).rest ≡ Ok e → AllThere b o
accepted F b low {o} i s d = record {
  flagged = start-there b low i;
  slots = (all_slots b (cond o.long 2 1) 0 o.count o.first).each (put_rest F b _ _ s (ap (λ (l : Left F.State). l.rest) (sym (begins F b s i)) ∙ d));
}
