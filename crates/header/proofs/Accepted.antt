-- A header that is read to its end, over slots: the store is one, and none of the references is refused. An instance of the law for every form of
-- cache. Assumes nothing.
use Prim.Native.Nat.{ℕ}
use native.Mathlib.Omega.{arith}
use mathlib.Core.Path.{◌≡◌, refl, ap, sym, ◌∙◌}
use mathlib.Core.List.{List}
use mathlib.Core.Bool.{Bool, true, false}
use borrow.Author.Tests.{eqb-true}
use lib.Dec.{eqb}
use lib.ListN.{length}
use Rattle.std.specs.Prelude.{Result, Ok, Err}
use Rattle.numbers.specs.declared.Refusal.{Refusal}
use Rattle.numbers.specs.declared.Refusal.TheVariants as refusal
use Rattle.references.specs.declared.Opening.{Opening}
use Rattle.references.specs.Header.{start_of}
use Rattle.references.specs.Inner.Known.{AllThere}
use Rattle.names.specs.Form.{Left}
use Rattle.names.specs.Inner.Map.{Bytes}
use Rattle.names.proofs.Accepted as names
use Rattle.cache.specs.declared.Cache.{Cache}
use Rattle.cache.specs.Names.{store_bytes, Slots, slots}
use Rattle.header.specs.Header.{header_over}
use Rattle.header.proofs.Leaving.{of, is-over}

module _ (b : List ℕ) (c : Cache) (s : List ℕ) {rest : ℕ} (d : (header_over b c s).rest ≡ Ok rest) where
  pub accepted-store : length s ≡ store_bytes
  unfolding header_over
  accepted-store = go (eqb (length s) store_bytes) refl
    where
      go : (t : Bool) → eqb (length s) store_bytes ≡ t → length s ≡ store_bytes
      go true h = eqb-true (length s) store_bytes h
      go false h =
          let f : ◌≡◌ {A = Result ℕ Refusal} (Err refusal.Store) (Ok rest) = rw h at d in
          absurd (let z : ◌≡◌ {A = ℕ} 0 1 = cc in omega arith)

  pub accepted : Bytes b → {o : Opening} → start_of b ≡ Ok o → AllThere b o
  accepted low o = names.accepted slots b low o (of c s) (ap (λ (l : Left Slots). l.rest) (sym (is-over b c s accepted-store)) ∙ d)
