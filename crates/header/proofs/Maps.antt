-- What a header does to the slots, as a map: the names that it completes are put into it in order, refused or not, and nothing else is changed.
-- An instance of the law for every form of cache. Assumes nothing.
use Prim.Native.Nat.{ℕ}
use mathlib.Core.Path.{◌≡◌, ap, ◌∙◌}
use mathlib.Core.List.{List}
use Rattle.references.specs.Header.{header_of}
use Rattle.names.specs.Form.{Left}
use Rattle.names.specs.Inner.Map.{updated_all, completed, Bytes}
use Rattle.names.proofs.Maps.{header-held, header-sound}
use Rattle.cache.specs.declared.Cache.{Cache}
use Rattle.cache.specs.Names.{Slots, slots}
use Rattle.cache.proofs.Lawful.{Made, slots_lawful}
use Rattle.header.specs.Header.{header_over}
use Rattle.header.proofs.Leaving.{of, is-over}

module _ (b : List ℕ) (low : Bytes b) (c : Cache) (s : List ℕ) (h : Made (of c s)) where
  pub header-view : (j : ℕ) → slots.held (header_over b c s).cache j ≡ updated_all (slots.held (of c s)) (completed slots b (header_of b).references (of c s)) j
  header-view j = ap (λ (l : Left Slots). slots.held l.cache j) (is-over b c s h.size) ∙ header-held slots slots_lawful b low (of c s) h j

  -- and the cache stays one that our calls make
  pub header_made : Made (header_over b c s).cache
  header_made = rw (is-over b c s h.size) (header-sound slots slots_lawful b low (of c s) h)
