-- What a header that is read to its end leaves of slots is the same whatever stands behind it: of what agrees up to its rest, of the input up to
-- there alone, and of all that begins with a header. An instance of the law for every form of cache. Assumes nothing.
use Prim.Native.Nat.{ℕ, ◌≤◌}
use mathlib.Core.Path.{◌≡◌, refl}
use mathlib.Core.List.{List, ◌++◌}
use lib.Dec.{eqb}
use lib.ListN.{length, take}
use Rattle.std.specs.Prelude.{Ok}
use Rattle.numbers.specs.Caps as cap
use Rattle.rows.proofs.Ends.{Agree}
use Rattle.names.proofs.Local.{Local, refusing, either, over_local, rest-inside, leaves_same, size_alone, leaves_alone, leaves_front}
use Rattle.cache.specs.declared.Cache.{Cache}
use Rattle.cache.specs.Names.{store_bytes, slots}
use Rattle.header.specs.Header.{header_over}
use Rattle.header.proofs.Leaving.{of}

module _ (c : Cache) (s : List ℕ) where
  pub header_local : Local (λ b. header_over b c s)
  unfolding header_over
  header_local = either (eqb (length s) store_bytes) (over_local slots (of c s)) (refusing _ refl)

  module _ (b : List ℕ) {e : ℕ} (d : (header_over b c s).rest ≡ Ok e) where
    pub header-inside : (3 ≤ e) × (e ≤ length b)
    header-inside = rest-inside header_local b d

    pub header-same : {b' : List ℕ} → Agree b b' e → length b' ≤ cap.input → header_over b' c s ≡ header_over b c s
    header-same = leaves_same header_local b d

    pub header_alone : (header_over (take e b) c s ≡ header_over b c s) × (length (take e b) ≡ e)
    header_alone = (leaves_alone header_local b d, size_alone header_local b d)

  pub header-front : (front l : List ℕ) → (header_over front c s).rest ≡ Ok (length front) → length (front ++ l) ≤ cap.input →
      header_over (front ++ l) c s ≡ header_over front c s
  header-front = leaves_front header_local
