-- What a header leaves of slots: by how it begins, and by whether a name fits its slot. Assumes nothing.
use Prim.Native.Nat.{ℕ, ◌+◌, ◌-◌, ◌≤◌, ◌<◌}
use native.Mathlib.Omega.{arith}
use mathlib.Core.Path.{◌≡◌, ◌∙◌}
use mathlib.Core.List.{List}
use borrow.Author.Tests.{eq-eqb, ne_eqb}
use lib.ListN.{length, take, drop, length-drop}
use lib.Seq.{length-take-le}
use Rattle.std.specs.Prelude.{Ok, Err}
use Rattle.numbers.specs.declared.Refusal.{Refusal}
use Rattle.numbers.specs.declared.Refusal.TheVariants as refusal
use Rattle.references.specs.declared.Opening.{Opening}
use Rattle.references.specs.Header.{start_of, header_of}
use Rattle.names.specs.Form.{left, over}
use Rattle.names.proofs.Going as going
use Rattle.cache.specs.declared.Cache.{Cache}
use Rattle.cache.specs.Names.{store_bytes, marked, stored, Slots, put, slots}
use Rattle.cache.proofs.Lawful as lawful
use Rattle.header.specs.Header.{header_over, referred_over}

abbrev pub of : Cache → List ℕ → Slots
of c s = record { cache = c; store = s }

-- the whole header, the store first
module _ (b : List ℕ) (c : Cache) (s : List ℕ) where
  pub no_store : (length s ≡ store_bytes → ⊥) → header_over b c s ≡ left (Err refusal.Store) (of c s)
  unfolding header_over
  no_store h = rw (ne_eqb (length s) store_bytes h)

  module _ (h : length s ≡ store_bytes) where
    pub is-over : header_over b c s ≡ over slots b (header_of b) (of c s)
    unfolding header_over
    is-over = rw (eq-eqb (length s) store_bytes h)

    pub begins : {o : Opening} → start_of b ≡ Ok o → header_over b c s ≡ referred_over b o c s
    begins e = is-over ∙ going.begins slots b (of c s) e

    pub begins_wrong : {r : Refusal} → start_of b ≡ Err r → header_over b c s ≡ left (Err r) (of c s)
    begins_wrong e = is-over ∙ going.begins_wrong slots b (of c s) e

-- a name of k bytes that lies in the header, into its slot
module _ (b : List ℕ) (c : Cache) (s : List ℕ) (slot at k : ℕ) (inside : at + k ≤ length b) where
  size : length (take k (drop at b)) ≡ k
  size = length-take-le k (drop at b) (simp length-drop (omega arith))

  pub fits : k ≤ 255 → {d : Cache} {t : List ℕ} → d ≡ record { filled = marked c.filled slot } → t ≡ stored s slot (take (at + k - at) (drop at b)) →
      put (of c s) slot (take k (drop at b)) ≡ Ok (of d t)
  fits h e f =
      let d : at + k - at ≡ k = omega arith in
      rw (e, f, d) (lawful.takes (of c s) slot (take k (drop at b)) (omega (arith, size)))

  pub too_large : 255 < k → put (of c s) slot (take k (drop at b)) ≡ Err refusal.Name
  too_large h = lawful.too_large (of c s) slot (take k (drop at b)) (omega (arith, size))
