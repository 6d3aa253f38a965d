-- What a header does to a cache of any lawful form, as a map: the names that it completes are put into it in order, refused or not, and nothing
-- else is changed; and the cache stays one that its own calls make. Assumes nothing.
use Prim.Native.Nat.{ℕ}
use mathlib.Core.Path.{◌≡◌, refl, ap, ◌∙◌}
use mathlib.Core.Bool.{cond}
use mathlib.Core.List.{List, [], ◌∷◌}
use lib.Dec.{eqb}
use lib.ListN.{take, drop}
use Rattle.std.specs.Prelude.{Some, Result, Ok, Err}
use Rattle.numbers.specs.declared.Refusal.{Refusal}
use Rattle.utf8.proofs.Eights.{take-bytes, drop-bytes}
use Rattle.references.specs.declared.Reference.{Reference}
use Rattle.references.specs.declared.Reference.TheVariants as ref
use Rattle.references.specs.Header.{header_of}
use Rattle.references.proofs.Every.{All, none, more, Fits, new, all_fit}
use Rattle.names.specs.Form.{Held, Form, Left, after, put_all, over}
use Rattle.names.specs.Inner.Map.{updated, Named, updated_all, completing, completed, Bytes, Lawful}

bytes-part : (b : List ℕ) (n p : ℕ) → Bytes b → Bytes (take n (drop p b))
bytes-part b n p h = take-bytes n (drop p b) (drop-bytes p b h)

-- names that are put into two maps which are the same
same_map : (ns : List Named) (f g : ℕ → Held) → ((j : ℕ) → f j ≡ g j) → (j : ℕ) → updated_all f ns j ≡ updated_all g ns j
unfolding updated_all updated
same_map [] f g h j = h j
same_map (n ∷ ns) f g h j = same_map ns _ _ (λ k. ap (λ (x : Held). cond (eqb n.slot k) (Some n.name) x) (h k)) j

module _ (F : Form) where
  -- by what becomes of a name
  module _ (s : F.State) (n : Named) (more : F.State → Left F.State) (next : F.State → List Named) where
    by_put : (j : ℕ) → ((t : F.State) → F.put s n.slot n.name ≡ Ok t → F.held (more t).cache j ≡ updated_all (updated (F.held s) n.slot n.name) (next t) j) →
        F.held (after s more (F.put s n.slot n.name)).cache j ≡ updated_all (F.held s) (completing n next (F.put s n.slot n.name)) j
    unfolding after completing updated_all
    by_put j h = go (F.put s n.slot n.name) h
      where
        go : (p : Result F.State Refusal) → ((t : F.State) → p ≡ Ok t → F.held (more t).cache j ≡ updated_all (updated (F.held s) n.slot n.name) (next t) j) →
            F.held (after s more p).cache j ≡ updated_all (F.held s) (completing n next p) j
        go (Ok t) h = h t refl
        go (Err r) h = refl

    by_state : (P : F.State → Type 0) → P s → ((t : F.State) → F.put s n.slot n.name ≡ Ok t → P (more t).cache) → P (after s more (F.put s n.slot n.name)).cache
    unfolding after
    by_state P h k = go (F.put s n.slot n.name) k
      where
        go : (p : Result F.State Refusal) → ((t : F.State) → p ≡ Ok t → P (more t).cache) → P (after s more p).cache
        go (Ok t) k = k t refl
        go (Err r) k = h

  module _ {Sound : F.State → Type 0} (L : Lawful F Sound) (b : List ℕ) (low : Bytes b) (rest : Result ℕ Refusal) where
    pub put_all_lem : (rs : List Reference) → All (Fits b) rs → (s : F.State) → Sound s → (j : ℕ) →
        F.held (put_all F b rest rs s).cache j ≡ updated_all (F.held s) (completed F b rs s) j
    unfolding put_all completed updated_all
    put_all_lem [] none s h j = refl
    put_all_lem (ref.Old slot ∷ rs) (more f fs) s h j = put_all_lem rs fs s h j
    put_all_lem (ref.New slot at n ∷ rs) (more (new i e) fs) s h j =
        let low' = bytes-part b n at low in
        by_put s (record { slot = slot; name = take n (drop at b) }) (put_all F b rest rs) (completed F b rs) j
        (λ t q. put_all_lem rs fs t (L.put_sound h i low' q) j ∙ same_map (completed F b rs t) _ _ (L.put_view h i low' q) j)

    pub all_sound : (rs : List Reference) → All (Fits b) rs → (s : F.State) → Sound s → Sound (put_all F b rest rs s).cache
    unfolding put_all
    all_sound [] none s h = h
    all_sound (ref.Old slot ∷ rs) (more f fs) s h = all_sound rs fs s h
    all_sound (ref.New slot at n ∷ rs) (more (new i e) fs) s h =
        by_state s (record { slot = slot; name = take n (drop at b) }) (put_all F b rest rs) (λ t. []) Sound h
        (λ t q. all_sound rs fs t (L.put_sound h i (bytes-part b n at low) q))

  -- so of a whole header, over a cache that the form's own calls made
  module _ {Sound : F.State → Type 0} (L : Lawful F Sound) (b : List ℕ) (low : Bytes b) (s : F.State) (h : Sound s) where
    pub header-held : (j : ℕ) → F.held (over F b (header_of b) s).cache j ≡ updated_all (F.held s) (completed F b (header_of b).references s) j
    header-held = put_all_lem L b low _ (header_of b).references (all_fit b low) s h

    pub header-sound : Sound (over F b (header_of b) s).cache
    header-sound = all_sound L b low _ (header_of b).references (all_fit b low) s h
