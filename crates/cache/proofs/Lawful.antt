-- The slots are a lawful form of cache: a name that is put changes one slot of the map, and leaves a cache that our calls make. Of such a cache
-- the count of names is the number of slots that hold one. Assumes nothing.
use Prim.Native.Nat.{ℕ, zero, suc, ◌+◌, ◌^◌, ◌≤◌, ◌<◌}
use native.Mathlib.Omega.{arith}
use mathlib.Core.Path.{◌≡◌, refl, sym, ap, ap₂, ◌∙◌}
use mathlib.Core.Bool.{Bool, true, false, cond}
use mathlib.Core.List.{List}
use borrow.Author.Tests.{leb-true, le-leb, lt-leb}
use lib.Dec.{leb}
use lib.ListN.{length, replicate}
use Rattle.std.specs.Prelude.{Some, None, Result, Ok, Err}
use Rattle.numbers.specs.declared.Refusal.{Refusal}
use Rattle.numbers.specs.declared.Refusal.TheVariants as refusal
use Rattle.numbers.proofs.Laws.{Shown}
use Rattle.references.proofs.Outcomes.{header_outcome, fine}
use Rattle.names.specs.Inner.Map.{updated, one, held_slots, Bytes, Lawful}
use Rattle.cache.specs.Names.{store_bytes, filled, count_of, filled_slots, marked, stored, view, Slots, put, slots}
use Rattle.cache.proofs.Below.{Below}
use Rattle.cache.proofs.Counts.{count-is}
use Rattle.cache.proofs.Marks.{marked-length, marked-below, no_word}
use Rattle.cache.proofs.Stores.{stored-length, stored-below}
use Rattle.cache.proofs.Views.{put_view}

-- a cache that our calls make: four words of 64 bits, and a store of 65,536 bytes
pub record Made (s : Slots) : Type 0 where
  pub four : length s.cache.filled ≡ 4
  pub words : Below (2 ^ 64) s.cache.filled
  pub size : length s.store ≡ store_bytes
  pub bytes : Bytes s.store

-- the first of them
pub empty_made : (s : List ℕ) → length s ≡ store_bytes → Bytes s → Made (record { cache = record { filled = replicate 4 0 }; store = s })
empty_made s h low = record { four = refl; words = λ k. rw (no_word 4 k) (omega arith); size = h; bytes = low }

-- a name in its slot
abbrev pub with : Slots → ℕ → List ℕ → Slots
with s i n = record { cache = record { filled = marked s.cache.filled i }; store = stored s.store i n }

-- by the name's length
module _ (s : Slots) (i : ℕ) (n : List ℕ) where
  pub takes : length n ≤ 255 → put s i n ≡ Ok (with s i n)
  unfolding put
  takes h = rw (le-leb (length n) 255 h)

  pub too_large : 255 < length n → put s i n ≡ Err refusal.Name
  unfolding put
  too_large h = rw (lt-leb (length n) 255 h)

  took : {t : Slots} → put s i n ≡ Ok t → (length n ≤ 255) × (with s i n ≡ t)
  unfolding put
  took {t} e = go (leb (length n) 255) refl
    where
      go : (u : Bool) → leb (length n) 255 ≡ u → (length n ≤ 255) × (with s i n ≡ t)
      go true h = let f : ◌≡◌ {A = Result Slots Refusal} (Ok (with s i n)) (Ok t) = rw h at e in (leb-true (length n) 255 h, (cc))
      go false h =
          let f : ◌≡◌ {A = Result Slots Refusal} (Err refusal.Name) (Ok t) = rw h at e in
          absurd (let z : ◌≡◌ {A = ℕ} 0 1 = cc in omega arith)

  pub put-shown : Shown (header_outcome (put s i n))
  put-shown = fine (put s i n)

put-held : {s : Slots} → Made s → (i : ℕ) → i < 256 → (n : List ℕ) → {t : Slots} → put s i n ≡ Ok t → (j : ℕ) → slots.held t j ≡ updated (slots.held s) i n j
put-held {s} h i k n {t} e j =
    let f = took s i n e in
    ap (λ (x : Slots). slots.held x j) (sym f.1) ∙ put_view s.cache.filled s.store i n h.four h.size h.bytes k f.0 j

put_made : {s : Slots} → Made s → (i : ℕ) (n : List ℕ) → Bytes n → {t : Slots} → put s i n ≡ Ok t → Made t
put_made {s} h i n low {t} e =
    let f = took s i n e in
    rw (sym f.1) (record {
      four = marked-length s.cache.filled i ∙ h.four;
      words = marked-below s.cache.filled i h.words;
      size = stored-length s.store i n ∙ h.size;
      bytes = stored-below s.store i n h.bytes f.0 low;
    })

pub slots_lawful : Lawful slots Made
slots_lawful = record {
  put_view = λ {s} h {i} k {n} low e. put-held h i k n e;
  put_sound = λ {s} h {i} k {n} low e. put_made h i n low e;
}

-- the filled slots are those that hold a name
one-is : (t : Bool) (n : List ℕ) → one (cond t (Some n) None) ≡ cond t 1 0
one-is true n = refl
one-is false n = refl

slots-held : (w s : List ℕ) (k : ℕ) → filled_slots w k ≡ held_slots (view w s) k
unfolding filled_slots held_slots view
slots-held w s zero = refl
slots-held w s (suc k) = ap₂ (λ (x y : ℕ). x + y) (slots-held w s k) (sym (one-is (filled w k) _))

pub count_held : (s : Slots) → Made s → count_of s.cache.filled ≡ held_slots (slots.held s) 256
count_held s h = count-is s.cache.filled h.words ∙ slots-held s.cache.filled s.store 256
