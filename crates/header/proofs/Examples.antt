-- What headers leave of a cache, as the definitions compute it, most of them of an empty one: each tells a right function from a wrong one. Assumes
-- nothing.
use Prim.Native.Nat.{ℕ, zero, suc, ◌+◌, ◌/◌, ◌<◌}
use native.Mathlib.Omega.{arith}
use mathlib.Core.Path.{◌≡◌, refl}
use mathlib.Core.List.{List, [], ◌∷◌, ◌++◌}
use lib.ListN.{replicate}
use Rattle.fields.specs.Be.{be, be_at}
use Rattle.fields.specs.Field.{holds, field_at, number_then, byte_then}
use Rattle.utf8.specs.Unicode.{scalar, encode}
use Rattle.utf8.specs.Inner.Find.{decode, starts, char_bytes, good_from, good_bytes}
use Rattle.std.specs.Prelude.{Ok, Err}
use Rattle.numbers.specs.declared.Refusal.TheVariants as refusal
use Rattle.rows.specs.Row as row
use Rattle.references.specs.Header.{half_of, half_byte, new_in, is_new, long_bit, flagged, start_of, named, new_at, reference_at, behind, references, opened, header_of}
use Rattle.references.proofs.Examples as references
use Rattle.references.proofs.Examples.{reg, call, set_get_state, chapters}
use Rattle.names.specs.Form.{Left, after, put_all, over}
use Rattle.names.specs.Inner.Map.{Named, updated_all, completing, completed, Bytes}
use Rattle.cache.specs.declared.Cache.{Cache}
use Rattle.cache.specs.Names.{marked, Slots, put, slots}
use Rattle.cache.proofs.Lawful.{Made}
use Rattle.header.specs.declared.HeaderRead.{HeaderRead}
use Rattle.header.specs.Header.{header_over, answer_of}
use Rattle.header.proofs.Leaving.{of, is-over}
use Rattle.header.proofs.Maps.{header-view}

abbrev leaves : List ℕ → HeaderRead
leaves b = answer_of (over slots b (header_of b) (of (record { filled = replicate 4 0 }) []))

-- what the worked example of ETF's chapter leaves of a cache: the rest at 34, reg in slot 236, call in 9, set_get_state in 238, and all other slots as
-- they were
abbrev worked_names : List Named
worked_names = record { slot = 236; name = reg } ∷ record { slot = 9; name = call } ∷ record { slot = 238; name = set_get_state } ∷ []

pub record Worked (s : Slots) (l : Left Slots) : Type 0 where
  pub rest : l.rest ≡ Ok 34
  pub names : (j : ℕ) → slots.held l.cache j ≡ updated_all (slots.held s) worked_names j

-- a list of bytes, by what is left of each above 255
abbrev above : List ℕ → ℕ
above [] = 0
above (x ∷ l) = x / 256 + above l

bytes : (l : List ℕ) → above l ≡ 0 → Bytes l
bytes [] e k = omega arith
bytes (x ∷ l) e zero = let small : x < 256 = omega arith in small
bytes (x ∷ l) e (suc k) = bytes l (omega arith) k

pub worked : (c : Cache) (s : List ℕ) → Made (of c s) → Worked (of c s) (header_over chapters c s)
unfolding put_all after put completed completing
worked c s h =
    let over = is-over chapters c s h.size in
    let said = (references.examples).worked in
    record {
      rest = rw (over, said) refl;
      names = λ j. rw said at (header-view chapters (bytes chapters refl) c s h j);
    }

pub record Examples : Type 0 where
  -- slot 5 is filled; both names are stored, not the first alone
  pub filled : (leaves (131 ∷ 68 ∷ 1 ∷ 8 ∷ 5 ∷ 1 ∷ 97 ∷ [])).cache.filled ≡ 32 ∷ 0 ∷ 0 ∷ 0 ∷ []
  pub both_filled : (leaves (131 ∷ 68 ∷ 2 ∷ 136 ∷ 0 ∷ 5 ∷ 1 ∷ 97 ∷ 6 ∷ 1 ∷ 98 ∷ [])).cache.filled ≡ 96 ∷ 0 ∷ 0 ∷ 0 ∷ []
  -- a later fault keeps the names before it
  pub kept-filled : leaves (131 ∷ 68 ∷ 2 ∷ 136 ∷ 0 ∷ 5 ∷ 1 ∷ 97 ∷ 6 ∷ 1 ∷ []) ≡ record { rest = Err refusal.Eof; cache = record { filled = 32 ∷ 0 ∷ 0 ∷ 0 ∷ [] } }
  -- 255 bytes are stored, 256 are not; what is no text is Text first
  pub largest : leaves (131 ∷ 68 ∷ 1 ∷ 24 ∷ 5 ∷ 0 ∷ 255 ∷ replicate 255 97) ≡ record { rest = Ok 262; cache = record { filled = 32 ∷ 0 ∷ 0 ∷ 0 ∷ [] } }
  pub larger : (leaves (131 ∷ 68 ∷ 1 ∷ 24 ∷ 5 ∷ 1 ∷ 0 ∷ replicate 256 97)).rest ≡ Err refusal.Name
  pub text-first : (leaves (131 ∷ 68 ∷ 1 ∷ 24 ∷ 5 ∷ 1 ∷ 0 ∷ replicate 255 97 ++ (255 ∷ []))).rest ≡ Err refusal.Text
  -- a store of another size is judged before all
  pub store : (header_over (130 ∷ []) (record { filled = replicate 4 0 }) []).rest ≡ Err refusal.Store

pub examples : Examples
unfolding header_over put_all after put header_of opened start_of flagged references behind reference_at new_at named long_bit is_new new_in half_byte half_of byte_then number_then row.name row.bytes marked holds field_at be_at be good_bytes good_from char_bytes decode scalar encode starts
examples = record {
  filled = refl;
  both_filled = refl;
  kept-filled = refl;
  largest = refl;
  larger = refl;
  text-first = refl;
  store = refl;
}
