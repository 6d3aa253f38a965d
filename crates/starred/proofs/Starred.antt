-- Document 01's records marked *, in its order, as one statement about what our calls promise: `Starred`, and its proof. Of a read, `room` is
-- the number of words lent. Assumes nothing.
use Prim.Native.Nat.{ℕ, ◌≤◌}
use mathlib.Core.Path.{◌≡◌, refl, sym, ap, ◌∙◌}
use mathlib.Core.List.{List, [], ◌∷◌}
use lib.IntN.{pos, negsuc}
use native.Mathlib.Omega.{arith}
use lib.ListN.{length, take, drop}
use borrow.Author.Tests.{le-ltb, eq-eqb}
use Rattle.std.specs.Prelude.{Ok}
use Rattle.fields.specs.Be.{be, be_at, signed}
use Rattle.fields.specs.Field.{holds, field_at}
use Rattle.rows.specs.Row as row
use Rattle.numbers.specs.Caps.{bits_byte}
use Rattle.numbers.specs.Numbers as number
use Rattle.rows.specs.Layout.{row_at, bits_then}
use Rattle.reading.specs.Told.{Told}
use Rattle.reading.specs.declared.Kind.TheVariants as kind
use Rattle.reading.specs.declared.Segment.{Segment}
use Rattle.reading.specs.Answer.{refusal, answer, starts, read_by}
use Rattle.reading.proofs.Examples.{behind, segment}
use Rattle.heads.specs.Told.{told_head}
use Rattle.heads.specs.Inner.Head as head
use Rattle.heads.specs.Inner.Head.{head_at}
use Rattle.heads.specs.declared.Value.TheVariants as value
use Rattle.heads.proofs.Examples as heads
use Rattle.agree.specs.Head.{head_of}
use Rattle.agree.proofs.HeadIs.{head-is}
use Rattle.tape.specs.Read.{ended, whole_from, read_behind, starts_before, version, record_before, read_all}
use Rattle.lookup.specs.Lookup.{Looked, number as integer}
use Rattle.lookup.proofs.Examples.{last_wins}
use Rattle.cache.specs.declared.Cache.{Cache}
use Rattle.cache.specs.Names.{store_bytes, got_at, part_of}
use Rattle.references.specs.declared.Reference.TheVariants as ref
use Rattle.references.specs.Header.{header_of}
use Rattle.references.proofs.Examples as references
use Rattle.names.specs.Form.{Left, after, put_all}
use Rattle.cache.specs.Names.{Slots, put}
use Rattle.cache.proofs.Views.{put-part}
use Rattle.header.specs.Header.{header_over}

-- a read that is refused, at an offset, with so many terms begun; and one that is Done where there is room for its cells
abbrev Refused : List ℕ → (limit number offset extra begun deepest : ℕ) → List Segment → Type 0
Refused b limit n o x c d p = (room : ℕ) → read_all b limit room ≡ refusal n o x c d p

abbrev Done : List ℕ → (limit words : ℕ) → Type 0
Done b limit words = (room : ℕ) → words ≤ room → (read_all b limit room).number ≡ 0

-- a header that is Done, with the rest at 7, and leaves "a" in slot 5
pub record Heads (l : Left Slots) : Type 0 where
  pub rest : l.rest ≡ Ok 7
  pub slot : part_of l.cache.store (got_at l.cache.cache.filled l.cache.store 5) ≡ 97 ∷ []

pub record Starred : Type 0 where
  -- "empty: Eof at 0. 131: Eof at 1. 130: Tag at 0, terms 0."
  pub empty : Refused [] 64 number.Eof 0 0 0 0 []
  pub nothing : Refused (131 ∷ []) 64 number.Eof 1 0 0 0 []
  pub other : Refused (130 ∷ []) 64 number.Tag 0 0 0 0 []
  -- "131 106: Done. 131 106 0: Trailing, extra 1, offset 2."
  pub nil : Done (131 ∷ 106 ∷ []) 64 5
  pub trailing : Refused (131 ∷ 106 ∷ 0 ∷ []) 64 number.Trailing 2 1 1 1 []
  -- "131 104 2 97 5: Eof, offset 5, path tuple:1, terms 2."
  pub missing : Refused (131 ∷ 104 ∷ 2 ∷ 97 ∷ 5 ∷ []) 64 number.Eof 5 0 2 2 (segment kind.Tuple 1 ∷ [])
  -- "131 88 104 2 106 106: Tag, offset 5, path empty, terms 4."
  pub pid : Refused (131 ∷ 88 ∷ 104 ∷ 2 ∷ 106 ∷ 106 ∷ []) 64 number.Tag 5 0 4 3 []
  -- "131 104 1 106, limit 1: Deep at 3, path tuple:0; limit 2: Done."
  pub deep : Refused (131 ∷ 104 ∷ 1 ∷ 106 ∷ []) 1 number.Deep 3 0 1 1 (segment kind.Tuple 0 ∷ [])
  pub not_deep : Done (131 ∷ 104 ∷ 1 ∷ 106 ∷ []) 2 10
  -- "131 98 255 255 255 255 is -1; 98 128 0 0 0 is -2147483648."
  pub less_one : head_of (131 ∷ 98 ∷ 255 ∷ 255 ∷ 255 ∷ 255 ∷ []) 1 ≡ (98, Ok (value.Integer (negsuc 0)))
  pub least : head_of (98 ∷ 128 ∷ 0 ∷ 0 ∷ 0 ∷ []) 0 ≡ (98, Ok (value.Integer (negsuc 2147483647)))
  -- "131 77 0 0 0 0 8: Done; bits 7: Bits."
  pub no_bits : Done (131 ∷ 77 ∷ 0 ∷ 0 ∷ 0 ∷ 0 ∷ 8 ∷ []) 64 5
  pub seven_bits : Refused (131 ∷ 77 ∷ 0 ∷ 0 ∷ 0 ∷ 0 ∷ 7 ∷ []) 64 number.Bits 1 0 1 1 []
  -- "131 116 0 0 0 2 97 1 97 7 98 0 0 0 1 97 8: key 1 is found at 15."
  pub found : (r : Told) → Looked (131 ∷ 116 ∷ 0 ∷ 0 ∷ 0 ∷ 2 ∷ 97 ∷ 1 ∷ 97 ∷ 7 ∷ 98 ∷ 0 ∷ 0 ∷ 0 ∷ 1 ∷ 97 ∷ 8 ∷ []) 1 64 (integer (pos 1)) r → (r.number ≡ 0) × (r.offset ≡ 15)
  -- "header 131 68 1 8 5 1 97: slot 5 is "a", rest at 7", and in place of what follows there "the header 131 68 1 9 5 1 97 now stores "a" in slot 5". Over
  -- any cache
  pub header : (c : Cache) (store : List ℕ) → length c.filled ≡ 4 → length store ≡ store_bytes → Heads (header_over (131 ∷ 68 ∷ 1 ∷ 8 ∷ 5 ∷ 1 ∷ 97 ∷ []) c store)
  pub odd_header : (c : Cache) (store : List ℕ) → length c.filled ≡ 4 → length store ≡ store_bytes → Heads (header_over (131 ∷ 68 ∷ 1 ∷ 9 ∷ 5 ∷ 1 ∷ 97 ∷ []) c store)

minus_one : head_at (131 ∷ 98 ∷ 255 ∷ 255 ∷ 255 ∷ 255 ∷ []) 1 ≡ record { tag = 98; value = Ok (value.Integer (negsuc 0)) }
unfolding head_at head.term head.row_value head.fixed row_at row.bytes holds field_at be_at be signed
minus_one = refl

one_name : (b : List ℕ) → header_of b ≡ record { references = ref.New 5 6 1 ∷ []; rest = Ok 7 } → take 1 (drop 6 b) ≡ 97 ∷ [] →
    (c : Cache) (store : List ℕ) → length c.filled ≡ 4 → length store ≡ store_bytes → Heads (header_over b c store)
unfolding header_over put_all after put
one_name b e f c store h k =
    rw (eq-eqb (length store) store_bytes k, e, f)
    (record { rest = refl; slot = put-part c.filled store 5 (97 ∷ []) h k (omega arith) (omega arith) })

pub starred : Starred
unfolding record_before version starts_before read_behind whole_from ended read_by starts answer behind bits_then bits_byte
starred = record {
  empty = λ room. refl;
  nothing = λ room. refl;
  other = λ room. refl;
  nil = λ room h. rw (le-ltb room 5 h) refl;
  trailing = λ room. refl;
  missing = λ room. refl;
  pid = λ room. refl;
  deep = λ room. refl;
  not_deep = λ room h. rw (le-ltb room 10 h) refl;
  less_one = sym (head-is _ 1) ∙ ap told_head minus_one;
  least = sym (head-is _ 0) ∙ ap told_head heads.least;
  no_bits = λ room h. rw (le-ltb room 5 h) refl;
  seven_bits = λ room. refl;
  header = one_name _ (references.examples).one refl;
  odd_header = one_name _ (references.examples).odd refl;
  found = λ r l. let w = last_wins l in (w.0, w.1);
}
