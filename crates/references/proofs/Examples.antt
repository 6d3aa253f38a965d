-- Headers that tell a right function from a wrong one, as the definitions compute them; document 01's are among them. Assumes nothing.
use Prim.Native.Nat.{ℕ}
use mathlib.Core.Path.{◌≡◌, refl}
use mathlib.Core.Bool.{true, false}
use mathlib.Core.List.{List, [], ◌∷◌, ◌++◌}
use lib.ListN.{replicate}
use Rattle.fields.specs.Be.{be, be_at}
use Rattle.fields.specs.Field.{holds, field_at, number_then, byte_then}
use Rattle.utf8.specs.Unicode.{scalar, encode}
use Rattle.utf8.specs.Inner.Find.{decode, starts, char_bytes, good_from, good_bytes}
use Rattle.std.specs.Prelude.{Ok, Err}
use Rattle.numbers.specs.declared.Refusal.{Refusal}
use Rattle.numbers.specs.declared.Refusal.TheVariants as refusal
use Rattle.rows.specs.Row as row
use Rattle.references.specs.declared.Reference.{Reference}
use Rattle.references.specs.declared.Reference.TheVariants as ref
use Rattle.references.specs.Header.{Said, half_of, half_byte, new_in, is_new, segment, one_segment, long_bit, flagged, start_of, named, new_at, reference_at, behind, references, opened, header_of, slots_of}

-- what a header says, where all is well, and where it is refused behind some references
abbrev done : List Reference → ℕ → Said
done rs rest = record { references = rs; rest = Ok rest }

abbrev later : List Reference → Refusal → Said
later rs r = record { references = rs; rest = Err r }

-- reg, call and set_get_state, the new names of the chapter's worked example, and it
abbrev pub reg : List ℕ
reg = 114 ∷ 101 ∷ 103 ∷ []

abbrev pub call : List ℕ
call = 99 ∷ 97 ∷ 108 ∷ 108 ∷ []

abbrev pub set_get_state : List ℕ
set_get_state = 115 ∷ 101 ∷ 116 ∷ 95 ∷ 103 ∷ 101 ∷ 116 ∷ 95 ∷ 115 ∷ 116 ∷ 97 ∷ 116 ∷ 101 ∷ []

abbrev pub chapters : List ℕ
chapters = 131 ∷ 68 ∷ 5 ∷ 4 ∷ 137 ∷ 9 ∷ 10 ∷ 5 ∷ 236 ∷ 3 ∷ reg ++ (9 ∷ 4 ∷ call ++ (238 ∷ 13 ∷ set_get_state))

pub record Examples : Type 0 where
  -- "header 131 68 1 8 5 1 97: slot 5 is "a", rest at 7", and "the header 131 68 1 9 5 1 97 now stores "a" in slot 5": the slot is the reference's own,
  -- not its index
  pub one : header_of (131 ∷ 68 ∷ 1 ∷ 8 ∷ 5 ∷ 1 ∷ 97 ∷ []) ≡ done (ref.New 5 6 1 ∷ []) 7
  pub odd : header_of (131 ∷ 68 ∷ 1 ∷ 9 ∷ 5 ∷ 1 ∷ 97 ∷ []) ≡ done (ref.New 5 6 1 ∷ []) 7
  -- the worked example of ETF's chapter: five references, of which the last three are new, with reg, call and set_get_state
  pub worked : header_of chapters ≡ done (ref.Old 10 ∷ ref.Old 5 ∷ ref.New 236 10 3 ∷ ref.New 9 15 4 ∷ ref.New 238 21 13 ∷ []) 34
  -- every new name is told, not the first alone
  pub both : header_of (131 ∷ 68 ∷ 2 ∷ 136 ∷ 0 ∷ 5 ∷ 1 ∷ 97 ∷ 6 ∷ 1 ∷ 98 ∷ []) ≡ done (ref.New 5 7 1 ∷ ref.New 6 10 1 ∷ []) 11
  -- a later fault keeps the names before it
  pub kept : header_of (131 ∷ 68 ∷ 2 ∷ 136 ∷ 0 ∷ 5 ∷ 1 ∷ 97 ∷ 6 ∷ 1 ∷ []) ≡ later (ref.New 5 7 1 ∷ []) refusal.Eof
  -- the low half byte is the first reference's: the first is new and the second old, or the other way round
  pub low : header_of (131 ∷ 68 ∷ 2 ∷ 8 ∷ 0 ∷ 5 ∷ 1 ∷ 97 ∷ 6 ∷ []) ≡ done (ref.New 5 7 1 ∷ ref.Old 6 ∷ []) 9
  pub high : header_of (131 ∷ 68 ∷ 2 ∷ 128 ∷ 0 ∷ 6 ∷ 5 ∷ 1 ∷ 97 ∷ []) ≡ done (ref.Old 6 ∷ ref.New 5 8 1 ∷ []) 9
  -- the bit that says how long a length is stands in the half byte after the last reference: of an even count the low half of the last flag byte,
  -- whatever the high one is, of an odd one the high half, whatever the low one is
  pub even_long : header_of (131 ∷ 68 ∷ 2 ∷ 8 ∷ 1 ∷ 5 ∷ 0 ∷ 1 ∷ 97 ∷ 6 ∷ []) ≡ done (ref.New 5 8 1 ∷ ref.Old 6 ∷ []) 10
  pub even_short : header_of (131 ∷ 68 ∷ 2 ∷ 8 ∷ 16 ∷ 5 ∷ 1 ∷ 97 ∷ 6 ∷ []) ≡ done (ref.New 5 7 1 ∷ ref.Old 6 ∷ []) 9
  pub odd_long : header_of (131 ∷ 68 ∷ 1 ∷ 24 ∷ 5 ∷ 0 ∷ 1 ∷ 97 ∷ []) ≡ done (ref.New 5 7 1 ∷ []) 8
  -- the segment bits say nothing: of the first reference 6 here, of the second 5
  pub ignored : header_of (131 ∷ 68 ∷ 2 ∷ 94 ∷ 0 ∷ 5 ∷ 1 ∷ 97 ∷ 6 ∷ []) ≡ header_of (131 ∷ 68 ∷ 2 ∷ 8 ∷ 0 ∷ 5 ∷ 1 ∷ 97 ∷ 6 ∷ [])
  pub first-segment : segment (131 ∷ 68 ∷ 2 ∷ 94 ∷ []) 0 ≡ 6
  pub second_segment : segment (131 ∷ 68 ∷ 2 ∷ 94 ∷ []) 1 ≡ 5
  -- segment numbers that are all 0, whatever the half byte after the last reference is, of an odd count and of an even one; and one that isn't, of an
  -- old reference, of which the bit worth 8 is not set, and of the last
  pub odd_zero : one_segment (131 ∷ 68 ∷ 1 ∷ 248 ∷ []) 1 ≡ true
  pub even_zero : one_segment (131 ∷ 68 ∷ 2 ∷ 8 ∷ 255 ∷ []) 2 ≡ true
  pub old_other : one_segment (131 ∷ 68 ∷ 2 ∷ 17 ∷ 0 ∷ []) 1 ≡ false
  pub last-other : one_segment (131 ∷ 68 ∷ 2 ∷ 64 ∷ 0 ∷ []) 2 ≡ false
  -- the slots of all references, old ones too, up to a refusal
  pub slots : slots_of (header_of (131 ∷ 68 ∷ 2 ∷ 128 ∷ 0 ∷ 6 ∷ 5 ∷ 1 ∷ 97 ∷ [])).references ≡ 6 ∷ 5 ∷ []
  pub some-slots : slots_of (header_of (131 ∷ 68 ∷ 2 ∷ 128 ∷ 0 ∷ 6 ∷ 5 ∷ 1 ∷ [])).references ≡ 6 ∷ []
  -- a name is judged before it is stored; missing bytes come first, then text
  pub text : header_of (131 ∷ 68 ∷ 1 ∷ 8 ∷ 5 ∷ 1 ∷ 255 ∷ []) ≡ later [] refusal.Text
  pub missing : header_of (131 ∷ 68 ∷ 1 ∷ 8 ∷ 5 ∷ 2 ∷ 255 ∷ []) ≡ later [] refusal.Eof
  pub text-first : header_of (131 ∷ 68 ∷ 1 ∷ 24 ∷ 5 ∷ 1 ∷ 0 ∷ replicate 255 97 ++ (255 ∷ [])) ≡ later [] refusal.Text
  -- a name of any length is one, of 256 bytes too: what a cache takes is not said here
  pub larger : header_of (131 ∷ 68 ∷ 1 ∷ 24 ∷ 5 ∷ 1 ∷ 0 ∷ replicate 256 97) ≡ done (ref.New 5 7 256 ∷ []) 263
  -- no references, no flags
  pub none : header_of (131 ∷ 68 ∷ 0 ∷ []) ≡ done [] 3
  -- a wrong first byte and a wrong second one
  pub tag : header_of (130 ∷ []) ≡ later [] refusal.Tag
  pub kind : header_of (131 ∷ 69 ∷ []) ≡ later [] (refusal.Kind 69)

pub examples : Examples
unfolding header_of opened start_of flagged references behind reference_at new_at named long_bit is_new new_in segment one_segment half_byte half_of byte_then number_then row.name row.bytes holds field_at be_at be good_bytes good_from char_bytes decode scalar encode starts
examples = record {
  one = refl;
  odd = refl;
  worked = refl;
  both = refl;
  kept = refl;
  low = refl;
  high = refl;
  even_long = refl;
  even_short = refl;
  odd_long = refl;
  ignored = refl;
  first-segment = refl;
  second_segment = refl;
  odd_zero = refl;
  even_zero = refl;
  old_other = refl;
  last-other = refl;
  slots = refl;
  some-slots = refl;
  text = refl;
  missing = refl;
  text-first = refl;
  larger = refl;
  none = refl;
  tag = refl;
  kind = refl;
}
