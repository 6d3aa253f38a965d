-- How answers are told as numbers. Document 01, "Numbers the jig shows".
use Rattle.std.specs.Prelude.{ℕ, ◌≡◌, List, [], ◌∷◌, take, Result, Ok, Err}
use Rattle.std.proofs.lemmas.List.Edits.{sets}
use Rattle.numbers.specs.Numbers as number
use Rattle.numbers.specs.Refusal.{number_of, extra_of}
use Rattle.numbers.specs.declared.Refusal.{Refusal}
use Rattle.reading.specs.Told.{Told}
use Rattle.reading.specs.declared.Segment.{Segment}
use Rattle.reading.specs.Answer.{kind_number}
use Rattle.cache.specs.declared.Name.{Name}
use Rattle.header.specs.declared.HeaderRead.{HeaderRead}
use Rattle.fragments.specs.declared.FirstFragment.{FirstFragment}
use Rattle.fragments.specs.declared.NextFragment.{NextFragment}

-- the interface that this page, the calls' promises and jig/sillthread.h describe; it rises with each change that a caller would notice
abbrev pub interface : ℕ
interface = 1

-- of a read or a lookup: its number, end, offset, extra, terms begun, deepest nesting and how many segments its path has, in this order
abbrev pub answer_words : Told → List ℕ
answer_words a = a.number ∷ a.end ∷ a.offset ∷ a.extra ∷ a.begun ∷ a.deepest ∷ a.len ∷ []

-- "A segment holds its kind and one number": two words for each
unfoldable pub segment_words : List Segment → List ℕ
segment_words [] = []
segment_words (s ∷ p) = kind_number s.kind ∷ s.number ∷ segment_words p

-- the lent words after it: its path from the outermost segment on; the words behind the last stay
unfoldable pub path_words : Told → List ℕ → List ℕ
path_words a words = sets words 0 (segment_words (take a.len a.path))

-- what is told is an answer of the call beneath, of which P holds
pub record Tells (P : Told → Type 0) (told old new : List ℕ) : Type 0 where
  pub answer : Told
  pub promised : P answer
  pub shows : told ≡ answer_words answer
  pub traces : new ≡ path_words answer old

-- of a name: the number, its place in the store, and its length; both 0 where it is refused
abbrev pub name_words : Result Name Refusal → List ℕ
name_words (Ok n) = number.Done ∷ n.at ∷ n.len ∷ []
name_words (Err r) = number_of r ∷ 0 ∷ 0 ∷ []

-- of a header: the number, where the rest begins, the extra
abbrev pub place_words : Result ℕ Refusal → List ℕ
place_words (Ok n) = number.Done ∷ n ∷ 0 ∷ []
place_words (Err r) = number_of r ∷ 0 ∷ extra_of r ∷ []

abbrev pub header_words : HeaderRead → List ℕ
header_words h = place_words h.rest

-- of a first fragment: these, the message's sequence, the fragment's number, and the count of names; of a later one, which has no count
abbrev pub first_words : Result FirstFragment Refusal → List ℕ
first_words (Ok f) = number.Done ∷ f.rest ∷ 0 ∷ f.sequence ∷ f.fragment ∷ f.count ∷ []
first_words (Err r) = number_of r ∷ 0 ∷ extra_of r ∷ 0 ∷ 0 ∷ 0 ∷ []

abbrev pub next_words : Result NextFragment Refusal → List ℕ
next_words (Ok f) = number.Done ∷ f.rest ∷ 0 ∷ f.sequence ∷ f.fragment ∷ []
next_words (Err r) = number_of r ∷ 0 ∷ extra_of r ∷ 0 ∷ 0 ∷ []

-- of a write: the number, how many bytes were written, the extra
abbrev pub written_words : Result ℕ Refusal → List ℕ
written_words = place_words
