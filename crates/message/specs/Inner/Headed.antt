-- What is found before a message's term: where the term starts, and the positions that are known in it.
use Rattle.std.specs.Prelude.{ℕ, ◌≡◌, List, length, Result, Ok, Err, IfOk}
use Rattle.numbers.specs.Bits.{bit}
use Rattle.numbers.specs.declared.Refusal.{Refusal}
use Rattle.references.specs.Header.{header_of, slots_of}
use Rattle.names.specs.Form.{Left, left}
use Rattle.names.specs.Positions.{known_at}
use Rattle.cache.specs.Names.{Slots, slots}
use Rattle.message.specs.declared.Term.{Term}
use Rattle.message.specs.Message.{noted_by}

abbrev pub start_of_term : Result Term Refusal → Result ℕ Refusal
start_of_term (Ok t) = Ok t.start
start_of_term (Err r) = Err r

-- it is what the header left, with the slots as they are by now; the run of positions is noted by that; and the term's four words tell of each position
-- whether it is known
pub record Headed (b : List ℕ) (l : Left Slots) (r : Result Term Refusal) (s : Slots) (run run' : List ℕ) : Type 0 where
  pub leaves : l ≡ left (start_of_term r) s
  pub noted : run' ≡ noted_by b l run
  pub knows : IfOk r (λ t. (length t.known ≡ 4) × ((k : ℕ) → bit t.known k ≡ known_at (slots.held s) (slots_of (header_of b).references) k))
