-- What is known of a header that was read and accepted, for who goes over its references again.
use Rattle.std.specs.Prelude.{ℕ, ◌+◌, ◌/◌, ◌<◌, ◌≤◌, ◌≡◌, List, length}
use Rattle.references.specs.declared.Opening.{Opening}
use Rattle.references.specs.Header.{flags_at, referred, slots_of}

-- a header's flags are there, for each of its references
pub record Flagged (b : List ℕ) (o : Opening) : Type 0 where
  pub few : o.count < 256
  pub flags : flags_at + (o.count + 1) / 2 ≤ length b

-- and none of the references is refused, since there are as many slots
pub record AllThere (b : List ℕ) (o : Opening) : Type 0 where
  pub flagged : Flagged b o
  pub slots : length (slots_of (referred b o).references) ≡ o.count
