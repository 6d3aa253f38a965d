-- What a reading takes: document 01's table is one, and document 02 adds a tag (P3) and retires one (P13). The rows, reading, the layouts, and
-- what is said of tapes and of acceptance have it as a parameter.
use Rattle.std.specs.Prelude.{ℕ, Bool, true, false}

pub record Allowed : Type 0 where
  -- whether 99, a number as text, is a tag
  pub texts : Bool
  -- whether 82, an atom by its position in a header, is a tag, and which bytes behind it are such a position
  pub names : Bool
  pub known : ℕ → Bool

-- document 01's own: all of its table, and no tag 82
abbrev pub plain : Allowed
plain = record { texts = true; names = false; known = λ _. false }
