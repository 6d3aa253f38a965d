-- Whatever the form of cache, a header is read to its end or refused by a number of the list. Assumes nothing.
use Prim.Native.Nat.{ℕ}
use mathlib.Core.List.{List}
use Rattle.numbers.proofs.Laws.{Shown}
use Rattle.references.specs.Header.{header_of, references}
use Rattle.references.proofs.Outcomes.{header_outcome, fine}
use Rattle.names.specs.Form.{Form, over}

module _ (F : Form) (b : List ℕ) where
  pub names-shown : (wide i k p : ℕ) (s : F.State) → Shown (header_outcome (over F b (references b wide i k p) s).rest)
  names-shown wide i k p s = fine (over F b (references b wide i k p) s).rest

  pub over-shown : (s : F.State) → Shown (header_outcome (over F b (header_of b) s).rest)
  over-shown s = fine (over F b (header_of b) s).rest
