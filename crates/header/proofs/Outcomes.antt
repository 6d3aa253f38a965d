-- A header is read to its end or refused by a number of the list, whatever the input and the cache are. Assumes nothing.
use Prim.Native.Nat.{ℕ}
use mathlib.Core.List.{List}
use Rattle.numbers.proofs.Laws.{Shown}
use Rattle.references.specs.Header.{references}
use Rattle.references.proofs.Outcomes.{header_outcome, fine}
use Rattle.names.specs.Form.{over}
use Rattle.names.proofs.Outcomes.{names-shown}
use Rattle.cache.specs.declared.Cache.{Cache}
use Rattle.cache.specs.Names.{Slots, slots}
use Rattle.header.specs.Header.{header_over}

-- its names alone
pub left-shown : (b : List ℕ) (wide i k p : ℕ) (c : Slots) → Shown (header_outcome (over slots b (references b wide i k p) c).rest)
left-shown b wide i k p c = names-shown slots b wide i k p c

pub header-shown : (b : List ℕ) (c : Cache) (s : List ℕ) → Shown (header_outcome (header_over b c s).rest)
header-shown b c s = fine (header_over b c s).rest
