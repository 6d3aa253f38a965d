-- `Cache::get` meets its contract. Assumes nothing.
use mathlib.Core.Path.{sym, ◌∙◌}
use Rattle.cache.proofs.Slots.{got_store, got_absent, got_name}
use Rattle.cache.proofs.Cache.get.Goals as goal

pub returns-then-store-ne-STORE_BYTES : goal.returns-then-store-ne-STORE_BYTES
returns-then-store-ne-STORE_BYTES c = got_store _ _ _ c.if-store-ne-STORE_BYTES.true

pub returns-then-not-is_filled : goal.returns-then-not-is_filled
returns-then-not-is_filled c = got_absent _ _ _ c.if-store-ne-STORE_BYTES.false (sym c.is_filled.ensures ∙ c.if-not-is_filled.true)

pub returns : goal.returns
returns c = rw (c.from.ensures, c.from-at.ensures) (got_name _ _ _ c.if-store-ne-STORE_BYTES.false (sym c.is_filled.ensures ∙ c.if-not-is_filled.false))
