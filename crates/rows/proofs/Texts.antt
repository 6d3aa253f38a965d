-- A number text by its two tests, over its 31 bytes. Assumes nothing.
use Prim.Native.Nat.{ℕ}
use mathlib.Core.Path.{◌≡◌}
use mathlib.Core.List.{List}
use mathlib.Core.Bool.{Bool, cond}
use lib.ListN.{take, drop}
use Rattle.std.specs.Prelude.{Ok, Err}
use Rattle.numbers.specs.declared.Refusal.{Refusal}
use Rattle.numbers.specs.declared.Refusal.TheVariants as refusal
use Rattle.literal.specs.Inner.Trim.{trimmed}
use Rattle.literal.specs.Inner.Parse.{is_literal}
use Rattle.rows.specs.Layout.{number_text}
use Rattle.rows.specs.Row.{no, name}

module _ (b : List ℕ) (p : ℕ) where
  abbrev text : List ℕ
  text = take 31 (drop p b)

  pub number-text : {e : ℕ} → name b 31 p ≡ Ok e → (l : Bool) → is_literal (take (trimmed text) text) ≡ l → cond l (Ok e) (no refusal.Literal) ≡ number_text b p
  unfolding number_text
  number-text h l t = rw (h, t)

  -- no name is no number text, and for the same reason
  pub no_text : {r : Refusal} → name b 31 p ≡ Err r → Err r ≡ number_text b p
  unfolding number_text
  no_text h = rw h
