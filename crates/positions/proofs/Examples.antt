-- Positions, and atoms of tag 82, that tell a right function from a wrong one, as the definitions compute them. Assumes nothing.
use Prim.Native.Nat.{ℕ}
use native.Mathlib.Omega.{arith}
use mathlib.Core.Path.{◌≡◌, refl}
use mathlib.Core.Bool.{true, false}
use mathlib.Core.List.{List, [], ◌∷◌, ◌++◌}
use borrow.Author.Tests.{eq-eqb}
use lib.ListN.{length, replicate, length-append}
use Rattle.numbers.specs.Bits as bits
use Rattle.std.specs.Prelude.{Ok, Err}
use Rattle.numbers.specs.declared.Refusal.TheVariants as refusal
use Rattle.fields.specs.Be.{be, be_at}
use Rattle.fields.specs.Field.{holds, field_at, number_then, byte_then}
use Rattle.references.specs.Header.{header_of, slots_of}
use Rattle.references.proofs.Examples as references
use Rattle.references.proofs.Examples.{chapters}
use Rattle.names.specs.Positions.{known_at}
use Rattle.cache.specs.Names.{store_bytes, filled, view, got_at}
use Rattle.positions.specs.Positions.{noted, position_in, position_of, cell_in}

-- the worked example of ETF's chapter: five references, the slots of the two old ones first. What lies behind them in the run stays
pub worked : noted (slots_of (header_of chapters).references) (replicate 7 3) ≡ 5 ∷ 10 ∷ 5 ∷ 236 ∷ 9 ∷ 238 ∷ 3 ∷ []
unfolding noted
worked = rw (references.examples).worked

-- a store in which slot 0 holds "a" and slot 1 holds "b", words that say that both are filled and no other, and a header of two references, to slot 1
-- and to slot 0
module _ (rest : List ℕ) (h : length rest ≡ 65278) where
  abbrev pub store : List ℕ
  store = 1 ∷ 97 ∷ replicate 254 0 ++ (1 ∷ 98 ∷ rest)

  abbrev pub words : List ℕ
  words = 3 ∷ 0 ∷ 0 ∷ 0 ∷ []

  abbrev pub run : List ℕ
  run = 2 ∷ 1 ∷ 0 ∷ []

  size : length store ≡ store_bytes
  size = simp length-append (omega arith)

  pub record Examples : Type 0 where
    -- a position is not a slot: position 0 is "b", slot 0 is "a"
    pub first : position_in words store run 0 ≡ Ok (record { at = 257; len = 1 })
    pub slot : got_at words store 0 ≡ Ok (record { at = 1; len = 1 })
    pub second : position_in words store run 1 ≡ Ok (record { at = 1; len = 1 })
    -- two references have no position 2, whatever lies behind them in the run
    pub past : position_in words store run 2 ≡ Err refusal.Absent
    -- a slot that is empty
    pub empty : position_in words store (1 ∷ 2 ∷ []) 0 ≡ Err refusal.Absent
    -- no header yet
    pub none : position_in words store (replicate 256 0) 0 ≡ Err refusal.Absent
    -- so of references to slots 1 and 2 the first is known, and not the second, whose slot is empty, nor a third
    pub known : known_at (view words store) (1 ∷ 2 ∷ []) 0 ≡ true
    pub unknown : known_at (view words store) (1 ∷ 2 ∷ []) 1 ≡ false
    pub no_third : known_at (view words store) (1 ∷ 2 ∷ []) 2 ≡ false
    -- an atom of tag 82 by its place: the byte behind the tag is the position
    pub cell : cell_in (106 ∷ 82 ∷ 0 ∷ []) words store run 1 ≡ Ok (record { at = 257; len = 1 })
    pub other : cell_in (106 ∷ 82 ∷ 0 ∷ []) words store run 0 ≡ Err refusal.Tag
    pub cut : cell_in (106 ∷ 82 ∷ []) words store run 1 ≡ Err refusal.Eof
    pub end : cell_in (106 ∷ 82 ∷ []) words store run 2 ≡ Err refusal.Eof

  pub examples : Examples
  unfolding position_in got_at filled bits.bit view known_at cell_in position_of byte_then number_then field_at holds be_at be
  examples =
      let e = eq-eqb (length store) store_bytes size in
      record {
        first = rw e refl;
        slot = rw e refl;
        second = rw e refl;
        past = rw e refl;
        empty = rw e refl;
        none = rw e refl;
        known = refl;
        unknown = refl;
        no_third = refl;
        cell = rw e refl;
        other = rw e refl;
        cut = rw e refl;
        end = rw e refl;
      }

-- a store of another size is judged before all
pub no_store : cell_in [] [] [] [] 0 ≡ Err refusal.Store
unfolding cell_in
no_store = refl
