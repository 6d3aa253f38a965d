-- A head is refused where reading is refused at an offset of the head's own, with the same number, offset and extra, is Tag at once where its
-- atom child is no atom, and is a value everywhere else: by the tag, which the heads' definition and reading's both go by. Assumes nothing.
use Prim.Native.Nat.{ℕ, zero, suc, ◌+◌, ◌-◌, ◌≤◌, ◌<◌, max}
use native.Mathlib.Omega.{arith}
use mathlib.Core.Path.{◌≡◌, refl, ap, sym, ◌∙◌}
use mathlib.Core.List.{List}
use mathlib.Core.Bool.{Bool, true, false, cond}
use borrow.Author.Tests.{ltb-true, ltb-false, lt-ltb, le-ltb}
use lib.Dec.{eqb, ltb}
use lib.ListN.{length, get_or}
use Rattle.numbers.specs.Allowed.{plain}
use Rattle.numbers.specs.Caps as cap
use Rattle.numbers.specs.Numbers as number
use Rattle.numbers.proofs.Laws.{none_of, arm}
use Rattle.numbers.specs.declared.Refusal.TheVariants as refusal
use Rattle.rows.specs.Row.{Row}
use Rattle.rows.proofs.Laws.{plain-leaf}
use Rattle.reading.specs.Reading.{State, Result, reach, begin, refused, fields}
use Rattle.reading.specs.Terms.{term, body}
use Rattle.reading.specs.Answer.{answer, read_at}
use Rattle.reading.proofs.Families as way
use Rattle.reading.proofs.Answers.{starts-long, read_no, read-on}
use Rattle.heads.specs.Inner.Head as head
use Rattle.heads.specs.Inner.Head.{head_at}
use Rattle.agree.specs.Head.{has_atom, atom_at, at_once}
use Rattle.agree.specs.Inner.Refusals.{said_by_head, said_by_reading, by_tag, as_reading}
use Rattle.agree.proofs.Ways.{head-long, head-past, head-there}
use Rattle.agree.proofs.Agrees.{Agrees, by, own_start, behind_tag}
use Rattle.agree.proofs.Rows as row
use Rattle.agree.proofs.Atoms as atom

module _ (b : List ℕ) (at begun deepest limit left : ℕ) (here : at < length b) where
  abbrev child : State → Result
  child = term plain b limit (suc left)

  abbrev start : State
  start = behind_tag at begun deepest

  abbrev Tagged : ℕ → Type 0
  Tagged tag = Agrees b at tag (body plain child b tag start) (head.term b tag at)

  by_tag_lem : (tag : ℕ) → Tagged tag
  unfolding body head.term has_atom
  by_tag_lem tag =
      arm Tagged tag 104 (row.small_tuple b at begun deepest limit (suc left) here)
      (arm Tagged tag 105 (row.large_tuple b at begun deepest limit (suc left) here)
      (arm Tagged tag 108 (row.list b at begun deepest limit (suc left) here)
      (arm Tagged tag 116 (row.map b at begun deepest limit (suc left) here)
      (arm Tagged tag 88 (atom.pid b at begun deepest limit left)
      (arm Tagged tag 120 (atom.port b at begun deepest limit left)
      (arm Tagged tag 90 (atom.reference b at begun deepest limit left)
      (arm Tagged tag 113 (row.export b at begun deepest limit (suc left) here)
      (arm Tagged tag 112 (row.function b at begun deepest limit (suc left) here)
      (λ n. by (way.body-rest plain child b tag start n ∙ ap (λ (r : Row). fields r start) (plain-leaf b tag (at + 1))) (search none_of) (row.leaf b at begun deepest (record { none = search none_of }) here)))))))))) (tt {0})

-- at any place
module _ (b : List ℕ) (at left : ℕ) where
  abbrev limit : ℕ
  limit = suc (suc left)

  abbrev root : State
  root = record { at = at; last = 0; begun = 0; deepest = 0 }

  -- a term that is begun, and none
  begun-is : at < length b → term plain b limit limit root ≡ body plain (term plain b limit (suc left)) b (get_or b at 0) (begin (limit - suc left) root)
  unfolding term
  begun-is h = rw (lt-ltb at (length b) h)

  nothing : length b ≤ at → said_by_head (head.no refusal.Eof at) ≡ by_tag b (get_or b at 0) at (answer (refused number.Eof (reach root)))
  unfolding by_tag at_once atom_at answer said_by_reading
  nothing h = rw (out (eqb (get_or b at 0) 90), own_start (get_or b at 0) at)
    where
      out : (x : Bool) → ltb (cond x (at + 3) (at + 1)) (length b) ≡ false
      out true = le-ltb (at + 3) (length b) (omega arith)
      out false = le-ltb (at + 1) (length b) (omega arith)

  agreed : limit ≤ cap.nesting → said_by_head (head_at b at).value ≡ as_reading b at (read_at b at limit)
  unfolding as_reading said_by_reading
  agreed k = go (ltb cap.input (length b)) (ltb at (length b)) refl refl
    where
      go : (x y : Bool) → ltb cap.input (length b) ≡ x → ltb at (length b) ≡ y → said_by_head (head_at b at).value ≡ as_reading b at (read_at b at limit)
      go true y e f =
          let l = ltb-true cap.input (length b) e in
          rw (read_no plain b at limit refusal.Long (starts-long limit (length b) (λ z. omega arith) k l), head-long b at l, e)
      go false true e f =
          let l = ltb-false cap.input (length b) e in
          let h = ltb-true at (length b) f in
          rw (read-on plain b at limit _ (λ z. omega arith) k l (sym (begun-is h)), head-there b at l h, e) (by_tag_lem b at (0 + 1) (max 0 (limit - suc left)) limit left h (get_or b at 0)).agrees
      go false false e f =
          let l = ltb-false cap.input (length b) e in
          let h = ltb-false at (length b) f in
          rw (read-on plain b at limit _ (λ z. omega arith) k l (sym (way.term_eof plain b limit limit root (reach root) h refl)), head-past b at l h, e) (nothing h)

-- with any limit within which an atom child lies
pub heads_as_reading : (b : List ℕ) (at limit : ℕ) → 2 ≤ limit → limit ≤ cap.nesting → said_by_head (head_at b at).value ≡ as_reading b at (read_at b at limit)
heads_as_reading b at zero h k = absurd (omega arith)
heads_as_reading b at (suc zero) h k = absurd (omega arith)
heads_as_reading b at (suc (suc left)) h k = agreed b at left k
