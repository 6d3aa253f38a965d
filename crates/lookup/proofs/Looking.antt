-- From reading a term to looking a key up in it. Assumes nothing.
use Prim.Native.Nat.{ℕ, ◌+◌, ◌*◌, ◌≤◌}
use mathlib.Core.Path.{◌≡◌, refl, ap, sym, subst, ◌∙◌}
use mathlib.Core.List.{List, []}
use lib.ListN.{length, get_or}
use borrow.Author.Tests.{eq-eqb, ne_eqb}
use Rattle.std.specs.Prelude.{Option}
use Rattle.numbers.specs.Allowed.{plain}
use Rattle.numbers.specs.Caps as cap
use Rattle.fields.specs.Field.{number_at}
use Rattle.numbers.specs.Numbers as answer
use Rattle.reading.specs.Told.{Told}
use Rattle.reading.specs.Answer.{refusal, read_at}
use Rattle.reading.proofs.Answers.{read_short}
use Rattle.layouts.specs.declared.Shape.{Shape}
use Rattle.layouts.specs.Inner.Shape.{shape_by, shape_at}
use Rattle.layouts.specs.Tree.{Tree, node, tag_of, count, bytes, bytes_all}
use Rattle.layouts.proofs.Stands.{left, right, behind}
use Rattle.layouts.proofs.Shapes.{by_tag_lem, shape_is, kids_laid}
use Rattle.accepts.proofs.Accepts.{read_sound}
use Rattle.lookup.specs.Lookup.{Key, Answers, Looked}
use Rattle.lookup.specs.Inner.Found.{told, found, looked}
use Rattle.lookup.specs.Inner.Walk.{Term, Terms, OneTerm, SomeTerms, Finds}
use Rattle.lookup.proofs.Keys.{tag_is, is-inside}
use Rattle.lookup.proofs.Says.{kids_of, answered}

-- where the children of a term stand, and that those of a map come in pairs
kids_at : {b : List ℕ} {p : ℕ} (t : Tree) → length b ≤ cap.input → Term b p t → (s : Shape) → s ≡ shape_at b p → Terms b s.from s.kids (kids_of t)
unfolding bytes
kids_at {b} {p} (node tag front kids back) h i s e =
    rw (e ∙ shape_is b p (node tag front kids back) h i.laid i.stands)
    (record { laid = kids_laid i.laid; counted = refl; stands = left b _ (bytes_all kids) back (right b (p + 1) front _ (behind b p tag _ i.stands)) })

in_pairs : {b : List ℕ} {p : ℕ} (t : Tree) → length b ≤ cap.input → Term b p t → tag_of t ≡ 116 → count (kids_of t) ≡ 2 * number_at 4 b (p + 1)
unfolding shape_by
in_pairs {b} {p} (node tag front kids back) h i f =
    ap (λ (s : Shape). s.kids) (sym (shape_is b p (node tag front kids back) h i.laid i.stands) ∙ sym (by_tag_lem b p 116 (record { within = is-inside i; short = h; is = sym (tag_is i) }) f))

module _ (b : List ℕ) (at limit : ℕ) {a : Told} (is : a ≡ read_at b at limit) where
  -- as reading refuses
  pub passed_on : (k : Key) → ¬ (a.number ≡ 0) → Looked b at limit k a
  passed_on k h = record { refused = λ _. is; done = λ e. absurd (h (ap (λ (x : Told). x.number) is ∙ e)) }

  -- a term was read
  module _ (ok : a.number ≡ 0) where
    fine : (read_at b at limit).number ≡ 0
    fine = ap (λ (x : Told). x.number) (sym is) ∙ ok

    pub short : length b ≤ cap.input
    short = read_short plain b at limit fine

    pub a_term : OneTerm b at
    a_term = let f = read_sound plain b at limit fine in record { short = short; tree = f.tree; is = record { laid = f.laid; stands = f.stands } }

    pub its_kids : (s : Shape) → s ≡ shape_at b at → SomeTerms b s.from s.kids
    its_kids s e = record { short = short; forest = kids_of a_term.tree; are = kids_at a_term.tree short a_term.is s e }

    -- by the term that stands there
    by_term : (k : Key) (r : Told) → ((t : Tree) → Term b at t → r ≡ looked k at t a) → Looked b at limit k r
    by_term k r h =
        record {
          refused = λ n. absurd (n fine);
          done = λ e t l s.
              let i : Term b at t = record { laid = l; stands = s } in
              subst (Answers k at (read_at b at limit) t) (sym (h t i ∙ ap (looked k at t) is)) (answered k at _ t _ (in_pairs t short i));
        }

    pub not-map : (k : Key) (r : Told) → ¬ (get_or b at 0 ≡ 116) → r ≡ refusal answer.Kind at (get_or b at 0) a.begun a.deepest [] → Looked b at limit k r
    unfolding looked
    not-map k r h e = by_term k r go
      where
        go : (t : Tree) → Term b at t → r ≡ looked k at t a
        go (node tag front kids back) i =
            let f : get_or b at 0 ≡ tag = tag_is i in
            rw (ne_eqb tag 116 (λ g. h (f ∙ g))) (e ∙ rw f)

    pub is-map : (k : Key) (s : Shape) (o : Option ℕ) → get_or b at 0 ≡ 116 → s ≡ shape_at b at → Finds b s.from s.kids k o → Looked b at limit k (told at a o)
    unfolding looked
    is-map k s o h e w = by_term k (told at a o) go
      where
        go : (t : Tree) → Term b at t → told at a o ≡ looked k at t a
        go (node tag front kids back) i =
            let f : tag ≡ 116 = sym (tag_is i) ∙ h in
            let g : s.from ≡ at + 1 + length front = ap (λ (x : Shape). x.from) (e ∙ shape_is b at (node tag front kids back) short i.laid i.stands) in
            rw (eq-eqb tag 116 f) (ap (told at a) (w.is kids (kids_at (node tag front kids back) short i s e) ∙ ap (λ (q : ℕ). found k q kids) g))
