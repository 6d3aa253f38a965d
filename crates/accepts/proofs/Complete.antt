-- Every layout is read to its end: where the bytes of a term stand, and its nesting is within what is left, reading is Done behind them,
-- has begun as many terms as are in it, and has been as deep as it is nested. Assumes nothing.
use Prim.Native.Nat.{ℕ, zero, suc, ◌+◌, ◌-◌, ◌*◌, ◌≤◌, ◌<◌, max}
use native.Mathlib.Omega.{arith}
use native.Mathlib.Nat.{add-zero, zero-add}
use mathlib.Core.Path.{◌≡◌, refl, ◌∙◌}
use mathlib.Core.Bool.{Bool, true}
use mathlib.Core.List.{List, [], ◌++◌, append_assoc, append-nil}
use lib.ListN.{length, get_or, length-append}
use borrow.Author.Tests.{lt-ltb, le-leb}
use Rattle.numbers.specs.Allowed.{Allowed}
use Rattle.fields.specs.Be.{be}
use Rattle.fields.specs.Field.{number_at}
use Rattle.fields.proofs.Laws.{is-there, number_of}
use Rattle.rows.specs.Layout as rows
use Rattle.reading.specs.declared.Kind.{Kind}
use Rattle.reading.specs.declared.Kind.TheVariants as kind
use Rattle.reading.specs.Reading.{State, Result, done, and_then, entered, moved, begin, fields, pass, sized, counted}
use Rattle.reading.specs.Terms as terms
use Rattle.reading.specs.Terms.{elems, pair, pairs, required, is_atom, is_natural, is_pid, body, term}
use Rattle.reading.proofs.Families.{fields-to, pass_on, sized-is, counted_is, required-good, then_done, assoc, is-pid}
use Rattle.rows.proofs.Laws.{count_in}
use Rattle.layouts.specs.Tree.{Tree, Forest, node, none, more, leaf, tag_of, count, bytes, bytes_all, size, sizes, depth, depths, Stands}
use Rattle.layouts.specs.Layout as lay
use Rattle.layouts.specs.Layout.{Number, IsAtom, IsNatural, Leaf, Laid, AllLaid}
use Rattle.layouts.proofs.Stands.{byte, behind, left, right, spells}
use Rattle.accepts.proofs.Leaves.{leaf_complete}

-- reading is Done: it stops at e, and has begun n terms more, nested d deep inside `around` others. Where it has begun none, d is 0, and
-- the deepest nesting need not reach `around`: so that stands on both sides
pub record Reads (o : Result) (s : State) (e n around d : ℕ) : Type 0 where
  pub stop : State
  pub is : o ≡ done stop
  pub at : stop.at ≡ e
  pub counted : stop.begun ≡ s.begun + n
  pub rises : s.deepest ≤ stop.deepest
  pub nested : max stop.deepest around ≡ max s.deepest (around + d)

max-zero : (n : ℕ) → max n 0 ≡ n
max-zero n = omega arith

zero-max : (n : ℕ) → max 0 n ≡ n
zero-max n = omega arith

module _ (b : List ℕ) (around : ℕ) where
  -- wherever the bytes l stand, f reads just them, and begins n terms, nested d deep
  record Over (f : State → Result) (l : List ℕ) (n d : ℕ) : Type 0 where
    run : (s : State) → Stands b s.at l → Reads (f s) s (s.at + length l) n around d

  -- one step, then another, over bytes side by side
  both : {f : State → Result} {g : State → State → Result} {l m : List ℕ} {n k d e : ℕ} → Over f l n d → ((s : State) → Over (g s) m k e) → Over (λ s. and_then (f s) (g s)) (l ++ m) (n + k) (max d e)
  both {f} {g} {l} {m} x y = record {
    run = λ s h.
        let c = x.run s (left b s.at l m h) in
        let d = (y s).run c.stop (rw c.at (right b s.at l m h)) in
        record {
          stop = d.stop;
          is = then_done (f s) (g s) c.is ∙ d.is;
          at = omega (arith, c.at, d.at, length-append l m);
          counted = omega (arith, c.counted, d.counted);
          rises = omega (arith, c.rises, d.rises);
          nested = omega (arith, c.nested, d.nested);
        };
  }

  -- a reader that is Done wherever another is
  likewise : {f g : State → Result} {l : List ℕ} {n d : ℕ} → ((s t : State) → Stands b s.at l → f s ≡ done t → g s ≡ done t) → Over f l n d → Over g l n d
  likewise e x = record { run = λ s h. let c = x.run s h in record { stop = c.stop; is = e s c.stop h c.is; at = c.at; counted = c.counted; rises = c.rises; nested = c.nested } }

  -- n bytes
  passed : (l : List ℕ) (n : ℕ) → length l ≡ n → Over (pass b n) l 0 0
  passed l n e = record {
    run = λ s h.
        let i = is-there n b s.at (omega (arith, h.inside)) in
        record { stop = moved (s.at + n) s; is = pass_on b n s i; at = omega arith; counted = omega arith; rises = omega arith; nested = omega arith };
  }

  -- f reads a tree; f reads what stands behind a tag
  record Child (f : State → Result) (t : Tree) : Type 0 where
    over : Over f (bytes t) (size t) (depth t)

  record Parts (f : State → Result) (front : List ℕ) (kids : Forest) (back : List ℕ) : Type 0 where
    over : Over f (front ++ (bytes_all kids ++ back)) (sizes kids) (depths kids)

  module _ {front : List ℕ} {kids : Forest} {back : List ℕ} where
    -- a reader that answers the same
    same : {f g : State → Result} → ((s : State) → g s ≡ f s) → Parts f front kids back → Parts g front kids back
    same e x = record { over = likewise (λ s t h i. e s ∙ i) x.over }

    -- bytes in front
    after : (l : List ℕ) {n : ℕ} {f : State → Result} → length l ≡ n → Parts f front kids back → Parts (λ s. and_then (pass b n s) f) (l ++ front) kids back
    after l {n} e x = record { over = rw (append_assoc, ← zero-add (sizes kids), ← zero-max (depths kids)) (both (passed l n e) (λ s. x.over)) }

  module _ {kids : Forest} {back : List ℕ} where
    -- a number, and what is read behind it
    behind-number : {k : ℕ} {l : List ℕ} {f g : State → Result} → length l ≡ k → ((s : State) → Stands b s.at l → g s ≡ f (moved (s.at + k) s)) → Parts f [] kids back → Parts g l kids back
    behind-number {k} {l} w e x = record {
      over = record {
        run = λ s h.
            let m = bytes_all kids ++ back in
            let c = x.over.run (moved (s.at + k) s) (rw w at (right b s.at l m h)) in
            record {
              stop = c.stop;
              is = e s (left b s.at l m h) ∙ c.is;
              at = omega (arith, c.at, length-append l m);
              counted = c.counted;
              rises = c.rises;
              nested = c.nested;
            };
      };
    }

    -- a count, and one within its cap
    counting : {k n : ℕ} {l : List ℕ} (f : ℕ → State → Result) → Number k l n → Parts (f n) [] kids back → Parts (sized k b f) l kids back
    counting {k} f w x = behind-number w.wide (λ s h. sized-is k b f s (spells b s.at h w)) x

    capping : {most n : ℕ} {l : List ℕ} (f : ℕ → State → Result) → Number 4 l n → n ≤ most → Parts (f n) [] kids back → Parts (counted most b f) l kids back
    capping {most} f w c x = behind-number w.wide (λ s h. counted_is most b f s (count_in most b s.at (spells b s.at h w) c)) x

    -- a child, and what stands behind it
    next : {x : Tree} {f : State → Result} {g : State → State → Result} → Child f x → ((s : State) → Parts (g s) [] kids back) → Parts (λ s. and_then (f s) (g s)) [] (more x kids) back
    unfolding bytes_all sizes depths
    next x y = record { over = rw append_assoc (both x.over (λ s. (y s).over)) }

  -- a last child, no child, and the bytes behind the children
  sole : {x : Tree} {f : State → Result} → Child f x → Parts f [] (more x none) []
  unfolding bytes_all sizes depths
  sole x = record { over = simp (append-nil, add-zero, max-zero) x.over }

  nothing : Parts done [] none []
  unfolding bytes_all sizes depths
  nothing = record { over = record { run = λ s h. record { stop = s; is = refl; at = omega arith; counted = omega arith; rises = omega arith; nested = omega arith } } }

  behind_child : {l : List ℕ} {n : ℕ} → length l ≡ n → Parts (pass b n) [] none l
  unfolding bytes_all sizes depths
  behind_child {l} {n} e = record { over = passed l n e }

  -- a row without children
  rowed : {allow : Allowed} {tag : ℕ} {l : List ℕ} → Leaf allow tag l → Parts (λ s. fields (rows.leaf_at allow b tag s.at) s) l none []
  unfolding bytes_all sizes depths
  rowed {allow = allow} {l = l} w = record {
    over = simp append-nil (record {
      run = λ s h.
          record { stop = moved (s.at + length l) s; is = fields-to s (leaf_complete allow b s.at w h); at = refl; counted = omega arith; rises = omega arith; nested = omega arith };
    });
  }

  module _ (read : State → Result) where
    -- children side by side, all of which are read
    data Each : Forest → Type 0 where
      no_more : Each none
      one_more : {t : Tree} {ts : Forest} → Child read t → Each ts → Each (more t ts)

    -- entering a child makes no difference to one that is read
    inside : {t : Tree} (k : Kind) (i : ℕ) → Child read t → Child (λ s. entered k i (read s)) t
    unfolding entered
    inside k i x = record { over = likewise (λ s t h e. rw e) x.over }

    -- they are read one after the other
    elements : {ts : Forest} → Each ts → (k : Kind) (i : ℕ) → Parts (elems read k i (count ts)) [] ts []
    unfolding elems count
    elements no_more k i = nothing
    elements (one_more x xs) k i = next (inside k i x) (λ s. elements xs k (i + 1))

    -- the last of them is a list's tail
    tailed : {ts : Forest} → Each ts → (i m : ℕ) → count ts ≡ m + 1 → Parts (λ s. and_then (elems read kind.List i m s) (λ t. entered kind.Tail 0 (read t))) [] ts []
    unfolding elems count
    tailed no_more i m e = absurd (omega arith)
    tailed (one_more x no_more) i zero e = same (λ s. then_done _ _ refl) (sole (inside kind.Tail 0 x))
    tailed (one_more x (one_more y ys)) i zero e = absurd (omega arith)
    tailed (one_more x xs) i (suc m) e = same (λ s. assoc _ _ _) (next (inside kind.List i x) (λ s. tailed xs (i + 1) m (omega arith)))

    -- a key and its value, and so on
    paired : {ts : Forest} → Each ts → (m : ℕ) → count ts ≡ 2 * m → Parts (pairs read m) [] ts []
    unfolding pairs pair count
    paired no_more zero e = nothing
    paired no_more (suc m) e = absurd (omega arith)
    paired (one_more x xs) zero e = absurd (omega arith)
    paired (one_more x no_more) (suc m) e = absurd (omega arith)
    paired (one_more x (one_more y xs)) (suc m) e =
        same (λ s. assoc _ _ _) (next (inside kind.Key 0 x) (λ s. next (inside kind.Value s.at y) (λ t. paired xs m (omega arith))))

    -- a required child is read, and then judged
    needed : {x : Tree} (fits : ℕ → Bool) → Child read x → ((p : ℕ) → Stands b p (bytes x) → fits p ≡ true) → Child (required read fits) x
    needed fits x k = record { over = likewise (λ s t h e. required-good read fits s e (k s.at h)) x.over }

    -- a term's first byte is its tag, and what stands behind it is its number
    first : (t : Tree) (p : ℕ) → Stands b p (bytes t) → get_or b p 0 ≡ tag_of t
    unfolding bytes
    first (node tag front kids back) p h = byte b p tag _ h

    field : (tag k p : ℕ) (l : List ℕ) → length l ≡ k → Stands b p (bytes (leaf tag l)) → number_at k b (p + 1) ≡ be l
    unfolding bytes
    field tag k p l e h = number_of k b (p + 1) (spells b (p + 1) (left b (p + 1) l _ (behind b p tag _ h)) (record { wide = e; is = refl }))

    -- those that are required: an atom, an integer, a pid
    an_atom : {x : Tree} → Child read x → IsAtom (tag_of x) → Child (required read (is_atom b)) x
    unfolding is_atom
    an_atom {x} c w = needed (is_atom b) c (λ p h. go p w (first x p h))
      where
        go : (p : ℕ) {tag : ℕ} → IsAtom tag → get_or b p 0 ≡ tag → is_atom b p ≡ true
        go p lay.atom_100 e = rw e
        go p lay.atom_118 e = rw e
        go p lay.atom_119 e = rw e
        go p lay.atom_82 e = rw e

    a_natural : {allow : Allowed} {x : Tree} {most : ℕ} → Child read x → IsNatural most x → Laid allow x → Child (required read (is_natural most b)) x
    unfolding is_natural
    a_natural {most = most} c (lay.natural_97 {l = l} k) (lay.row (lay.small_integer e)) =
        needed (is_natural most b) c (λ p h. rw (first (leaf 97 l) p h, field 97 1 p l e h, le-leb (be l) most k))
    a_natural {most = most} c (lay.natural_98 {l = l} k) (lay.row (lay.integer e)) =
        needed (is_natural most b) c (λ p h. rw (first (leaf 98 l) p h, field 98 4 p l e h, le-leb (be l) most k))

    a_pid : {x : Tree} → Child read x → tag_of x ≡ 88 → Child (required read (is_pid b)) x
    a_pid {x} c e = needed (is_pid b) c (λ p h. is-pid b p (first x p h ∙ e))

    -- a tag of a row without children is none of the others
    plain : {allow : Allowed} {tag : ℕ} {l : List ℕ} → Leaf allow tag l → (s : State) → body allow read b tag s ≡ fields (rows.leaf_at allow b tag s.at) s
    unfolding body
    plain (lay.small_integer _) s = refl
    plain (lay.integer _) s = refl
    plain (lay.number_text _ _ _) s = refl
    plain (lay.double _) s = refl
    plain (lay.old_atom _ _ _ _) s = refl
    plain (lay.atom _ _ _ _) s = refl
    plain (lay.small_atom _ _ _ _) s = refl
    plain lay.nil s = refl
    plain (lay.string _ _ _) s = refl
    plain (lay.binary _ _ _ _) s = refl
    plain (lay.bit_string _ _ _ _ _ _) s = refl
    plain (lay.small_big _ _ _ _) s = refl
    plain (lay.large_big _ _ _ _) s = refl
    plain (lay.position _ _) s = refl

    -- what stands behind a tag, where children to the depth d are read
    module _ {allow : Allowed} (d : ℕ) (reads : (t : Tree) → Laid allow t → depth t ≤ d → Child read t) where
      each : {ts : Forest} → AllLaid allow ts → depths ts ≤ d → Each ts
      unfolding depths
      each lay.no_more h = no_more
      each (lay.one_more x xs) h = one_more (reads _ x (omega arith)) (each xs (omega arith))

      rest : {tag : ℕ} {front : List ℕ} {kids : Forest} {back : List ℕ} → Laid allow (node tag front kids back) → depths kids ≤ d → Parts (body allow read b tag) front kids back
      unfolding depths body terms.small_tuple terms.large_tuple terms.list terms.map terms.pid terms.reference terms.export terms.function terms.captured
      rest (lay.row w) h = same (plain w) (rowed w)
      rest (lay.small_tuple n ts) h = counting _ n (elements (each ts h) kind.Tuple 0)
      rest (lay.large_tuple n c ts) h = capping _ n c (elements (each ts h) kind.Tuple 0)
      rest (lay.list n c e ts) h = capping _ n c (tailed (each ts h) 0 _ e)
      rest (lay.map n c e ts) h = capping _ n c (paired (each ts h) _ e)
      rest (lay.pid x i e) h = next (an_atom (reads _ x (omega arith)) i) (λ s. behind_child e)
      rest (lay.reference n x i e) h = counting _ n (next (an_atom (reads _ x (omega arith)) i) (λ s. behind_child e))
      rest (lay.port x i e) h = next (an_atom (reads _ x (omega arith)) i) (λ s. behind_child e)
      rest (lay.export x i y j z k) h =
          next (an_atom (reads _ x (omega arith)) i) (λ s.
          next (an_atom (reads _ y (omega arith)) j) (λ s.
          sole (a_natural (reads _ z (omega arith)) k z)))
      rest (lay.function f n e c x i y j z k q l ts) h =
          after f e (counting _ c (
          next (an_atom (reads _ x (omega arith)) i) (λ s.
          next (a_natural (reads _ y (omega arith)) j y) (λ s.
          next (a_natural (reads _ z (omega arith)) k z) (λ s.
          next (a_pid (reads _ q (omega arith)) l) (λ s.
          elements (each ts (omega arith)) kind.Free 0))))))

-- the children's nesting, seen from one level further out
one_deeper : (around deep stop d : ℕ) {w : ℕ} → w ≡ suc around → max deep w ≤ stop → max stop w ≡ max (max deep w) (w + d) → max stop around ≡ max deep (around + suc d)
one_deeper around deep stop d e h k = omega arith

-- a term: its tag, and what stands behind it with one level less
module _ (allow : Allowed) (b : List ℕ) (limit : ℕ) where
  laid : (rem : ℕ) {t : Tree} → Laid allow t → depth t ≤ rem → rem ≤ limit → Child b (limit - rem) (term allow b limit rem) t
  unfolding term depth bytes size
  laid zero {t = node tag front kids back} w d m = absurd (omega arith)
  laid (suc r) {t = node tag front kids back} w d m = record {
    over = record {
      run = λ s h.
          let l = front ++ (bytes_all kids ++ back) in
          let i : s.at < length b = omega (arith, h.inside) in
          let c = (rest b (limit - r) (term allow b limit r) r (λ t x k. laid r x k (omega arith)) w (omega arith)).over.run (begin (limit - r) s) (behind b s.at tag l h) in
          record {
            stop = c.stop;
            is = rw (lt-ltb s.at (length b) i, byte b s.at tag l h) c.is;
            at = omega (arith, c.at);
            counted = omega (arith, c.counted);
            rises = omega (arith, c.rises);
            nested = one_deeper (limit - suc r) s.deepest c.stop.deepest (depths kids) (omega arith) c.rises c.nested;
          };
    };
  }

  -- a layout is read to its end
  pub complete : {t : Tree} → Laid allow t → (rem : ℕ) (s : State) → depth t ≤ rem → rem ≤ limit → Stands b s.at (bytes t) →
      Reads (term allow b limit rem s) s (s.at + length (bytes t)) (size t) (limit - rem) (depth t)
  complete w rem s d m h = (laid rem w d m).over.run s h
