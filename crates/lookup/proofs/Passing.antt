-- Passing terms that are known to be good: what is still to be passed is a row of terms, and a term's place in it is taken by its
-- children. Assumes nothing.
use Prim.Native.Nat.{ℕ, suc, ◌+◌, ◌-◌, ◌≤◌, ◌<◌}
use native.Mathlib.Omega.{arith}
use mathlib.Core.Path.{◌≡◌, refl, ap, sym, ◌∙◌, subst}
use mathlib.Core.List.{List, [], ◌∷◌, ◌++◌, append_assoc, append-nil}
use lib.ListN.{length, length-append}
use Rattle.numbers.specs.Allowed.{plain}
use Rattle.numbers.specs.Caps as cap
use Rattle.layouts.specs.declared.Shape.{Shape}
use Rattle.layouts.specs.Inner.Shape.{shape_at, shape_of}
use Rattle.layouts.specs.Tree.{Tree, Forest, node, none, more, leaf, count, bytes, bytes_all, Stands}
use Rattle.layouts.specs.Layout.{Laid, AllLaid, no_more, one_more}
use Rattle.layouts.proofs.Stands.{left, right, behind}
use Rattle.layouts.proofs.Shapes.{shape_is, kids_laid, one-leaf, OneLeaf}
use Rattle.lookup.specs.Inner.Walk.{Term, Terms, Ends}

-- one row of terms behind another
unfoldable join : Forest → Forest → Forest
join none ts = ts
join (more x xs) ts = more x (join xs ts)

join_bytes : (xs ts : Forest) → bytes_all (join xs ts) ≡ bytes_all xs ++ bytes_all ts
unfolding join bytes
join_bytes none ts = refl
join_bytes (more x xs) ts = rw (join_bytes xs ts, append_assoc (bytes x) (bytes_all xs) (bytes_all ts))

join_count : (xs ts : Forest) → count (join xs ts) ≡ count xs + count ts
unfolding join count
join_count none ts = omega arith
join_count (more x xs) ts = omega (arith, join_count xs ts)

join_laid : {xs ts : Forest} → AllLaid plain xs → AllLaid plain ts → AllLaid plain (join xs ts)
unfolding join
join_laid no_more a = a
join_laid (one_more l k) a = one_more l (join_laid k a)

-- every term has a byte
some_bytes : (ts : Forest) → count ts ≤ length (bytes_all ts)
unfolding bytes count
some_bytes none = omega arith
some_bytes (more (node tag front kids back) ts) = simp length-append (omega (arith, some_bytes ts))

moved : {b : List ℕ} {p q : ℕ} {l m : List ℕ} → p ≡ q → l ≡ m → Stands b p l → Stands b q m
moved e f s = rw (← e, ← f) s

-- what is still to be passed: n terms from p on, that end at e
pub record Owed (b : List ℕ) (p n e : ℕ) : Type 0 where
  pub terms : Forest
  pub are : Terms b p n terms
  pub ends : p + length (bytes_all terms) ≡ e

pub bound : {b : List ℕ} {p n e : ℕ} → Owed b p n e → p + n ≤ length b
bound o = omega (arith, o.are.counted, o.are.stands.inside, some_bytes o.terms)

-- at first a term is owed, and at the end nothing
pub at_first : {b : List ℕ} {p : ℕ} {t : Tree} → Term b p t → Owed b p 1 (p + length (bytes t))
unfolding bytes count
at_first {t = t} i =
    let e : bytes t ++ [] ≡ bytes t = append-nil (bytes t) in
    record {
      terms = more t none;
      are = record { laid = one_more i.laid no_more; counted = refl; stands = moved refl (sym e) i.stands };
      ends = rw e;
    }

pub at_last : {b : List ℕ} {p e : ℕ} → Owed b p 0 e → p ≡ e
unfolding bytes count
at_last {b} {p} {e} o = go o.terms o.are.counted o.ends
  where
    go : (ts : Forest) → count ts ≡ 0 → p + length (bytes_all ts) ≡ e → p ≡ e
    go none i f = omega arith
    go (more t ts) i f = absurd (omega arith)

-- the first term that is owed, taken apart, and what stands behind it
record First (b : List ℕ) (p n e : ℕ) : Type 0 where
  tag : ℕ
  front : List ℕ
  kids : Forest
  back : List ℕ
  others : Forest
  laid : Laid plain (node tag front kids back)
  others_laid : AllLaid plain others
  counted : suc (count others) ≡ n
  stands : Stands b p (bytes (node tag front kids back) ++ bytes_all others)
  ends : p + length (bytes (node tag front kids back) ++ bytes_all others) ≡ e

apart : {b : List ℕ} {p n e : ℕ} → 0 < n → Owed b p n e → First b p n e
unfolding bytes count
apart {b} {p} {n} {e} h o = go o.terms o.are.laid o.are.counted o.are.stands o.ends
  where
    go : (ts : Forest) → AllLaid plain ts → count ts ≡ n → Stands b p (bytes_all ts) → p + length (bytes_all ts) ≡ e → First b p n e
    go none l c s f = absurd (omega arith)
    go (more (node tag front kids back) ts) (one_more a k) c s f =
        record {
          tag = tag;
          front = front;
          kids = kids;
          back = back;
          others = ts;
          laid = a;
          others_laid = k;
          counted = c;
          stands = s;
          ends = f;
        }

empty : {A : Type 0} (l : List A) → length l ≡ 0 → l ≡ []
empty [] h = refl
empty (x ∷ l) h = absurd (omega arith)

-- one child without children ends where its shape says
leaf-end : (b : List ℕ) (p : ℕ) {kids : Forest} → length b ≤ cap.input → OneLeaf kids → AllLaid plain kids → Stands b p (bytes_all kids) → (shape_at b p).from ≡ p + length (bytes_all kids)
unfolding bytes
leaf-end b p short o = subst (λ (ks : Forest). AllLaid plain ks → Stands b p (bytes_all ks) → (shape_at b p).from ≡ p + length (bytes_all ks)) (sym o.is) go
  where
    go : AllLaid plain (more (leaf o.tag o.front) none) → Stands b p (bytes_all (more (leaf o.tag o.front) none)) → (shape_at b p).from ≡ p + length (bytes_all (more (leaf o.tag o.front) none))
    go (one_more a k) s = ap (λ (h : Shape). h.from) (shape_is b p _ short a (left b p _ [] s)) ∙ simp length-append (omega arith)

-- one step on, to p' and n' terms
pub record Step (b : List ℕ) (p e p' n' : ℕ) : Type 0 where
  pub rest : Owed b p' n' e
  pub rises : p < p'

module _ {b : List ℕ} {p n e : ℕ} (o : Owed b p n e) (some : 0 < n) (short : length b ≤ cap.input) {s : Shape} (is : s ≡ shape_at b p) where
  abbrev x : First b p n e
  x = apart some o

  abbrev t : Tree
  t = node x.tag x.front x.kids x.back

  shape : s ≡ shape_of t p
  shape = is ∙ shape_is b p t short x.laid (left b p (bytes t) (bytes_all x.others) x.stands)

  spread : bytes t ++ bytes_all x.others ≡ x.tag ∷ (x.front ++ (bytes_all x.kids ++ (x.back ++ bytes_all x.others)))
  unfolding bytes
  spread = simp append_assoc

  -- what stands behind the front, and how long all is
  inner : Stands b (p + 1 + length x.front) (bytes_all x.kids ++ (x.back ++ bytes_all x.others))
  inner = right b (p + 1) x.front _ (behind b p x.tag _ (moved refl spread x.stands))

  long : e ≡ p + (1 + length x.front + length (bytes_all x.kids) + length x.back + length (bytes_all x.others))
  long = sym x.ends ∙ ap (λ (l : List ℕ). p + length l) spread ∙ simp length-append (omega arith)

  -- where no bytes stand behind its children, they take its place
  pub goes_into : s.back ≡ 0 → Step b p e s.from (n - 1 + s.kids)
  goes_into h =
      let f : x.back ≡ [] = empty x.back (ap (λ (g : Shape). g.back) (sym shape) ∙ h) in
      let g : bytes_all x.kids ++ (x.back ++ bytes_all x.others) ≡ bytes_all (join x.kids x.others) = rw f (sym (join_bytes x.kids x.others)) in
      let j : length (bytes_all (join x.kids x.others)) ≡ length (bytes_all x.kids) + (length x.back + length (bytes_all x.others)) = ap length (sym g) ∙ simp length-append in
      rw shape
      (record {
        rest =
            record {
              terms = join x.kids x.others;
              are =
                  record {
                    laid = join_laid (kids_laid x.laid) x.others_laid;
                    counted = omega (arith, join_count x.kids x.others, x.counted);
                    stands = moved refl g inner;
                  };
              ends = omega (arith, long, j);
            };
        rises = omega arith;
      })

  -- bytes stand only behind one atom: it and they are passed
  pub goes_over : {s' : Shape} → s' ≡ shape_at b s.from → ¬ (s.back ≡ 0) → Step b p e (s'.from + s.back) (n - 1)
  goes_over {s'} is' h =
      let q : ℕ = p + 1 + length x.front in
      let one = one-leaf x.laid (λ z. h (ap (λ (g : Shape). g.back) shape ∙ ap length z)) in
      let f : s'.from ≡ q + length (bytes_all x.kids) = ap (λ (g : Shape). g.from) (is' ∙ ap (λ (g : Shape). shape_at b g.from) shape) ∙ leaf-end b q short one (kids_laid x.laid) (left b q (bytes_all x.kids) _ inner) in
      rw (f, shape)
      (record {
        rest =
            record {
              terms = x.others;
              are = record { laid = x.others_laid; counted = omega (arith, x.counted); stands = right b _ x.back _ (right b q (bytes_all x.kids) _ inner) };
              ends = omega (arith, long);
            };
        rises = omega arith;
      })

-- a term without children ends where its shape says
pub leaf-ends : {b : List ℕ} {p : ℕ} {s : Shape} → length b ≤ cap.input → s ≡ shape_at b p → s.kids ≡ 0 → Ends b p s.from
unfolding bytes count
leaf-ends {b} {p} {s} short e z = record { is = λ t x. by_tree t x (e ∙ shape_is b p t short x.laid x.stands) }
  where
    behind-none : {tag : ℕ} {front back : List ℕ} → Laid plain (node tag front none back) → back ≡ []
    behind-none {back = []} l = refl
    behind-none {back = x ∷ r} l =
        let o = one-leaf l (λ h. absurd (let n : ◌≡◌ {A = ℕ} (suc (length r)) 0 = ap length h in omega arith)) in
        absurd (let n : count none ≡ count (more (leaf o.tag o.front) none) = ap count o.is in omega arith)

    by_tree : (t : Tree) → Term b p t → s ≡ shape_of t p → s.from ≡ p + length (bytes t)
    by_tree (node tag front none back) x f =
        let h = behind-none x.laid in
        let g : s.from ≡ p + 1 + length front = ap (λ (q : Shape). q.from) f in
        simp length-append (omega (arith, ap (length {A = ℕ}) h))
    by_tree (node tag front (more y ys) back) x f =
        let g : s.kids ≡ suc (count ys) = ap (λ (q : Shape). q.kids) f in
        absurd (omega arith)
