-- What reading accepts is a term as the layouts describe it: it stands where reading began, is nested no deeper than was left, ends where
-- reading goes on, and is as many terms as were begun. Assumes nothing.
use Prim.Native.Nat.{ℕ, zero, suc, ◌+◌, ◌-◌, ◌*◌, ◌≤◌, ◌<◌}
use native.Mathlib.Omega.{arith}
use mathlib.Core.Path.{◌≡◌, refl, ap, sym, ◌∙◌}
use mathlib.Core.List.{List, [], ◌++◌}
use mathlib.Core.Bool.{Bool, true, false, cond, ◌||◌}
use lib.Dec.{ltb, leb, eqb}
use lib.ListN.{length, get_or, take, drop, length-append}
use borrow.Author.Tests.{leb-true, eqb-true}
use Rattle.fields.specs.Be.{be}
use Rattle.fields.specs.Field.{field_at, number_at}
use Rattle.std.specs.Prelude.{Option, Some, None, Ok, Err}
use Rattle.fields.proofs.Laws.{is_whole, number_of}
use Rattle.numbers.specs.Caps as cap
use Rattle.numbers.specs.Allowed.{Allowed}
use Rattle.numbers.specs.declared.Refusal.{Refusal}
use Rattle.rows.specs.Row.{Row, count_at}
use Rattle.rows.specs.Row as row
use Rattle.std.specs.Prelude as std
use Rattle.rows.proofs.Laws.{count-is}
use Rattle.rows.specs.Layout as rows
use Rattle.rows.proofs.Ends.{bytes-to, bytes-within}
use Rattle.reading.specs.declared.Kind.{Kind}
use Rattle.reading.specs.declared.Kind.TheVariants as kind
use Rattle.reading.specs.declared.Segment.{Segment}
use Rattle.reading.specs.Reading.{State, Result, done, no, and_then, entered, moved, begin, fields, pass, sized, counted}
use Rattle.reading.specs.Terms.{elems, pair, pairs, required, is_atom, is_natural, is_pid}
use Rattle.reading.specs.Terms.{small_tuple, large_tuple, list, map, pid, reference, export, captured, function, body, term}
use Rattle.reading.proofs.Bounds.{ends}
use Rattle.reading.proofs.Families.{sized-is, sized_eof, counted_is, counted-no}
use Rattle.layouts.specs.Tree.{Tree, Forest, node, none, more, tag_of, count, bytes, bytes_all, size, sizes, depth, depths, Stands}
use Rattle.layouts.specs.Layout as lay
use Rattle.layouts.specs.Layout.{Number, IsAtom, IsNatural, Laid, AllLaid}
use Rattle.layouts.proofs.Stands as stand
use Rattle.accepts.proofs.Leaves.{leaf-sound}

-- a term of b from s to t, as the layouts describe it, nested at most `rem` deep
pub record Lies (allow : Allowed) (b : List ℕ) (rem : ℕ) (s t : State) : Type 0 where
  pub tree : Tree
  pub laid : Laid allow tree
  pub shallow : depth tree ≤ rem
  pub stands : Stands b s.at (bytes tree)
  pub ends : t.at ≡ s.at + length (bytes tree)
  pub counted : t.begun ≡ s.begun + size tree

-- n terms side by side
record LiesAll (allow : Allowed) (b : List ℕ) (rem n : ℕ) (s t : State) : Type 0 where
  trees : Forest
  laid : AllLaid allow trees
  many : count trees ≡ n
  shallow : depths trees ≤ rem
  stands : Stands b s.at (bytes_all trees)
  ends : t.at ≡ s.at + length (bytes_all trees)
  counted : t.begun ≡ s.begun + sizes trees

-- the bytes l from s to t, in which no term is begun
record Gone (b : List ℕ) (s t : State) (l : List ℕ) : Type 0 where
  stands : Stands b s.at l
  ends : t.at ≡ s.at + length l
  counted : t.begun ≡ s.begun

-- what reading that goes on came through

never : {A : Type 0} {n x : ℕ} {s t : State} {p : List Segment} → no n x s p ≡ done t → A
never e = absurd (let z : ◌≡◌ {A = ℕ} 0 1 = cc in omega arith)

picked : {A : Type 0} (x : Bool) (o q : Result) {t : State} → (x ≡ true → o ≡ done t → A) → (q ≡ done t → A) → cond x o q ≡ done t → A
picked true o q h k e = h refl e
picked false o q h k e = k e

either : {A : Type 0} (x y : Bool) → (x ≡ true → A) → (y ≡ true → A) → x || y ≡ true → A
either true y h k e = h refl
either false y h k e = k e

through : {A : Type 0} (o : Result) (f : State → Result) {t : State} → ((u : State) → o ≡ done u → f u ≡ done t → A) → and_then o f ≡ done t → A
unfolding and_then
through (done u) f h e = h u refl e
through (no n x s p) f h e = never e

left : (k : Kind) (i : ℕ) (o : Result) {t : State} → entered k i o ≡ done t → o ≡ done t
unfolding entered
left k i (done u) e = e
left k i (no n x s p) e = never e

judged : {A : Type 0} (read : State → Result) (fits : ℕ → Bool) (s : State) {t : State} → (read s ≡ done t → fits s.at ≡ true → A) → required read fits s ≡ done t → A
unfolding required
judged read fits s h = through (read s) _ (λ u d. picked (fits s.at) _ _ (λ k e. h (d ∙ e) k) (λ e. never e))

fielded : {A : Type 0} (r : Row) (s : State) {t : State} → (r ≡ Ok t.at → t.begun ≡ s.begun → A) → fields r s ≡ done t → A
unfolding fields
fielded (Ok p) s {t} h e = let i : moved p s ≡ t = cc in h (ap (λ (u : State). Ok u.at) i) (ap (λ (u : State). u.begun) (sym i))
fielded (Err x) s h e = never e

module _ (b : List ℕ) where
  stays : (s : State) → s.at ≤ length b → Gone b s s []
  stays s h = record { stands = stand.empty b s.at h; ends = omega arith; counted = refl }

  further : {s u t : State} (l m : List ℕ) → Gone b s u l → Gone b u t m → Gone b s t (l ++ m)
  further {s} l m g h =
      let e = length-append l m in
      record { stands = stand.both b s.at l m g.stands (rw (← g.ends) h.stands); ends = omega arith; counted = omega arith }

  -- n bytes
  record Passed (n : ℕ) (s t : State) : Type 0 where
    part : List ℕ
    wide : length part ≡ n
    gone : Gone b s t part

  passed : (n : ℕ) (s : State) {t : State} → pass b n s ≡ done t → Passed n s t
  unfolding pass
  passed n s =
      fielded (row.bytes b n s.at) s (λ d c.
      let i = bytes-to b n s.at d in
      let h = (bytes-within b n s.at d).1 in
      let w = stand.part b s.at n (omega arith) in
      record { part = take n (drop s.at b); wide = w; gone = record { stands = stand.stands b s.at n (omega arith); ends = omega arith; counted = c } })

  -- a number of k bytes
  record Counted (k n : ℕ) (s : State) : Type 0 where
    part : List ℕ
    is : Number k part n
    gone : Gone b s (moved (s.at + k) s) part

  there : (k : ℕ) (s : State) {n : ℕ} → field_at k b s.at ≡ Some n → Counted k n s
  there k s i =
      let h = (is_whole k b s.at i).0 in
      let w = stand.number b s.at i in
      record { part = take k (drop s.at b); is = w; gone = record { stands = stand.stands b s.at k h; ends = omega (arith, w.wide); counted = refl } }

  counts : {A : Type 0} (k : ℕ) (f : ℕ → State → Result) (s : State) {t : State} → ((n : ℕ) → Counted k n s → f n (moved (s.at + k) s) ≡ done t → A) → sized k b f s ≡ done t → A
  counts {A} k f s {t} h e = go (field_at k b s.at) refl
    where
      go : (x : Option ℕ) → field_at k b s.at ≡ x → A
      go (Some n) i = h n (there k s i) (sym (sized-is k b f s i) ∙ e)
      go None i = never (sym (sized_eof k b f s i) ∙ e)

  -- a count within its cap
  caps : {A : Type 0} (most : ℕ) (f : ℕ → State → Result) (s : State) {t : State} → ((n : ℕ) → Counted 4 n s → n ≤ most → f n (moved (s.at + 4) s) ≡ done t → A) → counted most b f s ≡ done t → A
  caps {A} most f s {t} h e = go (count_at most b s.at) refl
    where
      go : (x : std.Result ℕ Refusal) → count_at most b s.at ≡ x → A
      go (Ok n) i = let (j, k) = count-is most b s.at i in h n (there 4 s j) k (sym (counted_is most b f s i) ∙ e)
      go (Err x) i = never (sym (counted-no most b f s i) ∙ e)

  -- a tree is judged by its first byte and, if it is an integer, by the number behind it

  tagged : (p : ℕ) (x : Tree) → Stands b p (bytes x) → get_or b p 0 ≡ tag_of x
  unfolding bytes
  tagged p (node tag front kids back) s = stand.byte b p tag _ s

  fits-atom : {allow : Allowed} (p : ℕ) (x : Tree) → Laid allow x → Stands b p (bytes x) → is_atom b p ≡ true → IsAtom (tag_of x)
  unfolding is_atom
  fits-atom p x l s =
      rw (tagged p x s) (either (eqb (tag_of x) 100) _ (λ e. rw (eqb-true (tag_of x) 100 e) lay.atom_100)
      (either (eqb (tag_of x) 118) _ (λ e. rw (eqb-true (tag_of x) 118 e) lay.atom_118)
      (either (eqb (tag_of x) 119) (eqb (tag_of x) 82) (λ e. rw (eqb-true (tag_of x) 119 e) lay.atom_119) (λ e. rw (eqb-true (tag_of x) 82 e) lay.atom_82))))

  module _ (most p : ℕ) where
    low : {k : ℕ} (l m : List ℕ) → Stands b p (l ++ m) → length l ≡ k → leb (number_at k b p) most ≡ true → be l ≤ most
    low {k} l m s e h =
        let i = number_of k b p (stand.spells b p (stand.left b p l m s) (record { wide = e; is = refl })) in
        leb-true (be l) most (rw i at h)

    one : {allow : Allowed} {l m : List ℕ} {ts : Forest} → Laid allow (node 97 l ts m) → Stands b p (l ++ (bytes_all ts ++ m)) → leb (number_at 1 b p) most ≡ true → IsNatural most (node 97 l ts m)
    one (lay.row (lay.small_integer e)) s h = lay.natural_97 (low _ _ s e h)

    four : {allow : Allowed} {l m : List ℕ} {ts : Forest} → Laid allow (node 98 l ts m) → Stands b p (l ++ (bytes_all ts ++ m)) → leb (number_at 4 b p) most ≡ true → IsNatural most (node 98 l ts m)
    four (lay.row (lay.integer e)) s h = lay.natural_98 (low _ _ s e h)

  fits_natural : {allow : Allowed} (most p : ℕ) (x : Tree) → Laid allow x → Stands b p (bytes x) → is_natural most b p ≡ true → IsNatural most x
  unfolding is_natural bytes
  fits_natural most p (node tag l ts m) x s = rw (tagged p (node tag l ts m) s) (go (eqb tag 97) (eqb tag 98) refl refl)
    where
      behind : Stands b (p + 1) (l ++ (bytes_all ts ++ m))
      behind = stand.behind b p tag _ s

      go : (y z : Bool) → eqb tag 97 ≡ y → eqb tag 98 ≡ z → cond y (leb (number_at 1 b (p + 1)) most) (cond z (leb (number_at 4 b (p + 1)) most) false) ≡ true →
          IsNatural most (node tag l ts m)
      go true z e f h = let i = eqb-true tag 97 e in rw i (one most (p + 1) (rw i at x) behind h)
      go false true e f h = let i = eqb-true tag 98 f in rw i (four most (p + 1) (rw i at x) behind h)
      go false false e f h = absurd (let z : ◌≡◌ {A = ℕ} 0 1 = cc in omega arith)

  fits-pid : {allow : Allowed} (p : ℕ) (x : Tree) → Laid allow x → Stands b p (bytes x) → is_pid b p ≡ true → tag_of x ≡ 88
  unfolding is_pid
  fits-pid p x l s h = sym (tagged p x s) ∙ eqb-true _ _ h

  -- a term made of what was read: its tag, the bytes behind it, the children, and the bytes behind them

  nobody : {allow : Allowed} {rem : ℕ} (s : State) → s.at ≤ length b → LiesAll allow b rem 0 s s
  unfolding count bytes_all sizes depths
  nobody s h = record { trees = none; laid = lay.no_more; many = refl; shallow = omega arith; stands = stand.empty b s.at h; ends = omega arith; counted = omega arith }

  with : {allow : Allowed} {rem n : ℕ} {s u t : State} → Lies allow b rem s u → LiesAll allow b rem n u t → LiesAll allow b rem (suc n) s t
  unfolding count bytes_all sizes depths
  with {s = s} h k =
      let e = length-append (bytes h.tree) (bytes_all k.trees) in
      record {
        trees = more h.tree k.trees;
        laid = lay.one_more h.laid k.laid;
        many = ap suc k.many;
        shallow = omega arith;
        stands = stand.both b s.at _ _ h.stands (rw (← h.ends) k.stands);
        ends = omega arith;
        counted = omega arith;
      }

  module _ (allow : Allowed) (read : State → Result) (rem : ℕ) (reads : (s t : State) → read s ≡ done t → Lies allow b rem s t) where
    -- children, before those that were read behind them

    entering : {m : ℕ} (k : Kind) (i : ℕ) {s u t : State} → entered k i (read s) ≡ done u → LiesAll allow b rem m u t → LiesAll allow b rem (suc m) s t
    entering k i {s} {u} e h = with (reads s u (left k i (read s) e)) h

    of_elems : {m : ℕ} (k : Kind) (i n : ℕ) {s u t : State} → LiesAll allow b rem m u t → elems read k i n s ≡ done u → LiesAll allow b rem (n + m) s t
    unfolding elems
    of_elems {m} k i zero {s} {u} h e = let d : s ≡ u = cc in let j : zero + m ≡ m = omega arith in rw (d, j) h
    of_elems {m} k i (suc n) h e =
        let j : suc n + m ≡ suc (n + m) = omega arith in
        rw j (through _ _ (λ v d c. entering k i d (of_elems k (i + 1) n h c)) e)

    of_pairs : (n : ℕ) {s t : State} → t.at ≤ length b → pairs read n s ≡ done t → LiesAll allow b rem (2 * n) s t
    unfolding pairs pair
    of_pairs zero {s} {t} l e = let d : s ≡ t = cc in rw d (nobody t l)
    of_pairs (suc n) {s} l e =
        let j : 2 * suc n ≡ suc (suc (2 * n)) = omega arith in
        rw j (through _ _ (λ u d c. through _ _ (λ v f g. entering kind.Key 0 f (entering kind.Value s.at g (of_pairs n l c))) d) e)

    -- a required child, and what it is judged to be
    module _ {A : Type 0} (s : State) {t : State} where
      child : {P : Tree → Type 0} (fits : ℕ → Bool) → ((x : Tree) → Laid allow x → Stands b s.at (bytes x) → fits s.at ≡ true → P x) →
          ((x : Lies allow b rem s t) → P x.tree → A) → required read fits s ≡ done t → A
      child fits h k = judged read fits s (λ d f. let x = reads s t d in k x (h x.tree x.laid x.stands f))

      an_atom : ((x : Lies allow b rem s t) → IsAtom (tag_of x.tree) → A) → required read (is_atom b) s ≡ done t → A
      an_atom = child (is_atom b) (fits-atom s.at)

      a_natural : (most : ℕ) → ((x : Lies allow b rem s t) → IsNatural most x.tree → A) → required read (is_natural most b) s ≡ done t → A
      a_natural most = child (is_natural most b) (fits_natural most s.at)

      a_pid : ((x : Lies allow b rem s t) → tag_of x.tree ≡ 88 → A) → required read (is_pid b) s ≡ done t → A
      a_pid = child (is_pid b) (fits-pid s.at)

    -- a term from s to t, its tag read
    module _ (level : ℕ) (s t : State) (l : s.at < length b) (r : t.at ≤ length b) where
      abbrev u : State
      u = begin level s

      module _ {tag : ℕ} (e : get_or b s.at 0 ≡ tag) where
        made : {n : ℕ} {v w : State} {front back : List ℕ} → Gone b u v front → (k : LiesAll allow b rem n v w) → Gone b w t back → Laid allow (node tag front k.trees back) → Lies allow b (suc rem) s t
        unfolding bytes size depth
        made {front = front} {back = back} g k h x =
            let m = length-append (bytes_all k.trees) back in
            let n = length-append front (bytes_all k.trees ++ back) in
            record {
              tree = node tag front k.trees back;
              laid = x;
              shallow = omega arith;
              stands =
                  stand.led b s.at tag _ l e
                  (stand.both b (s.at + 1) front _ g.stands (rw (← g.ends) (stand.both b _ _ back k.stands (rw (← k.ends) h.stands))));
              ends = omega arith;
              counted = omega arith;
            }

        of_leaf : fields (rows.leaf_at allow b tag u.at) u ≡ done t → Lies allow b (suc rem) s t
        unfolding nobody
        of_leaf = fielded _ u (λ d c.
            let x = leaf-sound allow b tag u.at t.at (omega arith) d in
            made (record { stands = x.stands; ends = x.ends; counted = c }) (nobody t r) (stays t r) (lay.row x.row))

        of_pid : ((x : Tree) (k : List ℕ) → Laid allow x → IsAtom (tag_of x) → length k ≡ 12 → Laid allow (node tag [] (more x none) k)) → pid read b u ≡ done t → Lies allow b (suc rem) s t
        unfolding pid with nobody
        of_pid h =
            through _ _ (λ v. an_atom u (λ x i d.
            let y = passed 12 v d in
            made (stays u (omega arith)) (with x (nobody v (omega (arith, y.gone.stands.inside)))) y.gone (h _ _ x.laid i y.wide)))

      of_small : get_or b s.at 0 ≡ 104 → small_tuple read b u ≡ done t → Lies allow b (suc rem) s t
      unfolding small_tuple
      of_small e =
          counts 1 _ u (λ n c d.
          let k = of_elems kind.Tuple 0 n (nobody t r) d in
          made e c.gone k (stays t r) (lay.small_tuple (record { wide = c.is.wide; is = omega (arith, c.is.is, k.many) }) k.laid))

      of_large : get_or b s.at 0 ≡ 105 → large_tuple read b u ≡ done t → Lies allow b (suc rem) s t
      unfolding large_tuple
      of_large e =
          caps cap.elements _ u (λ n c h d.
          let k = of_elems kind.Tuple 0 n (nobody t r) d in
          made e c.gone k (stays t r) (lay.large_tuple (record { wide = c.is.wide; is = omega (arith, c.is.is, k.many) }) (omega (arith, k.many)) k.laid))

      of_list : get_or b s.at 0 ≡ 108 → list read b u ≡ done t → Lies allow b (suc rem) s t
      unfolding list
      of_list e =
          caps cap.elements _ u (λ n c h. through _ _ (λ v d f.
          let k = of_elems kind.List 0 n (entering kind.Tail 0 f (nobody t r)) d in
          made e c.gone k (stays t r) (lay.list c.is h k.many k.laid)))

      of_map : get_or b s.at 0 ≡ 116 → map read b u ≡ done t → Lies allow b (suc rem) s t
      unfolding map
      of_map e =
          caps cap.pairs _ u (λ n c h d.
          let k = of_pairs n r d in
          made e c.gone k (stays t r) (lay.map c.is h k.many k.laid))

      of_reference : get_or b s.at 0 ≡ 90 → reference read b u ≡ done t → Lies allow b (suc rem) s t
      unfolding reference with nobody
      of_reference e =
          counts 2 _ u (λ n c. through _ _ (λ v. an_atom _ (λ x i d.
          let y = passed (4 + 4 * n) v d in
          made e c.gone (with x (nobody v (omega (arith, y.gone.stands.inside)))) y.gone (lay.reference c.is x.laid i y.wide))))

      of_export : get_or b s.at 0 ≡ 113 → export read b u ≡ done t → Lies allow b (suc rem) s t
      unfolding export with nobody
      of_export e =
          through _ _ (λ v. an_atom u (λ x i. through _ _ (λ w. an_atom v (λ y j. a_natural w 255 (λ z k.
          made e (stays u (omega arith)) (with x (with y (with z (nobody t r)))) (stays t r) (lay.export x.laid i y.laid j z.laid k))))))

      of_function : get_or b s.at 0 ≡ 112 → function read b u ≡ done t → Lies allow b (suc rem) s t
      unfolding function captured with
      of_function e =
          through _ _ (λ a f. counts 4 _ a (λ n c.
          through _ _ (λ o. an_atom _ (λ w h.
          through _ _ (λ p. a_natural o 2147483647 (λ x i.
          through _ _ (λ q. a_natural p 2147483647 (λ y j.
          through _ _ (λ v. a_pid q (λ z k d.
          let g = passed 25 u f in
          let m = of_elems kind.Free 0 n (nobody t r) d in
          made e (further g.part c.part g.gone c.gone) (with w (with x (with y (with z m)))) (stays t r)
          (lay.function g.part c.part g.wide (record { wide = c.is.wide; is = omega (arith, c.is.is, m.many) })
          w.laid h x.laid i y.laid j z.laid k m.laid)))))))))))

      of_body : body allow read b (get_or b s.at 0) u ≡ done t → Lies allow b (suc rem) s t
      unfolding body
      of_body =
          let tag = get_or b s.at 0 in
          picked (eqb tag 104) _ _ (λ x. of_small (eqb-true _ _ x))
          (picked (eqb tag 105) _ _ (λ x. of_large (eqb-true _ _ x))
          (picked (eqb tag 108) _ _ (λ x. of_list (eqb-true _ _ x))
          (picked (eqb tag 116) _ _ (λ x. of_map (eqb-true _ _ x))
          (picked (eqb tag 88 || eqb tag 120) _ _
          (either (eqb tag 88) (eqb tag 120) (λ x. of_pid (eqb-true _ _ x) (λ y k. lay.pid)) (λ x. of_pid (eqb-true _ _ x) (λ y k. lay.port)))
          (picked (eqb tag 90) _ _ (λ x. of_reference (eqb-true _ _ x))
          (picked (eqb tag 113) _ _ (λ x. of_export (eqb-true _ _ x))
          (picked (eqb tag 112) _ _ (λ x. of_function (eqb-true _ _ x)) (of_leaf refl))))))))

-- what is read to its end is a term
pub sound : (allow : Allowed) (b : List ℕ) (limit rem : ℕ) (s t : State) → term allow b limit rem s ≡ done t → Lies allow b rem s t
unfolding term
sound allow b limit zero s t e = picked (ltb s.at (length b)) _ _ (λ h d. never d) (λ d. never d) e
sound allow b limit (suc rem) s t e =
    let (l, r) = ends allow b limit (suc rem) s t e in
    picked (ltb s.at (length b)) _ _ (λ h. of_body b allow (term allow b limit rem) rem (sound allow b limit rem) (limit - rem) s t (omega arith) r) (λ d. never d) e
