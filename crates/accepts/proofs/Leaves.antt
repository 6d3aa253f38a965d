-- The rows without children: reading one ends at e just where the bytes up to e are a row of the table. Each piece of reading is shown
-- to read certain runs of bytes, all of them and no others, and a row is put together of such pieces. Assumes nothing.
use Prim.Native.Nat.{ℕ, ◌+◌, ◌≤◌}
use native.Mathlib.Omega.{arith}
use mathlib.Core.Path.{◌≡◌, refl, ap, sym, ◌∙◌}
use mathlib.Core.Logic.{◌↔◌}
use mathlib.Core.List.{List, [], ◌∷◌, ◌++◌}
use mathlib.Core.Bool.{Bool, true, false, cond, ◌||◌}
use borrow.Author.Tests.{eqb-true, eqb-false, leb-true, le-leb}
use lib.Dec.{eqb, leb}
use lib.ListN.{length, take, drop, length-append}
use Rattle.std.specs.Prelude.{Option, Some, None, Ok, Err}
use Rattle.fields.specs.Be.{be}
use Rattle.fields.specs.Field.{field_at}
use Rattle.fields.proofs.Laws.{is-there, is_whole, then_is, then_eof}
use Rattle.utf8.specs.Inner.Find.{good_bytes}
use Rattle.utf8.specs.Good.{Utf8}
use Rattle.utf8.proofs.Laws.{utf8_is}
use Rattle.literal.specs.Inner.Trim.{trimmed}
use Rattle.literal.specs.Literal.{Literal}
use Rattle.literal.specs.Inner.Parse.{is_literal}
use Rattle.literal.proofs.Meaning.{literal-is}
use Rattle.literal.proofs.Trims.{trimmed-is, trimmed_once}
use Rattle.numbers.specs.Caps as cap
use Rattle.numbers.specs.Allowed.{Allowed}
use Rattle.numbers.specs.declared.Refusal.{Refusal}
use Rattle.numbers.specs.declared.Refusal.TheVariants as why
use Rattle.rows.specs.Row as row
use Rattle.rows.specs.Layout as rows
use Rattle.rows.specs.Row.{Row}
use Rattle.rows.proofs.Laws.{bytes-there}
use Rattle.rows.proofs.Ends.{bytes-to, bytes-within}
use Rattle.layouts.specs.Tree.{Stands}
use Rattle.layouts.specs.Layout as layout
use Rattle.layouts.specs.Layout.{Number, NumberText, Leaf}
use Rattle.layouts.proofs.Stands.{part, stands, empty, both, left, right, spells, number as number_at}

-- a run of bytes behind a tag, which is a row without children and ends at e
pub record Rowed (allow : Allowed) (b : List ℕ) (tag p e : ℕ) : Type 0 where
  pub front : List ℕ
  pub row : Leaf allow tag front
  pub stands : Stands b p front
  pub ends : e ≡ p + length front

-- ---- what the tests of bytes mean

cap_is : (n most : ℕ) → (leb n most ≡ true) ↔ (n ≤ most)
cap_is n most = (leb-true n most, le-leb n most)

-- one byte, as a run and as a number
single : (l : List ℕ) → length l ≡ 1 → l ≡ be l ∷ []
unfolding be
single [] h = absurd (omega arith)
single (x ∷ []) h = ap (λ (y : ℕ). y ∷ []) (omega arith)
single (x ∷ y ∷ l) h = absurd (omega arith)

one : (x : ℕ) → Number 1 (x ∷ []) x
unfolding be
one x = record { wide = refl; is = omega arith }

-- ---- pieces of reading, and the runs that they read

-- a run from p to e of which P holds
record Run (b : List ℕ) (p e : ℕ) (P : List ℕ → Type 0) : Type 0 where
  run : List ℕ
  holds : P run
  stands : Stands b p run
  ends : e ≡ p + length run

-- where reading at p answers r, the runs that are read are those of which P holds, all of them and no others
record Reads (b : List ℕ) (p : ℕ) (r : Row) (P : List ℕ → Type 0) : Type 0 where
  sound : {e : ℕ} → r ≡ Ok e → Run b p e P
  complete : {l : List ℕ} → P l → Stands b p l → r ≡ Ok (p + length l)

-- a run and another behind it; a number of k bytes, and behind it what it says
data Joined (P Q : List ℕ → Type 0) : List ℕ → Type 0 where
  joined : (l m : List ℕ) → P l → Q m → Joined P Q (l ++ m)

data Counted (k : ℕ) (Q : ℕ → List ℕ → Type 0) : List ℕ → Type 0 where
  counted : (n : ℕ) (l m : List ℕ) → Number k l n → Q n m → Counted k Q (l ++ m)

-- what the number n says of the bytes l behind it: a name, a binary, a sign and digits, a bits byte and bytes
abbrev Named : ℕ → List ℕ → Type 0
Named n l = (length l ≡ n) × Utf8 l

abbrev Short : ℕ → List ℕ → Type 0
Short n l = (n ≤ cap.binary) × (length l ≡ n)

abbrev Digits : ℕ → List ℕ → Type 0
Digits n = Joined (λ l. length l ≡ 1) (λ l. length l ≡ n)

abbrev Bits : ℕ → List ℕ → Type 0
Bits n l = (n ≤ cap.binary) × Counted 1 (λ k m. (cap.bits_byte n k ≡ true) × (length m ≡ n)) l

-- no more behind a position that is known
abbrev Known : Allowed → ℕ → List ℕ → Type 0
Known allow k l = (allow.known k ≡ true) × (length l ≡ 0)

-- the text of a number
abbrev Text : List ℕ → Type 0
Text l = Named 31 l × Literal (take (trimmed l) l)

-- a refusal ends nowhere
refused : {A : Type 0} {x : Refusal} {e : ℕ} → Err x ≡ Ok e → A
refused h = absurd cc

module _ (b : List ℕ) where
  bytes_reads : (n p : ℕ) → Reads b p (row.bytes b n p) (λ l. length l ≡ n)
  bytes_reads n p =
      record {
        sound =
            λ h.
            let i : p + n ≤ length b = omega (arith, bytes-to b n p h, bytes-within b n p h) in
            let w = part b p n i in
            record { run = take n (drop p b); holds = w; stands = stands b p n i; ends = omega (arith, bytes-to b n p h) };
        complete = λ w s. sym (bytes-there b n p (is-there n b p (omega (arith, s.inside)))) ∙ ap (λ (k : ℕ). Ok (p + k)) (sym w);
      }

  nothing : {p e : ℕ} → p ≤ length b → ◌≡◌ {A = Row} (Ok p) (Ok e) → Run b p e (λ l. l ≡ [])
  nothing {p} {e} i h = let q : p ≡ e = cc in record { run = []; holds = refl; stands = empty b p i; ends = omega arith }

  -- a run behind another
  join : {p q e : ℕ} {P Q R : List ℕ → Type 0} → ((l m : List ℕ) → P l → Q m → R (l ++ m)) → Run b p q P → Run b q e Q → Run b p e R
  join {p} f x y =
      record {
        run = x.run ++ y.run;
        holds = f x.run y.run x.holds y.holds;
        stands = both b p x.run y.run x.stands (rw x.ends at y.stands);
        ends = omega (arith, x.ends, y.ends, length-append x.run y.run);
      }

  -- its end
  joined_ends : (p : ℕ) (l m : List ℕ) {k : ℕ} → length l ≡ k → ◌≡◌ {A = Row} (Ok (p + k + length m)) (Ok (p + length (l ++ m)))
  joined_ends p l m w = ap Ok (omega (arith, length-append l m))

  -- one reading behind another; a number, and what is read behind it
  then_reads : {p : ℕ} {P Q : List ℕ → Type 0} (r : Row) (f : ℕ → Row) → Reads b p r P → ((q : ℕ) → Reads b q (f q) Q) → Reads b p (row.and_then r f) (Joined P Q)
  then_reads {p} {P} {Q} r f x y = record { sound = sound r x; complete = complete }
    where
      sound : (r : Row) → Reads b p r P → {e : ℕ} → row.and_then r f ≡ Ok e → Run b p e (Joined P Q)
      sound (Ok q) x h = join joined (x.sound refl) ((y q).sound h)
      sound (Err z) x h = refused h

      complete : {l : List ℕ} → Joined P Q l → Stands b p l → row.and_then r f ≡ Ok (p + length l)
      complete (joined l m u v) s = rw (x.complete u (left b p l m s)) ((y _).complete v (right b p l m s) ∙ joined_ends p l m refl)

  sized_reads : (k p : ℕ) (f : ℕ → ℕ → Row) {Q : ℕ → List ℕ → Type 0} → ((n : ℕ) → Reads b (p + k) (f n (p + k)) (Q n)) → Reads b p (row.sized k b f p) (Counted k Q)
  sized_reads k p f {Q} x = record { sound = λ h. sound (field_at k b p) refl h; complete = complete }
    where
      sound : (t : Option ℕ) → field_at k b p ≡ t → {e : ℕ} → row.sized k b f p ≡ Ok e → Run b p e (Counted k Q)
      sound (Some n) i h =
          let w = number_at b p i in
          join (counted n) (record { run = take k (drop p b); holds = w; stands = stands b p k (is_whole k b p i).0; ends = omega (arith, w.wide) })
          ((x n).sound (sym (then_is k b p _ f i) ∙ h))
      sound None i h = refused (sym (then_eof k b p _ f i) ∙ h)

      complete : {l : List ℕ} → Counted k Q l → Stands b p l → row.sized k b f p ≡ Ok (p + length l)
      complete (counted n l m w v) s =
          then_is k b p _ f (spells b p (left b p l m s) w) ∙ (x n).complete v (rw w.wide at (right b p l m s)) ∙ joined_ends p l m w.wide

  -- a test of a number, before what is read behind it
  guard_reads : {p : ℕ} {P : List ℕ → Type 0} {T : Type 0} (t : Bool) (r : Row) (x : Refusal) → (t ≡ true) ↔ T → Reads b p r P → Reads b p (cond t r (row.no x)) (λ l. T × P l)
  guard_reads {p} {P} {T} t r x i y = record { sound = sound t i.0; complete = λ h s. rw (i.1 h.0) (y.complete h.1 s) }
    where
      sound : (t : Bool) → (t ≡ true → T) → {e : ℕ} → cond t r (row.no x) ≡ Ok e → Run b p e (λ l. T × P l)
      sound true i h = let z = y.sound h in record { run = z.run; holds = (i refl, z.holds); stands = z.stands; ends = z.ends }
      sound false i h = refused h

  -- a test of the n bytes that were read
  test_reads : {p : ℕ} {P T : List ℕ → Type 0} (n : ℕ) (r : Row) (t : List ℕ → Bool) (x : Refusal) →
      ((l : List ℕ) → P l → length l ≡ n) → ((l : List ℕ) → length l ≡ n → (t l ≡ true) ↔ T l) →
      Reads b p r P → Reads b p (row.and_then r (λ e. cond (t (take n (drop p b))) (Ok e) (row.no x))) (λ l. P l × T l)
  test_reads {p} {P} {T} n r t x w i y =
      record { sound = sound r y; complete = λ h s. rw (y.complete h.0 s, same s (w _ h.0), (i _ (w _ h.0)).1 h.1) }
    where
      same : {l : List ℕ} → Stands b p l → length l ≡ n → take n (drop p b) ≡ l
      same s w = rw (← w) s.same

      judged : (t : Bool) {q e : ℕ} → cond t (Ok q) (row.no x) ≡ Ok e → (t ≡ true) × (q ≡ e)
      judged true h = (refl, (cc))
      judged false h = refused h

      sound : (r : Row) → Reads b p r P → {e : ℕ} → row.and_then r (λ e. cond (t (take n (drop p b))) (Ok e) (row.no x)) ≡ Ok e → Run b p e (λ l. P l × T l)
      sound (Ok q) y h =
          let z = y.sound refl in
          let k = w z.run z.holds in
          let j = judged (t (take n (drop p b))) h in
          record { run = z.run; holds = (z.holds, (i z.run k).0 (rw (same z.stands k) at j.0)); stands = z.stands; ends = sym j.1 ∙ z.ends }
      sound (Err z) y h = refused h

  -- ---- the rows

  name_reads : (n p : ℕ) → Reads b p (row.name b n p) (Named n)
  unfolding row.name
  name_reads n p = test_reads n (row.bytes b n p) (λ l. eqb (good_bytes l) n) why.Text (λ l w. w) (λ l w. rw (← w) (utf8_is l)) (bytes_reads n p)

  text_reads : (p : ℕ) → Reads b p (rows.number_text b p) Text
  unfolding rows.number_text
  text_reads p = test_reads 31 (row.name b 31 p) (λ l. is_literal (take (trimmed l) l)) why.Literal (λ l h. h.0) (λ l w. literal-is _) (name_reads 31 p)

  names_read : (k p : ℕ) → Reads b p (row.sized k b (row.name b) p) (Counted k Named)
  names_read k p = sized_reads k p (row.name b) (λ n. name_reads n (p + k))

  string_reads : (p : ℕ) → Reads b p (row.sized 2 b (row.bytes b) p) (Counted 2 (λ n l. length l ≡ n))
  string_reads p = sized_reads 2 p (row.bytes b) (λ n. bytes_reads n (p + 2))

  binary_reads : (p : ℕ) → Reads b p (row.counted cap.binary b (row.bytes b) p) (Counted 4 Short)
  unfolding row.count_then
  binary_reads p = sized_reads 4 p _ (λ n. guard_reads (leb n cap.binary) (row.bytes b n (p + 4)) why.Size (cap_is n cap.binary) (bytes_reads n (p + 4)))

  bits_read : (p : ℕ) → Reads b p (row.counted cap.binary b (rows.bits_then b) p) (Counted 4 Bits)
  unfolding rows.bits_then row.count_then
  bits_read p =
      sized_reads 4 p _ (λ n. guard_reads (leb n cap.binary) _ why.Size (cap_is n cap.binary)
      (sized_reads 1 (p + 4) _ (λ k. guard_reads (cap.bits_byte n k) (row.bytes b n (p + 4 + 1)) why.Bits (λ e. e, λ e. e) (bytes_reads n (p + 4 + 1)))))

  big_reads : (k p : ℕ) → Reads b p (row.sized k b (rows.digits b) p) (Counted k Digits)
  unfolding rows.digits
  big_reads k p = sized_reads k p (rows.digits b) (λ n. then_reads (row.bytes b 1 (p + k)) (row.bytes b n) (bytes_reads 1 (p + k)) (bytes_reads n))

  position_reads : (allow : Allowed) (p : ℕ) → Reads b p (row.sized 1 b (λ k q. cond (allow.known k) (row.bytes b 0 q) (row.no why.Tag)) p) (Counted 1 (Known allow))
  position_reads allow p =
      sized_reads 1 p _ (λ k. guard_reads (allow.known k) (row.bytes b 0 (p + 1)) why.Tag (λ e. e, λ e. e) (bytes_reads 0 (p + 1)))

-- ---- the runs that the rows read are those of the table

text-is : (l : List ℕ) → NumberText l ↔ (Utf8 l × Literal (take (trimmed l) l))
text-is l = (
  λ x. (x.text, rw (trimmed_once x.trimmed (trimmed-is l)) at x.literal),
  λ x. record { text = x.0; left = trimmed l; trimmed = trimmed-is l; literal = x.1 },
)

named : {allow : Allowed} {tag k : ℕ} → ((n m : List ℕ) → Number k n (length m) → Utf8 m → Leaf allow tag (n ++ m)) → (l : List ℕ) → Counted k Named l → Leaf allow tag l
named f _ (counted n l m w q) = f l m (rw q.0 w) q.1

big : {allow : Allowed} {tag k : ℕ} → ((n : List ℕ) (sign : ℕ) (m : List ℕ) → Number k n (length m) → Leaf allow tag (n ++ (sign ∷ m))) → (l : List ℕ) → Counted k Digits l → Leaf allow tag l
big f _ (counted n l _ w (joined c m v x)) = rw (single c v) (f l (be c) m (rw x w))

string : {allow : Allowed} (l : List ℕ) → Counted 2 (λ n m. length m ≡ n) l → Leaf allow 107 l
string _ (counted n l m w q) = layout.string l m (rw q w)

binary : {allow : Allowed} (l : List ℕ) → Counted 4 Short l → Leaf allow 109 l
binary _ (counted n l m w q) = layout.binary l m (rw q.1 w) (rw q.1 q.0)

bits : {allow : Allowed} (l : List ℕ) → Counted 4 Bits l → Leaf allow 77 l
bits _ (counted n l _ w (i, counted k c m v x)) =
    let e : c ≡ k ∷ [] = rw v.is at (single c v.wide) in
    rw e (layout.bit_string l k m (rw x.1 w) (rw x.1 i) (rw x.1 x.0))

position : {allow : Allowed} → allow.names ≡ true → (l : List ℕ) → Counted 1 (Known allow) l → Leaf allow 82 l
position y _ (counted k c [] v x) = let e : c ≡ k ∷ [] = rw v.is at (single c v.wide) in rw e (layout.position y x.0)
position y _ (counted k c (z ∷ m) v x) = absurd (omega (arith, x.1))

-- a test that passes, or what stands behind one that fails
split : {A : Type 0} {e : ℕ} (x : Bool) {a o : Row} → (x ≡ true → a ≡ Ok e → A) → (x ≡ false → o ≡ Ok e → A) → cond x a o ≡ Ok e → A
split true f g h = f refl h
split false f g h = g refl h

picked : {A : Type 0} {e : ℕ} (x : Bool) {a o : Row} → (x ≡ true → a ≡ Ok e → A) → (o ≡ Ok e → A) → cond x a o ≡ Ok e → A
picked x f g = split x f (λ _. g)

or_picked : {A : Type 0} {e : ℕ} (x y : Bool) {a o : Row} → (x ≡ true → a ≡ Ok e → A) → (y ≡ true → a ≡ Ok e → A) → (o ≡ Ok e → A) → cond (x || y) a o ≡ Ok e → A
or_picked true y f g o h = f refl h
or_picked false y f g o h = picked y g o h

-- the tag is n, and the run that was read is a row of n's
hit : {allow : Allowed} {b : List ℕ} {p e : ℕ} {P : List ℕ → Type 0} (tag n : ℕ) → eqb tag n ≡ true → Run b p e P → ((l : List ℕ) → P l → Leaf allow n l) → Rowed allow b tag p e
hit tag n x r f = record { front = r.run; row = rw (eqb-true tag n x) (f r.run r.holds); stands = r.stands; ends = r.ends }

pub leaf-sound : (allow : Allowed) (b : List ℕ) (tag p e : ℕ) → p ≤ length b → rows.leaf_at allow b tag p ≡ Ok e → Rowed allow b tag p e
unfolding rows.leaf_at rows.position_at rows.row_at
leaf-sound allow b tag p e i =
    picked (eqb tag 82) (λ x. picked allow.names (λ y h. hit tag 82 x ((position_reads b allow p).sound h) (position y)) refused)
    (split (eqb tag 99)
    (λ x. picked allow.texts (λ t h. hit tag 99 x ((text_reads b p).sound h) (λ l y. layout.number_text t y.0.0 ((text-is l).1 (y.0.1, y.1)))) refused)
    (λ other.
    picked (eqb tag 97) (λ x h. hit tag 97 x ((bytes_reads b 1 p).sound h) (λ l. layout.small_integer))
    (picked (eqb tag 98) (λ x h. hit tag 98 x ((bytes_reads b 4 p).sound h) (λ l. layout.integer))
    (picked (eqb tag 99) (λ x h. absurd (eqb-false tag 99 other (eqb-true tag 99 x)))
    (picked (eqb tag 70) (λ x h. hit tag 70 x ((bytes_reads b 8 p).sound h) (λ l. layout.double))
    (or_picked (eqb tag 100) (eqb tag 118)
    (λ x h. hit tag 100 x ((names_read b 2 p).sound h) (named layout.old_atom))
    (λ x h. hit tag 118 x ((names_read b 2 p).sound h) (named layout.atom))
    (picked (eqb tag 119) (λ x h. hit tag 119 x ((names_read b 1 p).sound h) (named layout.small_atom))
    (picked (eqb tag 106) (λ x h. hit tag 106 x (nothing b i h) (λ l y. rw y layout.nil))
    (picked (eqb tag 107) (λ x h. hit tag 107 x ((string_reads b p).sound h) string)
    (picked (eqb tag 109) (λ x h. hit tag 109 x ((binary_reads b p).sound h) binary)
    (picked (eqb tag 77) (λ x h. hit tag 77 x ((bits_read b p).sound h) bits)
    (picked (eqb tag 110) (λ x h. hit tag 110 x ((big_reads b 1 p).sound h) (big layout.small_big))
    (picked (eqb tag 111) (λ x h. hit tag 111 x ((big_reads b 4 p).sound h) (big layout.large_big))
    refused)))))))))))))

pub leaf_complete : (allow : Allowed) (b : List ℕ) (p : ℕ) {tag : ℕ} {l : List ℕ} → Leaf allow tag l → Stands b p l → rows.leaf_at allow b tag p ≡ Ok (p + length l)
unfolding rows.leaf_at rows.position_at rows.row_at
leaf_complete allow b p (layout.small_integer w) s = (bytes_reads b 1 p).complete w s
leaf_complete allow b p (layout.integer w) s = (bytes_reads b 4 p).complete w s
leaf_complete allow b p {l = l} (layout.number_text y w t) s = let x = (text-is l).0 t in rw y ((text_reads b p).complete ((w, x.0), x.1) s)
leaf_complete allow b p (layout.double w) s = (bytes_reads b 8 p).complete w s
leaf_complete allow b p (layout.old_atom n m w u) s = (names_read b 2 p).complete (counted _ n m w (refl, u)) s
leaf_complete allow b p (layout.atom n m w u) s = (names_read b 2 p).complete (counted _ n m w (refl, u)) s
leaf_complete allow b p (layout.small_atom n m w u) s = (names_read b 1 p).complete (counted _ n m w (refl, u)) s
leaf_complete allow b p layout.nil s = ap Ok (omega arith)
leaf_complete allow b p (layout.string n m w) s = (string_reads b p).complete (counted _ n m w refl) s
leaf_complete allow b p (layout.binary n m w c) s = (binary_reads b p).complete (counted _ n m w (c, refl)) s
leaf_complete allow b p (layout.bit_string n k m w c u) s = (bits_read b p).complete (counted _ n (k ∷ m) w (c, counted k (k ∷ []) m (one k) (u, refl))) s
leaf_complete allow b p (layout.small_big n x m w) s = (big_reads b 1 p).complete (counted _ n (x ∷ m) w (joined (x ∷ []) m refl refl)) s
leaf_complete allow b p (layout.large_big n x m w) s = (big_reads b 4 p).complete (counted _ n (x ∷ m) w (joined (x ∷ []) m refl refl)) s
leaf_complete allow b p (layout.position {k = k} y h) s = rw y ((position_reads b allow p).complete (counted k (k ∷ []) [] (one k) (h, refl)) s)
