-- The pass that writes the tape: what is owed at each place, and that each step of the loop owes the rest. Assumes nothing.
--
-- The terms that are open lie one in the other. The innermost, `up`, has children left; when those are written and its cell is closed, its
-- parent is the innermost. So what is owed (`Owed`) says of the tape as it will be then that the parent's rest is owed on it, and of the
-- tape as it will be when the root is closed that it is the one wanted. No step looks past the innermost term.
use Prim.Native.Nat.{ℕ, suc, ◌+◌, ◌-◌, ◌*◌, ◌≤◌, ◌<◌}
use native.Mathlib.Omega.{arith}
use mathlib.Core.Path.{◌≡◌, refl, ap, sym, ◌∙◌}
use mathlib.Core.List.{List, [], ◌∷◌, ◌++◌, append-nil}
use Rattle.std.specs.Prelude.{Some}
use lib.ListN.{length, get_or, length-append}
use lib.Seq.{length-sets}
use Rattle.numbers.specs.Caps as cap
use Rattle.numbers.specs.Allowed.{Allowed}
use Rattle.layouts.specs.declared.Shape.{Shape}
use Rattle.layouts.specs.Tree.{Tree, Forest, node, none, more, Stands, bytes, bytes_all, count, size, sizes}
use Rattle.layouts.specs.Layout.{Laid, AllLaid, one_more}
use Rattle.layouts.specs.Inner.Shape.{ends, shape_at, shape_by, shape_of, short_at}
use Rattle.layouts.proofs.Stands.{left, right, byte, behind}
use Rattle.layouts.proofs.Shapes.{by_tag_lem, shape_is, kids_laid, one-leaf, short-is, unique}
use Rattle.tape.specs.Cells.{cell_words, words}
use Rattle.tape.specs.Inner.Fill.{cell, words_all, closed, lay, Good, Filled}
use Rattle.tape.proofs.Words.{words-node, words_all-none, words_all-more, words-length}
use Rattle.tape.proofs.Stores.{sets_append, cell-closed, end_read, size_read, parent_read, before-laid, written_over}

-- each term has a byte of its own

mutual
  unfolding bytes size

  pub size-bytes : (t : Tree) → size t ≤ length (bytes t)
  size-bytes (node tag front kids back) =
      omega (arith, sizes-bytes kids, length-append front (bytes_all kids ++ back), length-append (bytes_all kids) back)

  pub sizes-bytes : (ts : Forest) → sizes ts ≤ length (bytes_all ts)
  sizes-bytes none = omega arith
  sizes-bytes (more t ts) = omega (arith, size-bytes t, sizes-bytes ts, length-append (bytes t) (bytes_all ts))

count-sizes : (ts : Forest) → count ts ≤ sizes ts
unfolding count size
count-sizes none = omega arith
count-sizes (more (node tag front kids back) ts) = omega (arith, count-sizes ts)

size_own : (t : Tree) → 1 ≤ size t
unfolding size
size_own (node tag front kids back) = omega arith

-- what is owed

module _ (tape : List ℕ) (up : ℕ) where
  -- what an open cell holds: the bytes behind its children, its parent, and how many children that has left then
  abbrev pub bytes_behind : ℕ
  bytes_behind = get_or tape (up * cell_words + 2) 0

  abbrev pub outer : ℕ
  outer = get_or tape (up * cell_words + 3) 0

  abbrev pub rest : ℕ
  rest = get_or tape (up * cell_words + 4) 0

  -- where it ends, and the tape when it is closed, if its children from here on are ks
  abbrev pub end_of : ℕ → Forest → ℕ
  end_of at ks = at + length (bytes_all ks) + bytes_behind

  abbrev pub tape_of : ℕ → ℕ → Forest → List ℕ
  tape_of at cell ks = closed (lay tape cell (words_all ks at up cell)) up (end_of at ks) (cell + sizes ks - up)

-- the children that are left stand here, with room for their cells
pub record Here (allow : Allowed) (b : List ℕ) (up n at cell : ℕ) (tape : List ℕ) (ks : Forest) : Type 0 where
  pub laid : AllLaid allow ks
  pub counted : count ks ≡ n
  pub stands : Stands b at (bytes_all ks)
  pub inside : end_of tape up at ks ≤ length b
  pub fits : (cell + sizes ks) * cell_words ≤ length tape
  pub below : up < cell
  pub later : cell ≤ at

pub data Owed (allow : Allowed) (b final : List ℕ) : (up n at cell : ℕ) → (tape : List ℕ) → Type 0 where
  owed : {up n at cell : ℕ} {tape : List ℕ} (ks : Forest) → Here allow b up n at cell tape ks →
      (up ≡ 0 → tape_of tape up at cell ks ≡ final) →
      (¬ (up ≡ 0) → outer tape up < up) →
      (¬ (up ≡ 0) → Owed allow b final (outer tape up) (rest tape up) (end_of tape up at ks) (cell + sizes ks) (tape_of tape up at cell ks)) →
      Owed allow b final up n at cell tape

-- where the innermost term stands
pub record Top (b : List ℕ) (up at cell : ℕ) (tape : List ℕ) : Type 0 where
  pub short : length b ≤ cap.input
  pub below : up < cell
  pub later : cell ≤ at
  pub fits : cell * cell_words ≤ length tape
  pub inside : at + bytes_behind tape up ≤ length b

-- a child is left: it stands here, and when its words are written the rest is owed
pub record Child (allow : Allowed) (b final : List ℕ) (up n at cell : ℕ) (tape : List ℕ) : Type 0 where
  pub tree : Tree
  pub laid : Laid allow tree
  pub stands : Stands b at (bytes tree)
  pub short : length b ≤ cap.input
  pub some : at < length b
  pub few : n ≤ length b
  pub fits : (cell + size tree) * cell_words ≤ length tape
  pub room : cell * cell_words + 5 ≤ length tape
  pub below : up < cell
  pub later : cell ≤ at
  pub next : Owed allow b final up (n - 1) (at + length (bytes tree)) (cell + size tree) (lay tape cell (words tree at up cell))

-- what the bytes of a child say of it
pub record Shaped (b : List ℕ) (at : ℕ) (g : Shape) : Type 0 where
  pub after : at < g.from
  pub inside : g.from + g.back ≤ length b

module _ {allow : Allowed} {b final : List ℕ} where
  -- the same, written another way
  moved : {u u' l l' p p' c c' : ℕ} {t t' : List ℕ} → u ≡ u' → l ≡ l' → p ≡ p' → c ≡ c' → t ≡ t' → Owed allow b final u l p c t → Owed allow b final u' l' p' c' t'
  moved e f g h i o = rw (sym e, sym f, sym g, sym h, sym i) o

  pub top : {up n at cell : ℕ} {tape : List ℕ} → length b ≤ cap.input → Owed allow b final up n at cell tape → Top b up at cell tape
  top s (owed ks h l o t) = record { short = s; below = h.below; later = h.later; fits = omega (arith, h.fits); inside = omega (arith, h.inside) }

  -- no child is left: the root is done, and any other gives way to its parent
  pub done : {up n at cell : ℕ} {tape : List ℕ} → Owed allow b final up n at cell tape → up ≡ 0 → n ≡ 0 → closed tape up (at + bytes_behind tape up) (cell - up) ≡ final
  unfolding bytes_all count sizes
  done (owed (more x ks) h l d t) u z = absurd (omega (arith, h.counted))
  done {up} {n} {at} {cell} {tape} (owed none h l d t) u z =
      let e : at + bytes_behind tape up ≡ end_of tape up at none = omega arith in
      let c : cell - up ≡ cell + 0 - up = omega arith in
      rw (e, c) (rw words_all-none at (l u))

  pub shut : {up n at cell : ℕ} {tape : List ℕ} → Owed allow b final up n at cell tape → n ≡ 0 → ¬ (up ≡ 0) →
      (outer tape up < up) × Owed allow b final (outer tape up) (rest tape up) (at + bytes_behind tape up) cell (closed tape up (at + bytes_behind tape up) (cell - up))
  unfolding bytes_all count sizes
  shut (owed (more x ks) h l d t) z u = absurd (omega (arith, h.counted))
  shut {up} {n} {at} {cell} {tape} (owed none h l d t) z u =
      let e : end_of tape up at none ≡ at + bytes_behind tape up = omega arith in
      let c : cell + 0 ≡ cell = omega arith in
      let k : cell + 0 - up ≡ cell - up = omega arith in
      let w : tape_of tape up at cell none ≡ closed tape up (at + bytes_behind tape up) (cell - up) = rw (words_all-none, e, k) in
      (d u, moved refl refl e c w (t u))

  pub child : {up n at cell : ℕ} {tape : List ℕ} → length b ≤ cap.input → Owed allow b final up n at cell tape → ¬ (n ≡ 0) → Child allow b final up n at cell tape
  unfolding bytes_all count sizes
  child s (owed none h l d t) z = absurd (z (sym h.counted))
  child {up} {n} {at} {cell} {tape} s (owed (more x ks) h l d t) z = go h.laid
    where
      go : AllLaid allow (more x ks) → Child allow b final up n at cell tape
      go (one_more lx lks) =
          let ws = words x at up cell in
          let new = lay tape cell ws in
          let at' : ℕ = at + length (bytes x) in
          let cell' : ℕ = cell + size x in
          let rs = words_all ks at' up cell' in
          let len = length-append (bytes x) (bytes_all ks) in
          let own = size_own x in
          let below = h.below in
          let m : bytes_behind new up ≡ bytes_behind tape up = before-laid tape (cell * cell_words) ws (up * cell_words + 2) (omega arith) in
          let o : outer new up ≡ outer tape up = before-laid tape (cell * cell_words) ws (up * cell_words + 3) (omega arith) in
          let r : rest new up ≡ rest tape up = before-laid tape (cell * cell_words) ws (up * cell_words + 4) (omega arith) in
          let e : end_of tape up at (more x ks) ≡ end_of new up at' ks = omega (arith, len, m) in
          let c : cell + (size x + sizes ks) ≡ cell' + sizes ks = omega arith in
          let i : cell * cell_words + length ws ≡ cell' * cell_words = omega (arith, words-length x at up cell) in
          let w : tape_of tape up at cell (more x ks) ≡ tape_of new up at' cell' ks =
          ap (λ (y : List ℕ). closed y up (end_of tape up at (more x ks)) (cell + (size x + sizes ks) - up)) (ap (lay tape cell) (words_all-more x ks at up cell) ∙ sets_append tape (cell * cell_words) ws rs)
          ∙ rw (i, e, c) in
          record {
            tree = x;
            laid = lx;
            stands = left b at (bytes x) (bytes_all ks) h.stands;
            short = s;
            some = omega (arith, h.inside, len, size-bytes x);
            few = omega (arith, h.counted, h.inside, count-sizes ks, sizes-bytes ks, len, size-bytes x);
            fits = omega (arith, h.fits);
            room = omega (arith, h.fits);
            below = below;
            later = h.later;
            next =
                owed {up = up} {n = n - 1} {at = at'} {cell = cell'} {tape = new} ks
                (record {
                  laid = lks;
                  counted = omega (arith, h.counted);
                  stands = right b at (bytes x) (bytes_all ks) h.stands;
                  inside = omega (arith, h.inside, len, m);
                  fits = omega (arith, h.fits, length-sets tape (cell * cell_words) ws);
                  below = omega arith;
                  later = omega (arith, h.later, size-bytes x);
                })
                (λ u. sym w ∙ l u)
                (λ u. rw o (d u))
                (λ u. moved (sym o) (sym r) e c w (t u));
          }

  -- a term's cell while it is open: its children are owed, and behind them what its parent has left
  module _ {up at i n : ℕ} {new : List ℕ} {g : Shape} (tape : List ℕ) (h : length b ≤ cap.input) where
    pub begins : (x : Tree) → Laid allow x → Stands b at (bytes x) → (i + size x) * cell_words ≤ length tape → i ≤ at →
        g ≡ shape_at b at → new ≡ lay tape i (cell (get_or b at 0) at g.back up n) →
        (i ≡ 0 → lay tape i (words x at up i) ≡ final) →
        (¬ (i ≡ 0) → up < i) →
        (¬ (i ≡ 0) → Owed allow b final up n (at + length (bytes x)) (i + size x) (lay tape i (words x at up i))) →
        Owed allow b final i g.kids g.from (i + 1) new
    unfolding bytes size
    begins (node tag front ks back) l s f k e v at-root below inside =
        let x = node tag front ks back in
        let q : g ≡ shape_of x at = e ∙ shape_is b at x h l s in
        let from : ℕ = at + 1 + length front in
        let now = lay tape i (cell tag at (length back) up n) in
        let d : now ≡ new = sym (v ∙ rw (byte b at tag _ s, q)) in
        let len = length-append front (bytes_all ks ++ back) in
        let len' = length-append (bytes_all ks) back in
        let in_tape = s.inside in
        let m : bytes_behind now i ≡ length back = end_read tape i tag at up (length back) n (omega arith) in
        let u : outer now i ≡ up = parent_read tape i tag at up (length back) n (omega arith) in
        let r : rest now i ≡ n = size_read tape i tag at up (length back) n (omega arith) in
        let ws = words_all ks from i (i + 1) in
        let p : end_of now i from ks ≡ at + length (bytes x) = omega (arith, m, len, len') in
        let c : i + 1 + sizes ks ≡ i + size x = omega arith in
        let z : i + 1 + sizes ks - i ≡ suc (sizes ks) = omega arith in
        let w : tape_of now i from (i + 1) ks ≡ lay tape i (words x at up i) =
        cell-closed tape i tag at up (length back) n _ _ ws ∙ rw (words-node, p, z) refl in
        let here : Here allow b i (count ks) from (i + 1) now ks =
        record {
          laid = kids_laid l;
          counted = refl;
          stands = left b from (bytes_all ks) back (right b (at + 1) front (bytes_all ks ++ back) (behind b at tag (front ++ (bytes_all ks ++ back)) s));
          inside = omega (arith, p);
          fits = omega (arith, length-sets tape (i * cell_words) (cell tag at (length back) up n));
          below = omega arith;
          later = omega arith;
        } in
        moved refl (sym (ap (λ (y : Shape). y.kids) q)) (sym (ap (λ (y : Shape). y.from) q)) refl d
        (owed ks here (λ y. w ∙ at-root y) (λ y. rw u (below y)) (λ y. moved (sym u) (sym r) (sym p) (sym c) (sym w) (inside y)))

-- the short way tells the shape
pub short_shape : (b : List ℕ) (at : ℕ) {e : ℕ} → Some e ≡ short_at b at → ends e ≡ shape_at b at
short_shape b at e = sym (short-is b at (sym e))

-- and so does the tag of a small integer
pub small_shape : (b : List ℕ) (at : ℕ) → at < length b → length b ≤ cap.input → get_or b at 0 ≡ 97 → ends (at + 2) ≡ shape_at b at
unfolding shape_by
small_shape b at h l e = by_tag_lem b at 97 (record { within = h; short = l; is = refl }) e

-- no children, no bytes behind them
bare : {allow : Allowed} {tag : ℕ} {front back : List ℕ} → Laid allow (node tag front none back) → back ≡ []
unfolding count
bare {back = []} l = refl
bare {back = x ∷ k} l = absurd (omega (arith, ap count (one-leaf l (λ e. omega (arith, ap (length {A = ℕ}) e))).is))

-- what the bytes of a term say of it
pub shaped : {allow : Allowed} {b : List ℕ} {at : ℕ} {g : Shape} → length b ≤ cap.input → (t : Tree) → Laid allow t → Stands b at (bytes t) → g ≡ shape_at b at → Shaped b at g
unfolding bytes
shaped {b = b} {at} {g} h (node tag front ks back) l s e =
    let q : g ≡ shape_of (node tag front ks back) at = e ∙ shape_is b at (node tag front ks back) h l s in
    let i = s.inside in
    rw q (record { after = omega arith; inside = omega (arith, length-append front (bytes_all ks ++ back), length-append (bytes_all ks) back) })

-- the loop: the tape that is wanted is what is owed

pub record Going (start : ℕ) (b old : List ℕ) (up n at cell : ℕ) (tape : List ℕ) : Type 0 where
  pub short : length b ≤ cap.input
  pub allow : Allowed
  pub kept : length tape ≡ length old
  pub final : List ℕ
  pub is : Filled b start old final
  pub owes : Owed allow b final up n at cell tape

pub there : {b : List ℕ} {start room : ℕ} → Good b start room → (start < length b) × (5 ≤ room)
there q = (omega (arith, q.stands.inside, size-bytes q.tree, size_own q.tree), omega (arith, q.fits, size_own q.tree))

-- the root's cell is open: the words that are wanted lie over it, so that they are the same on the tape as it was
module _ {b tape : List ℕ} {g : Shape} {start : ℕ} (old : List ℕ) (q : Good b start (length old)) (e : g ≡ shape_at b start) (v : tape ≡ lay old 0 (cell (get_or b start 0) start g.back 0 0)) where
  over : (t : Tree) → lay tape 0 (words t start 0 0) ≡ lay old 0 (words t start 0 0)
  over t =
      let root = cell (get_or b start 0) start g.back 0 0 in
      let ws = words t start 0 0 in
      ap (λ (z : List ℕ). lay z 0 ws) v ∙ written_over old 0 root ws (omega (arith, words-length t start 0 0, size_own t))

  pub as_it_was : {new : List ℕ} → Filled b start tape new → Filled b start old new
  as_it_was f = record { same = λ allow t l s. f.same allow t l s ∙ over t }

  -- one term stands there, so its words are those of any
  pub starts : Going start b tape 0 g.kids g.from 1 tape
  starts =
      record {
        short = q.short;
        allow = q.allow;
        kept = refl;
        final = lay tape 0 (words q.tree start 0 0);
        is = record { same = λ allow t l s. ap (λ (x : Tree). lay tape 0 (words x start 0 0)) (unique b start q.tree t q.short q.laid l q.stands s) };
        owes =
            begins {up = 0} {n = 0} old q.short q.tree q.laid q.stands (omega (arith, q.fits)) (omega arith) e v
            (λ _. sym (over q.tree)) (λ z. absurd (z refl)) (λ z. absurd (z refl));
      }

module _ {start : ℕ} {b old : List ℕ} {up n at cell : ℕ} {tape : List ℕ} (g : Going start b old up n at cell tape) where
  pub here : Top b up at cell tape
  here = top g.short g.owes

  pub first : ¬ (n ≡ 0) → Child g.allow b g.final up n at cell tape
  first z = child g.short g.owes z

module _ {start : ℕ} {b old : List ℕ} {up n at i : ℕ} {tape new : List ℕ} (g : Going start b old up n at i tape) where
  -- a child without children is written
  pub past : {e : ℕ} → ¬ (n ≡ 0) → ends e ≡ shape_at b at → new ≡ lay tape i (cell (get_or b at 0) at e up 1) → length new ≡ length tape →
      Going start b old up (n - 1) e (i + 1) new
  unfolding bytes size count
  past {e} z f v k =
      let x = first g z in
      record { short = g.short; allow = g.allow; kept = k ∙ g.kept; final = g.final; is = g.is; owes = go x.tree x.laid x.stands x.next }
    where
      go : (t : Tree) → Laid g.allow t → Stands b at (bytes t) → Owed g.allow b g.final up (n - 1) (at + length (bytes t)) (i + size t) (lay tape i (words t at up i)) →
          Owed g.allow b g.final up (n - 1) e (i + 1) new
      go (node tag front (more t ts) back) l s o =
          let q : ends e ≡ shape_of (node tag front (more t ts) back) at = f ∙ shape_is b at (node tag front (more t ts) back) g.short l s in
          absurd (omega (arith, ap (λ (y : Shape). y.kids) q))
      go (node tag front none back) l s o =
          let q : ends e ≡ shape_of (node tag front none back) at = f ∙ shape_is b at (node tag front none back) g.short l s in
          let p : e ≡ at + length (bytes (node tag front none back)) = ap (λ (y : Shape). y.from) q ∙ rw (bare l, append-nil front) (omega arith) in
          let w : new ≡ lay tape i (words (node tag front none back) at up i) = v ∙ rw (words-node, words_all-none, p, byte b at tag _ s) in
          moved refl refl (sym p) (omega arith) (sym w) o

  -- the cell of any other is open
  pub into : {s : Shape} → ¬ (n ≡ 0) → s ≡ shape_at b at → new ≡ lay tape i (cell (get_or b at 0) at s.back up (n - 1)) → length new ≡ length tape →
      Going start b old i s.kids s.from (i + 1) new
  into z e v k =
      let x = first g z in
      record {
        short = g.short;
        allow = g.allow;
        kept = k ∙ g.kept;
        final = g.final;
        is = g.is;
        owes = begins tape g.short x.tree x.laid x.stands x.fits x.later e v (λ y. absurd (omega (arith, x.below))) (λ _. x.below) (λ _. x.next);
      }

  -- a term whose children are written is closed
  module _ (v : new ≡ closed tape up (at + bytes_behind tape up) (i - up)) (z : n ≡ 0) where
    pub out : ¬ (up ≡ 0) → length new ≡ length tape → (outer tape up < up) × Going start b old (outer tape up) (rest tape up) (at + bytes_behind tape up) i new
    out u k =
        let (a, o) = shut g.owes z u in
        (a, record { short = g.short; allow = g.allow; kept = k ∙ g.kept; final = g.final; is = g.is; owes = moved refl refl refl refl (sym v) o })

    pub whole : up ≡ 0 → Filled b start old new
    whole u = rw (v ∙ done g.owes u z) g.is
