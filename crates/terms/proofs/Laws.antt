-- How what is left behind says what the definition says: taking it apart, putting it together, and the stores that make it. Assumes nothing.
use mathlib.Core.Path.{◌≡◌, refl, ap, sym, ◌∙◌}
use mathlib.Core.List.{List, [], ◌∷◌, reverse, map}
use Prim.Native.Nat.{ℕ, suc, ◌+◌, ◌-◌, ◌≤◌, ◌<◌, max}
use native.Mathlib.Omega.{arith}
use lib.ListN.{length, take, set, get_or, length-set}
use Rattle.std.specs.Prelude.{Option, Some, None, Ok, MatchOption}
use Rattle.std.proofs.lemmas.List.{take_more_set, reverse-append}
use Rattle.numbers.specs.Refusal.{number_of, extra_of}
use Rattle.numbers.specs.declared.Refusal.{Refusal}
use Rattle.rows.specs.Layout.{row_at}
use Rattle.rows.specs.Row.{Row}
use Rattle.rows.proofs.Ends.{row_within}
use Rattle.reading.specs.declared.Kind.{Kind}
use Rattle.reading.specs.declared.Segment.{Segment}
use Rattle.terms.specs.declared.Seen.{Seen}
use Rattle.terms.specs.declared.Noted.{Noted}
use Rattle.terms.specs.declared.Fault.{Fault}
use Rattle.terms.specs.declared.Left.{Left}
use Rattle.terms.specs.Inner.Kids.{entering, kids_of}
use Rattle.reading.specs.Reading.{State, Result, done, no, and_then, entered, fields}
use Rattle.reading.proofs.Families.{fields-to, term-body}
use Rattle.reading.specs.Terms.{body}
use Rattle.reading.specs.Asked.{allowed_of, limit_of}
use Rattle.terms.specs.declared.Reader.{Reader}
use Rattle.terms.specs.Inner.Lent.{whole, place, term_of, GoesOn, Stops, Shows}

-- answers

pub by : {g : Option ℕ} {left : Left} {len room : ℕ} {o p : Result} → p ≡ o → Shows g left len room o → Shows g left len room p
by e h = rw e h

pub goes_by : {left : Left} {len e : ℕ} {o p : Result} → p ≡ o → GoesOn e left len o → GoesOn e left len p
goes_by e h = rw e h

pub stops_by : {left : Left} {room : ℕ} {o p : Result} → p ≡ o → Stops left room o → Stops left room p
stops_by e h = rw e h

pub again : {left : Left} {len e : ℕ} {o p : Result} → GoesOn e left len o → p ≡ done (place e left.seen) → GoesOn e left len p
again h e = record { same = e; some = h.some; inside = h.inside; counted = h.counted }

-- one put together
pub went : {left : Left} {len room : ℕ} {o : Result} {e : ℕ} → GoesOn e left len o → Shows (Some e) left len room o
went h = record { shown = h }

pub stopped : {left : Left} {len room : ℕ} {o : Result} → Stops left room o → Shows None left len room o
stopped h = record { shown = h }

pub ends : (e : ℕ) (left : Left) (len : ℕ) → 1 ≤ e → e ≤ len → left.seen.begun ≤ e → GoesOn e left len (done (place e left.seen))
ends e left len p i c = record { same = refl; some = p; inside = i; counted = c }

-- a refusal is the answer, whatever was to come
pub then_stops : {left : Left} {room : ℕ} {o : Result} (f : State → Result) → Stops left room o → Stops left room (and_then o f)
unfolding and_then
then_stops f h = record { at = h.at; same = ap (λ (p : Result). and_then p f) h.same; few = h.few }

pub then_goes : {left : Left} {len e : ℕ} {o : Result} (f : State → Result) → GoesOn e left len o → and_then o f ≡ f (place e left.seen)
unfolding and_then
then_goes f h = ap (λ (p : Result). and_then p f) h.same

pub entered_goes : {left : Left} {len e : ℕ} {o : Result} (k : Kind) (n : ℕ) → GoesOn e left len o → GoesOn e left len (entered k n o)
unfolding entered
entered_goes k n h = record { same = ap (entered k n) h.same; some = h.some; inside = h.inside; counted = h.counted }

-- what is left where a part is refused, behind a `?`
pub left_off : {r : Option ℕ} {left : Left} {len room : ℕ} {o p : Result} → r ≡ None → p ≡ o → Stops left room o → Shows r left len room p
left_off r e s = rw (r, e) (stopped s)

-- a term that was begun
pub begun : (r : Reader) (rem at : ℕ) (old new : Seen) → at < length r.b.now → ¬ (rem ≡ 0) → new ≡ record { last = at; begun = old.begun + 1; deepest = max old.deepest (limit_of r.asked - (rem - 1)) } →
    term_of r rem (place at old) ≡ body (allowed_of r.asked) (term_of r (rem - 1)) r.b.now (get_or r.b.now at 0) (place (at + 1) new)
begun r rem at old new h k e = rw e (term-body _ _ _ rem (place at old) _ h k refl)

-- with more room for a path it is the same
pub wider : {g : Option ℕ} {left : Left} {len room more : ℕ} {o : Result} → room ≤ more → Shows g left len room o → Shows g left len more o
wider {g} {left} {len} {room} {more} {o} h s = record { shown = go g s.shown }
  where
    go : (f : Option ℕ) → MatchOption f (Stops left room o) (λ end. GoesOn end left len o) → MatchOption f (Stops left more o) (λ end. GoesOn end left len o)
    go None k = record { at = k.at; same = k.same; few = omega (arith, k.few) }
    go (Some end) k = k

-- a refusal as `refuse` leaves it
pub refused : {r : Option ℕ} {new : Fault} {path : List Noted} {why : Refusal} {len room : ℕ} {o : Result} (at : ℕ) (seen : Seen) →
    r ≡ None → new ≡ record { why = why; len = 0; path = path } → o ≡ no (number_of why) (extra_of why) (place at seen) [] →
    Shows r (record { seen = seen; fault = new }) len room o
refused at seen e f s = rw (e, f, s) (stopped (record { at = at; same = refl; few = omega arith }))

-- what is told of a count has no extra
pub no_extra : (s : State) (why : Refusal) → extra_of why ≡ 0 → no (number_of why) 0 s [] ≡ no (number_of why) (extra_of why) s []
no_extra s why e = rw e

-- a segment more, in front of those that are there
path_more : (l : List Noted) (i : ℕ) (v : Noted) → i < length l → map whole (reverse (take (i + 1) (set l i v))) ≡ whole v ∷ map whole (reverse (take i l))
path_more l i v h = ap (λ p. map whole (reverse p)) (take_more_set l i v h) ∙ ap (map whole) (reverse-append (take i l) (v ∷ []))

pub noted : {seen : Seen} {old new : Fault} {room : ℕ} {o : Result} {g : Noted} {h : Segment} → whole g ≡ h → old.len < 64 →
    new ≡ record old { len = old.len + 1; path = set old.path old.len g } → length new.path ≡ 64 →
    Stops (record { seen = seen; fault = old }) room o → Stops (record { seen = seen; fault = new }) (room + 1) (entering h o)
unfolding entered
noted {old = old} {g = g} {h = h} u k e l s =
    let n : length old.path ≡ 64 = sym (length-set old.path old.len g) ∙ rw e at l in
    let p : map whole (reverse (take (old.len + 1) (set old.path old.len g))) ≡ whole g ∷ map whole (reverse (take old.len old.path)) = path_more old.path old.len g (omega arith) in
    rw (e, ← u) (record { at = s.at; same = ap (entered g.kind g.number) s.same ∙ rw p; few = omega (arith, s.few) })

module _ (read : State → Result) (seg : ℕ → ℕ → Segment) where
  pub kids_from : (i n prev : ℕ) (s : State) → i < n →
      kids_of read seg i (n - i) prev s ≡ and_then (entering (seg i prev) (read s)) (kids_of read seg (i + 1) (n - (i + 1)) s.at)
  unfolding kids_of
  kids_from i n prev s h =
      let d : n - i ≡ suc (n - (i + 1)) = omega arith in
      rw d

  pub kids_leaf : (i n prev : ℕ) (s u : State) → i < n → read s ≡ done u →
      kids_of read seg i (n - i) prev s ≡ kids_of read seg (i + 1) (n - (i + 1)) s.at u
  unfolding and_then entered
  kids_leaf i n prev s u h e =
      kids_from i n prev s h ∙ ap (λ (o : Result). and_then (entering (seg i prev) o) (kids_of read seg (i + 1) (n - (i + 1)) s.at)) e

  pub kids_end : (i n prev : ℕ) (s : State) → n ≤ i → kids_of read seg i (n - i) prev s ≡ done s
  unfolding kids_of
  kids_end i n prev s h =
      let e : n - i ≡ 0 = omega arith in
      rw e

-- a row that ends
pub row-to : (at : ℕ) {left : Left} {r len room : ℕ} {w : Row} → w ≡ Ok r → 1 ≤ r → r ≤ len → left.seen.begun ≤ r → Shows (Some r) left len room (fields w (place at left.seen))
row-to at {left} {r} {len} q p i c = went (goes_by (fields-to _ q) (ends r left len p i c))

pub row_ends : {left : Left} {r room : ℕ} (b : List ℕ) (tag at : ℕ) → row_at b tag at ≡ Ok r → 1 ≤ at → at ≤ length b → left.seen.begun ≤ at →
    Shows (Some r) left (length b) room (fields (row_at b tag at) (place at left.seen))
row_ends b tag at q p i c = let w = row_within b tag at q i in row-to at q (omega arith) w.1 (omega arith)
