-- The readers meet their contracts, within their cycle. Assumes nothing.
use native.Mathlib.Omega.{arith}
use mathlib.Core.Path.{◌∙◌, refl, sym}
use Rattle.reading.proofs.Asks.{asks_texts}
use Rattle.terms.proofs.Laws as laws
use Rattle.reading.proofs.Families as fam
use borrow.Author.Rules.{rules}
use Rattle.terms.proofs.Children as one
use Rattle.fields.proofs.Laws.{is_whole}
use native.Mathlib.Nat.{max-eq_left}
use Rattle.reading.proofs.Floors as floors
use Rattle.rows.proofs.Laws.{count-is, count-there}
use Rattle.terms.proofs.Reader.+readers.Goals as goal

-- `terms::Reader::body` within the cycle: by the tag.

pub body-returns-in-104 : goal.body-returns-in-104
body-returns-in-104 t c = laws.by (fam.body_104 _ _ _ _ _ c.in-104.is) c.small_tuple.ensures

pub body-returns-in-105 : goal.body-returns-in-105
body-returns-in-105 t c = laws.by (fam.body_105 _ _ _ _ _ c.in-105.is) c.large_tuple.ensures

pub body-returns-in-108 : goal.body-returns-in-108
body-returns-in-108 t c = laws.by (fam.body_108 _ _ _ _ _ c.in-108.is) c.list.ensures

pub body-returns-in-116 : goal.body-returns-in-116
body-returns-in-116 t c = laws.by (fam.body_116 _ _ _ _ _ c.in-116.is) c.map.ensures

pub body-returns-in-88 : goal.body-returns-in-88
body-returns-in-88 t c = laws.by (fam.body_88 _ _ _ _ _ c.in-88.is ∙ fam.pid-is _ _ _) c.named.ensures

pub body-returns-in-120 : goal.body-returns-in-120
body-returns-in-120 t c = laws.by (fam.body_120 _ _ _ _ _ c.in-120.is ∙ fam.pid-is _ _ _) c.named-in-120.ensures

pub body-returns-in-90 : goal.body-returns-in-90
body-returns-in-90 t c = laws.by (fam.body_90 _ _ _ _ _ c.in-90.is) c.reference.ensures

pub body-returns-in-113 : goal.body-returns-in-113
body-returns-in-113 t c = laws.by (fam.body_113 _ _ _ _ _ c.in-113.is) c.export.ensures

pub body-returns-in-112 : goal.body-returns-in-112
body-returns-in-112 t c = laws.by (fam.body_112 _ _ _ _ _ c.in-112.is) c.function.ensures

pub body-returns-in-82 : goal.body-returns-in-82
body-returns-in-82 t c = laws.by (fam.body_82 _ _ _ _ _ c.in-82.is) (c.position.ensures _)

pub body-returns-in_default : goal.body-returns-in_default
body-returns-in_default t c = laws.by (fam.body-row _ _ _ _ _ (asks_texts _) c.in_default.in_default-own.rest) (c.row.ensures _)

-- `terms::Reader::captured` within the cycle: one child after the other; the first refusal is the answer.

pub captured-returns-in_err-module : goal.captured-returns-in_err-module
captured-returns-in_err-module t c = laws.left_off c.from_residual.ensures (fam.captured-is _ _ _ _) (laws.then_stops _ c.in_err-module.ensures.shown)

pub captured-returns-in_err-index : goal.captured-returns-in_err-index
captured-returns-in_err-index t c = laws.left_off c.from_residual-in_err-index.ensures (fam.captured-is _ _ _ _ ∙ laws.then_goes _ c.in_ok-module.ensures.shown) (laws.then_stops _ c.in_err-index.ensures.shown)

pub captured-returns-in_err-uniq : goal.captured-returns-in_err-uniq
captured-returns-in_err-uniq t c = laws.left_off c.from_residual-in_err-uniq.ensures (fam.captured-is _ _ _ _ ∙ laws.then_goes _ c.in_ok-module.ensures.shown ∙ laws.then_goes _ c.in_ok-index.ensures.shown) (laws.then_stops _ c.in_err-uniq.ensures.shown)

pub captured-returns-in_err-process : goal.captured-returns-in_err-process
captured-returns-in_err-process t c = laws.left_off c.from_residual-in_err-process.ensures (fam.captured-is _ _ _ _ ∙ laws.then_goes _ c.in_ok-module.ensures.shown ∙ laws.then_goes _ c.in_ok-index.ensures.shown ∙ laws.then_goes _ c.in_ok-uniq.ensures.shown) (laws.then_stops _ c.in_err-process.ensures.shown)

pub captured-returns : goal.captured-returns
captured-returns t c = laws.by (fam.captured-is _ _ _ _ ∙ laws.then_goes _ c.in_ok-module.ensures.shown ∙ laws.then_goes _ c.in_ok-index.ensures.shown ∙ laws.then_goes _ c.in_ok-uniq.ensures.shown ∙ laws.then_goes _ c.in_ok-process.ensures.shown ∙ one.free_kids _ _ _ _) c.kids.ensures

-- `terms::Reader::child` within the cycle: `term`'s contract, by the tag; what it doesn't read itself is `term`'s.

pub child-returns-in-104 : goal.child-returns-in-104
child-returns-in-104 t c = laws.by (laws.begun c.args.self.now _ _ _ _ (omega arith) c.if-rem-eq0.false c.begin.ensures ∙ fam.body_104 _ _ _ _ _ c.in-104.is) (laws.wider (omega arith) c.small_tuple.ensures)

pub child-returns-in-108 : goal.child-returns-in-108
child-returns-in-108 t c = laws.by (laws.begun c.args.self.now _ _ _ _ (omega arith) c.if-rem-eq0.false c.begin-in-108.ensures ∙ fam.body_108 _ _ _ _ _ c.in-108.is) (laws.wider (omega arith) c.list.ensures)

pub child-returns-in-116 : goal.child-returns-in-116
child-returns-in-116 t c = laws.by (laws.begun c.args.self.now _ _ _ _ (omega arith) c.if-rem-eq0.false c.begin-in-116.ensures ∙ fam.body_116 _ _ _ _ _ c.in-116.is) (laws.wider (omega arith) c.map.ensures)

-- `terms::Reader::export` within the cycle: one child after the other; the first refusal is the answer.

pub export-returns-in_err-module : goal.export-returns-in_err-module
export-returns-in_err-module t c = laws.left_off c.from_residual.ensures (fam.export_is _ _ _) (laws.then_stops _ c.in_err-module.ensures.shown)

pub export-returns-in_err-name : goal.export-returns-in_err-name
export-returns-in_err-name t c = laws.left_off c.from_residual-in_err-name.ensures (fam.export_is _ _ _ ∙ laws.then_goes _ c.in_ok-module.ensures.shown) (laws.then_stops _ c.in_err-name.ensures.shown)

pub export-returns : goal.export-returns
export-returns t c = laws.by (fam.export_is _ _ _ ∙ laws.then_goes _ c.in_ok-module.ensures.shown ∙ laws.then_goes _ c.in_ok-name.ensures.shown) c.required-3.ensures

-- `terms::Reader::function` within the cycle: its fixed fields are there where the last of them is.

pub function-captured-requires : goal.function-captured-requires
function-captured-requires t c = let w = is_whole 4 _ _ (sym c.in-Some.ensures) in search rules

pub function-returns : goal.function-returns
function-returns t c = laws.by (fam.function-is _ _ _ (sym c.in-Some.ensures)) c.captured.ensures

pub function-returns-in_default : goal.function-returns-in_default
function-returns-in_default t c = laws.refused _ _ c.refuse.ensures.none c.refuse.ensures.told (fam.function_eof _ _ _ (sym c.in_default.ensures)).1

-- `terms::Reader::kids` within the cycle: the loop's invariant is an equation: all children from the start are the rest from here. The deepest nesting was raised before the loop, so that short leaves change only the place and the count.

pub kids-loop-i-preserved-in-Some : goal.kids-loop-i-preserved-in-Some
kids-loop-i-preserved-in-Some t c =
    let p = c.in-Some.ensures in
    let deep = c.loop-i.invariant.deep p.some (omega (arith, p.after, p.inside)) (omega arith) in
    record {
      inside = p.inside;
      counted = omega (arith, p.after);
      some = omega (arith, p.after);
      before = c.loop-i.invariant.inside;
      deep = λ k q l. deep;
      same = c.loop-i.invariant.same ∙ laws.kids_leaf _ _ _ _ _ _ _ (omega arith) (p.same _ _ _ _ _ ∙ rw (max-eq_left deep));
    }

pub kids-returns-in_default-child : goal.kids-returns-in_default-child
kids-returns-in_default-child t c =
    laws.stopped (laws.stops_by (c.deepen.ensures.same _ _ _ _ ∙ c.loop-i.invariant.same ∙ laws.kids_from _ _ _ _ _ _ (omega arith))
    (laws.then_stops _ (laws.noted c.segment_of.ensures (omega (arith, c.in_default-child.ensures.shown.few)) c.note.ensures.noted c.note.ensures.long c.in_default-child.ensures.shown)))

pub kids-loop-i-preserved : goal.kids-loop-i-preserved
kids-loop-i-preserved t c =
    let g = c.in-Some-child.ensures.shown in
    record {
      inside = g.inside;
      counted = g.counted;
      some = g.some;
      before = c.loop-i.invariant.inside;
      deep = λ k q l. floors.floor _ _ _ _ _ _ k g.same;
      same = c.loop-i.invariant.same ∙ laws.kids_from _ _ _ _ _ _ (omega arith) ∙ laws.then_goes _ (laws.entered_goes _ _ g);
    }

pub kids-returns : goal.kids-returns
kids-returns t c =
    laws.went (laws.goes_by (c.deepen.ensures.same _ _ _ _ ∙ c.loop-i.invariant.same ∙ laws.kids_end _ _ _ _ _ _ (omega arith)) (laws.ends _ _ _ (omega arith) (omega arith) (omega arith)))

-- `terms::Reader::large_tuple` within the cycle: a count within its cap, and the one loop.

pub large_tuple-returns-in_err-arity : goal.large_tuple-returns-in_err-arity
large_tuple-returns-in_err-arity t c =
    let (why, (e, f)) = c.in_err-arity.ensures in
    let n = sym c.count.ensures ∙ e in
    laws.refused _ _ c.from_residual.ensures f (fam.large_no _ _ _ n ∙ laws.no_extra _ _ (one.count_extra _ _ _ n))

pub large_tuple-kids-requires : goal.large_tuple-kids-requires
large_tuple-kids-requires t c =
    let n = sym c.count.ensures ∙ c.in_ok-arity.ensures.0 in
    let w = count-is _ _ _ n in
    let p = count-there _ _ _ n in
    search rules

pub large_tuple-returns : goal.large_tuple-returns
large_tuple-returns t c = laws.by (one.large_kids _ _ _ _ _ (sym c.count.ensures ∙ c.in_ok-arity.ensures.0)) c.kids.ensures

-- `terms::Reader::list` within the cycle: a count within its cap, and the one loop with the tail as last child.

pub list-returns-in_err-elements : goal.list-returns-in_err-elements
list-returns-in_err-elements t c =
    let (why, (e, f)) = c.in_err-elements.ensures in
    let n = sym c.count.ensures ∙ e in
    laws.refused _ _ c.from_residual.ensures f (fam.list-no _ _ _ n ∙ laws.no_extra _ _ (one.count_extra _ _ _ n))

pub list-overflow_add-elements : goal.list-overflow_add-elements
list-overflow_add-elements t c = omega (arith, (count-is _ _ _ (sym c.count.ensures ∙ c.in_ok-elements.ensures.0)).1)

pub list-kids-requires : goal.list-kids-requires
list-kids-requires t c =
    let n = sym c.count.ensures ∙ c.in_ok-elements.ensures.0 in
    let w = count-is _ _ _ n in
    let p = count-there _ _ _ n in
    search rules

pub list-returns : goal.list-returns
list-returns t c = laws.by (one.list_kids _ _ _ _ _ (sym c.count.ensures ∙ c.in_ok-elements.ensures.0)) c.kids.ensures

-- `terms::Reader::map` within the cycle: a count within its cap, and the one loop over twice as many children.

pub map-returns-in_err-pairs : goal.map-returns-in_err-pairs
map-returns-in_err-pairs t c =
    let (why, (e, f)) = c.in_err-pairs.ensures in
    let n = sym c.count.ensures ∙ e in
    laws.refused _ _ c.from_residual.ensures f (fam.map-no _ _ _ n ∙ laws.no_extra _ _ (one.count_extra _ _ _ n))

pub map-overflow_mul-pairs : goal.map-overflow_mul-pairs
map-overflow_mul-pairs t c = omega (arith, (count-is _ _ _ (sym c.count.ensures ∙ c.in_ok-pairs.ensures.0)).1)

pub map-kids-requires : goal.map-kids-requires
map-kids-requires t c =
    let n = sym c.count.ensures ∙ c.in_ok-pairs.ensures.0 in
    let w = count-is _ _ _ n in
    let p = count-there _ _ _ n in
    search rules

pub map-returns : goal.map-returns
map-returns t c = laws.by (one.map_kids _ _ _ _ _ (sym c.count.ensures ∙ c.in_ok-pairs.ensures.0)) c.kids.ensures

-- `terms::Reader::named` within the cycle: its atom, and then bytes.

pub named-returns-in_err-end : goal.named-returns-in_err-end
named-returns-in_err-end t c = laws.left_off c.from_residual.ensures refl (laws.then_stops _ c.in_err-end.ensures.shown)

pub named-returns : goal.named-returns
named-returns t c = laws.by (laws.then_goes _ c.in_ok-end.ensures.shown) (c.skip.ensures _)

-- `terms::Reader::reference` within the cycle: a count, and what is named behind it.

pub reference-named-requires : goal.reference-named-requires
reference-named-requires t c = let w = is_whole 2 _ _ (sym c.in-Some.ensures) in search rules

pub reference-returns : goal.reference-returns
reference-returns t c = laws.by (fam.reference-is _ _ _ (sym c.in-Some.ensures)) (rw c.from.ensures at c.named.ensures)

pub reference-returns-in_default : goal.reference-returns-in_default
reference-returns-in_default t c = laws.refused _ _ c.refuse.ensures.none c.refuse.ensures.told (fam.reference_eof _ _ _ (sym c.in_default.ensures))

-- `terms::Reader::required` within the cycle: where the child is read whole, the test of it decides.

pub required-returns-in_err-end : goal.required-returns-in_err-end
required-returns-in_err-end t c = laws.wider (omega arith) (laws.left_off c.from_residual.ensures (fam.required-is _ _ _) (laws.then_stops _ c.in_err-end.ensures.shown))

pub required-is-requires : goal.required-is-requires
required-is-requires t c = fam.inside _ _ _ _ _ _ c.in_ok-end.ensures.shown.same

pub required-returns-then-is : goal.required-returns-then-is
required-returns-then-is t c = let g = c.in_ok-end.ensures.shown in laws.went (laws.again g (fam.required-good _ _ _ g.same (sym c.is.ensures ∙ c.if-is.true)))

pub required-returns : goal.required-returns
required-returns t c = laws.refused _ _ c.refuse.ensures.none c.refuse.ensures.told (fam.required_bad _ _ _ c.in_ok-end.ensures.shown.same (sym c.is.ensures ∙ c.if-is.false))

-- `terms::Reader::small_tuple` within the cycle: a count, and the one loop.

pub small_tuple-kids-requires : goal.small_tuple-kids-requires
small_tuple-kids-requires t c = let w = is_whole 1 _ _ (sym c.in-Some.ensures) in search rules

pub small_tuple-returns : goal.small_tuple-returns
small_tuple-returns t c = laws.by (one.small_kids _ _ _ _ _ (sym c.in-Some.ensures)) (rw c.from.ensures at c.kids.ensures)

pub small_tuple-returns-in_default : goal.small_tuple-returns-in_default
small_tuple-returns-in_default t c = laws.refused _ _ c.refuse.ensures.none c.refuse.ensures.told (fam.small_eof _ _ _ (sym c.in_default.ensures))

-- `terms::Reader::term` within the cycle: it is refused at its start, or begun.

pub term-returns-then-self-at : goal.term-returns-then-self-at
term-returns-then-self-at t c = laws.refused _ _ c.refuse.ensures.none c.refuse.ensures.told (fam.term_eof _ _ _ _ _ _ (omega arith) refl)

pub term-returns-then-rem-eq0 : goal.term-returns-then-rem-eq0
term-returns-then-rem-eq0 t c = laws.refused _ _ c.refuse-then-rem-eq0.ensures.none c.refuse-then-rem-eq0.ensures.told (fam.term_deep _ _ _ _ _ _ (omega arith) c.if-rem-eq0.true refl)

pub term-returns : goal.term-returns
term-returns t c = laws.by (laws.begun c.args.self.now _ _ _ _ (omega arith) c.if-rem-eq0.false c.begin.ensures) (laws.wider (omega arith) c.body.ensures)
