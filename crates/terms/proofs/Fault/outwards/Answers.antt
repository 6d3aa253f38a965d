-- `terms::Fault::outwards` meets its contract: each segment noted is put over a blank one. Assumes nothing.
use Rattle.std.proofs.Common.{◌≡◌, ℕ, ◌<◌, ◌≤◌, ◌+◌, ◌-◌, ◌∙◌, List, ◌++◌, refl, sym, ap, length, take, set, get_or, reverse, replicate, arith, zero-add}
use Rattle.std.proofs.lemmas.List.{get_or-reverse, get_or-take, length-take-le, length-map, length-reverse, drop-replicate}
use Rattle.std.proofs.lemmas.List.Edits.{paste_none, paste_more, paste_all}
use Rattle.std.proofs.Math.ListN.{get_or-map, length-replicate}
use Rattle.std.proofs.Math.Seq.{paste}
use Rattle.reading.specs.declared.Path.{Path}
use Rattle.reading.specs.declared.Segment.{Segment}
use Rattle.terms.specs.declared.Noted.{Noted}
use Rattle.terms.specs.declared.Fault.{Fault}
use Rattle.terms.specs.Inner.Lent.{whole, path_of}
use Rattle.terms.proofs.Fault.outwards.Goals as goal

segment_at : (f : Fault) (i : ℕ) (d : Noted) → length f.path ≡ 64 → f.len ≤ 64 → i < f.len → get_or (path_of f) i (whole d) ≡ whole (get_or f.path (f.len - 1 - i) d)
segment_at f i d h k l =
    let n : length (take f.len f.path) ≡ f.len = length-take-le f.len f.path (omega arith) in
    let r : get_or (reverse (take f.len f.path)) i d ≡ get_or (take f.len f.path) (length (take f.len f.path) - 1 - i) d = get_or-reverse (take f.len f.path) i d (omega arith) in
    get_or-map whole (reverse (take f.len f.path)) i d ∙ ap whole (r ∙ rw n (get_or-take f.len f.path (f.len - 1 - i) d (omega arith)))

turn : (m i : ℕ) (x v : Segment) (p l : List Segment) → i < length p → i < m → l ≡ paste (replicate m x) 0 p i → v ≡ get_or p i x → set l i v ≡ paste (replicate m x) 0 p (i + 1)
turn m i x v p l h k e f =
    let n : length (replicate m x) ≡ m = length-replicate m x in
    rw (e, f) (ap (λ (j : ℕ). set (paste (replicate m x) 0 p i) j (get_or p i x)) (sym (zero-add i)) ∙ paste_more (replicate m x) 0 p i x (omega arith) h)

whole_path : (m n : ℕ) (x : Segment) (p l : List Segment) → n ≡ length p → l ≡ paste (replicate m x) 0 p n → l ≡ p ++ replicate (m - length p) x
whole_path m n x p l h e = e ∙ paste_all (replicate m x) 0 p n h ∙ rw (zero-add, drop-replicate n m x, h)

noted : (f : Fault) → length f.path ≡ 64 → f.len ≤ 64 → length (path_of f) ≡ f.len
noted f h k = length-map (reverse (take f.len f.path)) whole ∙ length-reverse (take f.len f.path) ∙ length-take-le f.len f.path (omega arith)

abbrev of_len : ℕ → List Segment → Path
of_len n l = record { len = n; segments = l }

pub loop-i-init : goal.loop-i-init
loop-i-init c = rw c.empty-path.ensures (ap (of_len c.args.self.now.len) (paste_none _ 0 (path_of c.args.self.now)))

pub loop-i-preserved : goal.loop-i-preserved
loop-i-preserved c =
    let f = c.args.self.now in
    let n : length (path_of f) ≡ f.len = noted f (omega arith) c.requires in
    rw c.loop-i.invariant (ap (of_len f.len) (turn 64 c.loop-i.i _ _ (path_of f) _ (omega arith) (omega arith) refl (rw c.from.ensures (sym (segment_at f c.loop-i.i _ (omega arith) c.requires (omega arith))))))

pub returns-clause-path : goal.returns-clause-path
returns-clause-path c =
    let f = c.args.self.now in
    let n : length (path_of f) ≡ f.len = noted f (omega arith) c.requires in
    c.loop-i.invariant ∙ ap (of_len f.len) (whole_path 64 c.loop-i.i _ (path_of f) _ (omega arith) refl)
