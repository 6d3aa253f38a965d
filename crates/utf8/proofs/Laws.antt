-- What callers of `good` and `ascii` use of their promises. Assumes nothing.
use Rattle.std.proofs.Common.{◌≡◌, ℕ, ◌+◌, true, eqb, ◌↔◌, List, ◌++◌, length, take, drop, sym, ap, ◌∙◌, subst, append-nil, arith, length-drop, length-take-le, get_or-drop, get_or-take, eq-eqb, eqb-true}
use lib.Seq.{take-length, drop-length}
use Rattle.utf8.specs.Good.{spelled, Utf8}
use Rattle.utf8.specs.Inner.Find.{good_bytes}
use Rattle.utf8.specs.Inner.Check.{Plain}
use Rattle.utf8.proofs.Runs.{none_yet, plain-to, at-end, good-to}
use Rattle.utf8.proofs.Meaning.{good-bytes}
use Rattle.utf8.proofs.Unique.{good_unique}

-- a text that is all ASCII is good
pub ascii_good : {b : List ℕ} {at n : ℕ} → Plain b at (at + n) → good_bytes (take n (drop at b)) ≡ n
ascii_good {b} {at} {n} p =
    good_unique (good-bytes text) (good-to (plain-to (none_yet text) plain) (at-end text n (omega (arith, size))))
  where
    text : List ℕ
    text = take n (drop at b)

    size : length text ≡ n
    size = length-take-le n (drop at b) (simp length-drop (omega (arith, p.within)))

    plain : Plain text 0 n
    plain =
        record {
          order = omega arith;
          within = omega (arith, size);
          low = λ k a l. rw (get_or-take n (drop at b) k 0 l, get_or-drop at b k 0) (p.low (at + k) (omega arith) (omega arith));
        }

-- the test of a text: its good bytes are all of it just where it is UTF-8
pub utf8_is : (l : List ℕ) → (eqb (good_bytes l) (length l) ≡ true) ↔ Utf8 l
utf8_is l = (
  λ e.
      let n : take (good_bytes l) l ≡ l = rw (eqb-true (good_bytes l) (length l) e) (take-length l) in
      subst Utf8 n (good-bytes l).text,
  λ u.
      eq-eqb _ _ (good_unique (good-bytes l) (good-to (record {
        chars = u.chars;
        scalars = u.scalars;
        within = omega arith;
        front = u.is ∙ sym (append-nil (spelled u.chars)) ∙ ap (λ (r : List ℕ). spelled u.chars ++ r) (sym (drop-length l));
      }) (at-end l (length l) (omega arith)))),
)
