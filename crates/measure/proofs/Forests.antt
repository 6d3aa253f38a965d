-- Trees side by side: the first of them, those behind, and a tail at their end. Assumes nothing.
use Rattle.std.proofs.Common.{◌≡◌, ℕ, zero, suc, ◌+◌, ◌≤◌, refl, ap, arith}
use Rattle.numbers.specs.Allowed.{plain}
use Rattle.layouts.specs.Tree.{Forest, none, more, count}
use Rattle.layouts.specs.Layout as layout
use Rattle.layouts.specs.Layout.{AllLaid, no_more, one_more, row}
use Rattle.measure.specs.Term.{first, behind, ended}

pub count-first : (n : ℕ) (ts : Forest) → n ≤ count ts → count (first n ts) ≡ n
unfolding count first
count-first zero ts h = refl
count-first (suc n) none h = absurd (omega arith)
count-first (suc n) (more t ts) h = ap suc (count-first n ts (omega arith))

pub count-behind : (n : ℕ) (ts : Forest) → n ≤ count ts → n + count (behind n ts) ≡ count ts
unfolding count behind
count-behind zero ts h = omega arith
count-behind (suc n) none h = absurd (omega arith)
count-behind (suc n) (more t ts) h = omega (arith, count-behind n ts (omega arith))

pub count-ended : (ts : Forest) → count (ended ts) ≡ count ts + 1
unfolding count ended
count-ended none = refl
count-ended (more t ts) = omega (arith, count-ended ts)

pub laid-first : (n : ℕ) {ts : Forest} → AllLaid plain ts → AllLaid plain (first n ts)
unfolding first
laid-first zero l = no_more
laid-first (suc n) no_more = no_more
laid-first (suc n) (one_more t l) = one_more t (laid-first n l)

pub laid-behind : (n : ℕ) {ts : Forest} → AllLaid plain ts → AllLaid plain (behind n ts)
unfolding behind
laid-behind zero l = l
laid-behind (suc n) no_more = no_more
laid-behind (suc n) (one_more t l) = laid-behind n l

pub laid-ended : {ts : Forest} → AllLaid plain ts → AllLaid plain (ended ts)
unfolding ended
laid-ended no_more = one_more (row layout.nil) no_more
laid-ended (one_more t l) = one_more t (laid-ended l)

pub empty : (ts : Forest) → count ts ≡ 0 → ts ≡ none
unfolding count
empty none c = refl
empty (more t ts) c = absurd (omega arith)

-- the first of one is all
pub first_one : (ts : Forest) → count ts ≡ 1 → first 1 ts ≡ ts
unfolding count first
first_one none h = absurd (omega arith)
first_one (more t none) h = refl
first_one (more t (more u ts)) h = absurd (omega arith)
