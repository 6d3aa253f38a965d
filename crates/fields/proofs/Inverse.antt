-- `be` and `bytes_of` are each other's inverse, so that k bytes and the numbers below 256 ^ k are the same thing. Assumes nothing.
use Prim.Native.Nat.{ℕ, zero, suc, ◌+◌, ◌^◌, ◌/◌, ◌%◌, ◌<◌}
use native.Mathlib.Nat.{add-zero, pow-suc, pow-succ', one-le-pow, div-lt_iff_lt-mul, mul-le-mul_right, mod-lt, mod-eq_of_lt, div-eq_of_lt, div-add-mod', mul-add-div_right, mul-add-mod_self_right}
use native.Mathlib.Omega.{arith}
use mathlib.Core.Path.{◌≡◌, refl, ap, sym, subst, ◌∙◌}
use mathlib.Core.List.{List, [], ◌∷◌, ◌++◌}
use lib.ListN.{length, get_or, take, drop, length-append, length-drop}
use lib.Pow.{pow-add}
use lib.Seq.{length-take-le, get_or-drop}
use Rattle.fields.specs.Be.{be, be_at, bytes_of}
use Rattle.fields.specs.Inner.Be.{Bytes, none, more}
use Rattle.std.specs.Prelude.{Some}
use Rattle.fields.specs.Field.{field_at}
use Rattle.fields.proofs.Laws.{be-append, is_whole}

places : (k : ℕ) → 0 < 256 ^ k
places k = one-le-pow k 256 (omega arith)

pub length-bytes_of : (k n : ℕ) → length (bytes_of k n) ≡ k
unfolding bytes_of
length-bytes_of zero n = refl
length-bytes_of (suc k) n = ap suc (length-bytes_of k (n % 256 ^ k))

pub bytes_of-one : (n : ℕ) → bytes_of 1 n ≡ n ∷ []
unfolding bytes_of
bytes_of-one n = let e : n / 1 ≡ n = omega arith in rw e

-- bytes spell a number that their places can hold
pub be-below : {s : List ℕ} → Bytes s → be s < 256 ^ length s
unfolding be
be-below none = omega arith
be-below (more {x} {s} h r) =
    let q = be-below r in
    let m = mul-le-mul_right {m = x} {n = 255} (256 ^ length s) (omega arith) in
    rw pow-suc (omega arith)

pub be-bytes_of : (k n : ℕ) → n < 256 ^ k → be (bytes_of k n) ≡ n
unfolding be bytes_of
be-bytes_of zero n h = omega arith
be-bytes_of (suc k) n h =
    rw (length-bytes_of k (n % 256 ^ k), be-bytes_of k (n % 256 ^ k) (mod-lt n (places k))) (div-add-mod' n (256 ^ k))

pub bytes_of-be : {s : List ℕ} → Bytes s → bytes_of (length s) (be s) ≡ s
unfolding be bytes_of
bytes_of-be none = refl
bytes_of-be (more {x} {s} h r) =
    let q = be-below r in
    rw (mul-add-div_right (places (length s)) x (be s), div-eq_of_lt q, mul-add-mod_self_right x (256 ^ length s) (be s), mod-eq_of_lt q, bytes_of-be r, add-zero x)

-- a number's bytes are bytes, and two numbers that lie side by side are one
number-bytes : (k n : ℕ) → n < 256 ^ k → Bytes (bytes_of k n)
unfolding bytes_of
number-bytes zero n h = none
number-bytes (suc k) n h = more ((div-lt_iff_lt-mul {k = 256 ^ k} {x = n} {y = 256} (places k)).1 (rw pow-succ' at h)) (number-bytes k (n % 256 ^ k) (mod-lt n (places k)))

both_bytes : {s t : List ℕ} → Bytes s → Bytes t → Bytes (s ++ t)
both_bytes none b = b
both_bytes (more h a) b = more h (both_bytes a b)

pub bytes_of_joined : (j k n : ℕ) → n < 256 ^ (j + k) → bytes_of j (n / 256 ^ k) ++ bytes_of k (n % 256 ^ k) ≡ bytes_of (j + k) n
bytes_of_joined j k n h =
    let u : n / 256 ^ k < 256 ^ j = (div-lt_iff_lt-mul {k = 256 ^ k} {x = n} {y = 256 ^ j} (places k)).1 (rw pow-add at h) in
    let d : n % 256 ^ k < 256 ^ k = mod-lt n (places k) in
    let a = bytes_of j (n / 256 ^ k) in
    let b = bytes_of k (n % 256 ^ k) in
    let l : length (a ++ b) ≡ j + k = simp (length-append, length-bytes_of) in
    let v : be (a ++ b) ≡ n = rw (be-append a b, length-bytes_of k (n % 256 ^ k), be-bytes_of j (n / 256 ^ k) u, be-bytes_of k (n % 256 ^ k) d) (div-add-mod' n (256 ^ k)) in
    sym (bytes_of-be (both_bytes (number-bytes j (n / 256 ^ k) u) (number-bytes k (n % 256 ^ k) d))) ∙ ap (λ (m : ℕ). bytes_of m (be (a ++ b))) l ∙ ap (bytes_of (j + k)) v

-- what a field of k bytes says is below 256 ^ k, where the input is bytes
bytes_of_lem : (s : List ℕ) → ((i : ℕ) → get_or s i 0 < 256) → Bytes s
bytes_of_lem [] h = none
bytes_of_lem (x ∷ s) h = more (h 0) (bytes_of_lem s (λ i. h (suc i)))

taken : (k : ℕ) {s : List ℕ} → Bytes s → Bytes (take k s)
taken zero r = none
taken (suc k) none = none
taken (suc k) (more h r) = more h (taken k r)

pub is_below : (k : ℕ) (b : List ℕ) (at : ℕ) {n : ℕ} → ((i : ℕ) → get_or b i 0 < 256) → field_at k b at ≡ Some n → n < 256 ^ k
unfolding be_at
is_below k b at {n} h e =
    let w = is_whole k b at e in
    let r : Bytes (take k (drop at b)) = taken k (bytes_of_lem (drop at b) (λ i. rw get_or-drop (h (at + i)))) in
    let l : length (take k (drop at b)) ≡ k = length-take-le k (drop at b) (simp length-drop (omega arith)) in
    rw w.1 (subst (λ (m : ℕ). be (take k (drop at b)) < 256 ^ m) l (be-below r))
