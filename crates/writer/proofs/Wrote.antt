-- Bytes that were put: by stores, side by side, as a number by its halves, and with others that may stand behind them. Assumes nothing.
use Rattle.std.proofs.Common.{◌≡◌, ℕ, ◌+◌, ◌-◌, ◌/◌, ◌%◌, ◌<◌, ◌≤◌, List, [], ◌∷◌, ◌++◌, length, get_or, take, drop, set, w16, w32, w64, sym, refl, ap, ◌∙◌, append_assoc, add-one, arith, length-append, length-drop, length-set, length-take-le, take-suc, take-take, drop-drop, take_at, drop-set-lt, drop_at}
use lib.Seq.{sets, sets-eq, length-sets, take-set-lt, set_at, append_snoc, take-append-add, paste, take-paste, drop-paste, length-paste}
use Rattle.fields.specs.Be.{bytes_of}
use Rattle.std.specs.Int.{to_be_bytes}
use borrow.Rule.Slice.PartMut.{put_mid}
use Rattle.std.proofs.lemmas.Slice.{take-put_mid, drop-put_mid}
use Rattle.fields.proofs.Inverse.{bytes_of-one}
use Rattle.writer.specs.Inner.Put.{Wrote}

-- a run of stores, and no more
pub stored : (old : List ℕ) (p q : ℕ) (l : List ℕ) → q ≡ p + length l → q ≤ length old → Wrote old (sets old p l) p q q l
stored old p q l e h =
    let s = rw (← e) at (sets-eq l old p (omega arith)) in
    let n : length (take p old ++ l) ≡ q = length-append (take p old) l ∙ ap (λ (m : ℕ). m + length l) (length-take-le p old (omega arith)) ∙ sym e in
    record {
      to = e;
      front = ap (take q) s ∙ take_at (take p old ++ l) _ _ n;
      rest = ap (drop q) s ∙ drop_at (take p old ++ l) _ _ n;
      kept = length-sets old p l;
    }

pub byte : (old : List ℕ) (p v : ℕ) → p < length old → Wrote old (set old p v) p (p + 1) (p + 1) (bytes_of 1 v)
byte old p v h = rw (bytes_of-one v) (stored old p (p + 1) (v ∷ []) refl (omega arith))

-- a copy, and no more
pub pasted : (old s : List ℕ) (p n : ℕ) → p + n ≤ length old → n ≤ length s → Wrote old (paste old p s n) p (p + n) (p + n) (take n s)
pasted old s p n h k = record {
  to = omega (arith, length-take-le n s k);
  front = take-paste old p s n (omega arith) k;
  rest = drop-paste old p s n (omega arith) k;
  kept = length-paste old p s n h k;
}

-- others behind them, up to a later end; the place behind the bytes by another name
pub wider : {old new : List ℕ} {p q r e end : ℕ} {l : List ℕ} → q ≡ r → e ≤ end → Wrote old new p q e l → Wrote old new p r end l
wider {old} {new} {e = e} {end = end} f h w =
    let x : end ≡ e + (end - e) = omega arith in
    let later : (s : List ℕ) → drop end s ≡ drop (end - e) (drop e s) = λ s. ap (λ (n : ℕ). drop n s) x ∙ sym (drop-drop (end - e) e s) in
    record { to = sym f ∙ w.to; front = rw f at w.front; rest = later new ∙ ap (drop (end - e)) w.rest ∙ sym (later old); kept = w.kept }

-- the first k of them, so that those behind count as others
pub first : {old new : List ℕ} {p q end : ℕ} {l : List ℕ} (k : ℕ) → k ≤ length l → p ≤ length old → Wrote old new p q end l → Wrote old new p (p + k) end (take k l)
first {old} {new} {p} {q} {end} {l} k h i w =
    let n : length (take p old) ≡ p = length-take-le p old i in
    let a : take (p + k) (take p old ++ l) ≡ take p old ++ take k l = rw n at (take-append-add (take p old) l k) in
    record {
      to = omega (arith, length-take-le k l h);
      front = sym (take-take (p + k) q new (omega (arith, w.to))) ∙ ap (take (p + k)) w.front ∙ a;
      rest = w.rest;
      kept = w.kept;
    }

-- bytes side by side
pub then : {old new last : List ℕ} {p q r e end : ℕ} {l k : List ℕ} → e ≤ end → Wrote old new p q e l → Wrote new last q r end k → Wrote old last p r end (l ++ k)
then {old} {p = p} {l = l} {k = k} h w v = record {
  to = omega (arith, w.to, v.to, length-append l k);
  front = v.front ∙ ap (λ (x : List ℕ). x ++ k) w.front ∙ append_assoc (take p old) l k;
  rest = v.rest ∙ (wider refl h w).rest;
  kept = v.kept ∙ w.kept;
}

-- a part written whole
pub put : (old l : List ℕ) (p q : ℕ) → p ≤ q → q ≤ length old → length l ≡ length (take (q - p) (drop p old)) → Wrote old (put_mid p (q - p) old l) p q q l
put old l p q o h e =
    let part : length (take (q - p) (drop p old)) ≡ q - p = length-take-le (q - p) (drop p old) (omega (arith, length-drop p old)) in
    let to : q ≡ p + length l = omega arith in
    record {
      to = to;
      front = take-put_mid p (q - p) old l q to (omega arith);
      rest = drop-put_mid p (q - p) old l q (omega arith) (omega arith) (omega arith);
      kept =
          length-append (take p old) (l ++ drop (q - p) (drop p old)) ∙ omega (arith, length-append l (drop (q - p) (drop p old)), length-take-le p old (omega arith), length-drop (q - p) (drop p old), length-drop p old);
    }

-- a number's bytes as std makes them
pub bytes_1 : (n : ℕ) → n ∷ [] ≡ bytes_of 1 n
bytes_1 n = sym (bytes_of-one n)

pub bytes_2 : (n : ℕ) → n < 65536 → to_be_bytes w16 n ≡ bytes_of 2 n
unfolding bytes_of
bytes_2 n h =
    let a : n / 256 % 256 ≡ n / 256 = omega arith in
    let b : n % 256 ≡ n % 256 / 1 = omega arith in
    cc

pub bytes_4 : (n : ℕ) → n < 4294967296 → to_be_bytes w32 n ≡ bytes_of 4 n
unfolding bytes_of
bytes_4 n h =
    let a : n / 16777216 % 256 ≡ n / 16777216 = omega arith in
    let b : n / 65536 % 256 ≡ n % 16777216 / 65536 = omega arith in
    let c : n / 256 % 256 ≡ n % 16777216 % 65536 / 256 = omega arith in
    let d : n % 256 ≡ n % 16777216 % 65536 % 256 / 1 = omega arith in
    cc

pub bytes_8 : (n : ℕ) → n < 18446744073709551616 → to_be_bytes w64 n ≡ bytes_of 8 n
unfolding bytes_of
bytes_8 n h =
    let m6 : n % 72057594037927936 % 281474976710656 ≡ n % 281474976710656 = omega arith in
    let m5 : n % 281474976710656 % 1099511627776 ≡ n % 1099511627776 = omega arith in
    let m4 : n % 1099511627776 % 4294967296 ≡ n % 4294967296 = omega arith in
    let m3 : n % 4294967296 % 16777216 ≡ n % 16777216 = omega arith in
    let m2 : n % 16777216 % 65536 ≡ n % 65536 = omega arith in
    let m1 : n % 65536 % 256 ≡ n % 256 = omega arith in
    let a7 : n / 72057594037927936 % 256 ≡ n / 72057594037927936 = omega arith in
    let a6 : n / 281474976710656 % 256 ≡ n % 72057594037927936 / 281474976710656 = omega arith in
    let a5 : n / 1099511627776 % 256 ≡ n % 281474976710656 / 1099511627776 = omega arith in
    let a4 : n / 4294967296 % 256 ≡ n % 1099511627776 / 4294967296 = omega arith in
    let a3 : n / 16777216 % 256 ≡ n % 4294967296 / 16777216 = omega arith in
    let a2 : n / 65536 % 256 ≡ n % 16777216 / 65536 = omega arith in
    let a1 : n / 256 % 256 ≡ n % 65536 / 256 = omega arith in
    let a0 : n % 256 ≡ n % 256 / 1 = omega arith in
    cc

-- one in front of them, stored behind them
pub in_front : {old new : List ℕ} {p q r end : ℕ} {l : List ℕ} (v : ℕ) → q ≡ p + 1 → p < end → end ≤ length old → Wrote old new q r end l → Wrote old (set new p v) p r end (v ∷ l)
in_front {old} {new} {p} {q} {r} {end} {l} v e h k w =
    let t : take q old ≡ take p old ++ (get_or old p 0 ∷ []) = rw (e, add-one p) (take-suc old p 0 (omega arith)) in
    let s : take r new ≡ take p old ++ get_or old p 0 ∷ l = w.front ∙ ap (λ (x : List ℕ). x ++ l) t ∙ append_snoc (take p old) (get_or old p 0) l in
    record {
      to = omega (arith, w.to);
      front = take-set-lt r new p v (omega (arith, w.to)) ∙ ap (λ (x : List ℕ). set x p v) s ∙ set_at (take p old) (get_or old p 0) l v p (length-take-le p old (omega arith));
      rest = drop-set-lt end new p v h ∙ w.rest;
      kept = length-set new p v ∙ w.kept;
    }
