-- A front is a header and no more. What a message's header leaves, where it is read to its end, is the same whatever stands behind it, a term or
-- nothing: so the message up to its rest, a front, leaves the same alone; and a front leaves what every message that begins with it leaves, and allows
-- the same in the term. Assumes nothing.
use Prim.Native.Nat.{ℕ, ◌≤◌}
use native.Mathlib.Omega.{arith}
use mathlib.Core.Path.{◌≡◌, refl}
use mathlib.Core.List.{List, ◌++◌}
use mathlib.Core.Bool.{Bool, true, false, ◌||◌}
use lib.Dec.{eqb, ltb}
use lib.ListN.{length, take}
use Rattle.std.specs.Prelude.{Result, Ok, Err}
use Rattle.numbers.specs.Caps as cap
use Rattle.numbers.specs.declared.Refusal.{Refusal}
use Rattle.numbers.specs.declared.Refusal.TheVariants as refusal
use Rattle.rows.proofs.Ends.{Agree}
use Rattle.references.specs.Header.{start_of, header_of}
use Rattle.references.proofs.Local.{Whole, whole, local_start, local_segment}
use Rattle.names.specs.Form.{Held, Form, over}
use Rattle.names.proofs.Local.{Local, refusing, either, over_local, rest-inside, size_alone, leaves_alone, leaves_front, says_front}
use Rattle.cache.specs.declared.Cache.{Cache}
use Rattle.cache.specs.Names.{store_bytes, slots}
use Rattle.header.proofs.Leaving.{of}
use Rattle.message.specs.Message.{flat, headed, allowed_in, message_over}

-- segment numbers lie before the rest, as the flags do
flat-same : {b c : List ℕ} {e : ℕ} → Whole b e → Agree b c e → length c ≤ cap.input → flat c (start_of c) ≡ flat b (start_of b)
unfolding flat
flat-same w a l = rw (local_start w a l, w.begins) (local_segment w a l)

-- a header over a cache of any form
module _ (F : Form) (s : F.State) where
  is-flat : (b : List ℕ) {e : ℕ} → (headed F b s).rest ≡ Ok e → flat b (start_of b) ≡ true
  unfolding headed
  is-flat b {e} d = go (flat b (start_of b)) refl
    where
      go : (t : Bool) → flat b (start_of b) ≡ t → flat b (start_of b) ≡ true
      go true f = f
      go false f =
          let z : ◌≡◌ {A = Result ℕ Refusal} (Err refusal.Segment) (Ok e) = rw f at d in
          absurd (let z : ◌≡◌ {A = ℕ} 0 1 = cc in omega arith)

  pub headed_local : Local (λ b. headed F b s)
  unfolding headed
  headed_local = record {
    ends = λ {b} d. L.ends (done b d);
    same = λ {b} d a l. rw (flat-same (whole b (L.ends (done b d))) a l, is-flat b d) (L.same (done b d) a l);
  }
    where
      L : Local (λ b. over F b (header_of b) s)
      L = over_local F s

      done : (b : List ℕ) {e : ℕ} → (headed F b s).rest ≡ Ok e → (over F b (header_of b) s).rest ≡ Ok e
      done b d = rw (is-flat b d) at d

-- over slots
module _ (limit : ℕ) (c : Cache) (s : List ℕ) where
  pub message_local : Local (λ b. message_over b limit c s)
  unfolding message_over
  message_local =
      either (eqb limit 0 || ltb cap.nesting limit) (refusing _ refl)
      (either (eqb (length s) store_bytes) (headed_local slots (of c s)) (refusing _ refl))

  -- up to the rest
  module _ (b : List ℕ) {e : ℕ} (d : (message_over b limit c s).rest ≡ Ok e) where
    pub message_inside : (3 ≤ e) × (e ≤ length b)
    message_inside = rest-inside message_local b d

    pub message_alone : (message_over (take e b) limit c s ≡ message_over b limit c s) × (length (take e b) ≡ e)
    message_alone = (leaves_alone message_local b d, size_alone message_local b d)

  -- behind a front
  module _ (front l : List ℕ) (d : (message_over front limit c s).rest ≡ Ok (length front)) (h : length (front ++ l) ≤ cap.input) where
    pub message_front : message_over (front ++ l) limit c s ≡ message_over front limit c s
    message_front = leaves_front message_local front l d h

    pub allowed-front : (held : ℕ → Held) → allowed_in held (front ++ l) ≡ allowed_in held front
    unfolding allowed_in
    allowed-front held = rw (says_front message_local front l d h)
