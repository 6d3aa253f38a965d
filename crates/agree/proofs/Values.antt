-- The value of a big integer and the integers of a tag 107, by the head: it gives the place, the number of digits and the sign that the value
-- is made of, and the place and the number of the bytes that the integers are. Assumes nothing.
use Prim.Native.Nat.{ℕ, ◌+◌, ◌≤◌}
use native.Mathlib.Omega.{arith}
use mathlib.Core.Path.{◌≡◌, ap, sym, ◌∙◌}
use mathlib.Core.List.{List, [], ◌∷◌, ◌++◌, map}
use mathlib.Core.Bool.{not}
use lib.Dec.{eqb}
use lib.IntN.{pos}
use lib.ListN.{length, take, drop, length-append}
use lib.Seq.{drop_at}
use Rattle.numbers.specs.Allowed.{plain}
use Rattle.std.specs.Prelude.{Ok}
use Rattle.numbers.specs.Caps as cap
use Rattle.fields.specs.Be.{be_at, le}
use Rattle.fields.proofs.Laws.{be-one}
use Rattle.heads.specs.declared.Value.TheVariants as value
use Rattle.layouts.specs.Tree.{Tree, Forest, node, tag_of, bytes, bytes_all, Stands}
use Rattle.layouts.specs.Layout as layout
use Rattle.layouts.specs.Layout.{Number, Laid}
use Rattle.layouts.specs.Values.{by_sign, big_integer, integers}
use Rattle.layouts.proofs.Stands.{left, right, behind}
use Rattle.layouts.proofs.Values.{sign-is, digits_are, small-big-is, large_big-is, string-is}
use Rattle.heads.specs.Told.{told_head}
use Rattle.agree.specs.Head.{run, head_of}
use Rattle.agree.specs.Inner.Fields.{big_of, fields_by, fields_of}
use Rattle.agree.proofs.HeadIs.{head-is}
use Rattle.agree.proofs.OfTree.{head_of_tree}

module _ (b : List ℕ) (p : ℕ) where
  -- the bytes behind a number of k bytes
  rest : {k m : ℕ} (n r : List ℕ) → Number k n m → Stands b p (n ++ r) → Stands b (p + k) r
  rest n r w s = rw w.wide at (right b p n r s)

  big : {k m : ℕ} (n : List ℕ) (x : ℕ) (r : List ℕ) → Number k n m → Stands b p (n ++ (x ∷ r)) →
      by_sign x (le r) ≡ by_sign (be_at 1 (n ++ (x ∷ r)) k) (le (take (length (drop (k + 1) (n ++ (x ∷ r)))) (drop (p + k + 1) b)))
  big {k} n x r w s =
      let e : be_at 1 (n ++ (x ∷ r)) k ≡ x = be-one (n ++ (x ∷ r)) k (simp length-append (omega (arith, w.wide))) ∙ sign-is n x r w in
      let t = behind b (p + k) x r (rest n (x ∷ r) w s) in
      rw (e, digits_are n x r w, t.same)

module _ (b : List ℕ) (at : ℕ) (few : length b ≤ cap.input) where
  -- the head of a tree that stands there
  head : (t : Tree) → Laid plain t → Stands b at (bytes t) → head_of b at ≡ (tag_of t, Ok (fields_of t at))
  head t a s = sym (head-is b at) ∙ ap told_head (head_of_tree b at t few a s)

  -- of a tree that stands there, its head, and the value that the bytes spell which the head points to
  pub small-big_of_head : {front back : List ℕ} {kids : Forest} → Laid plain (node 110 front kids back) → Stands b at (bytes (node 110 front kids back)) → (place size sign : ℕ) ×
      ((head_of b at ≡ (110, Ok (value.Big (run place size) sign (not (eqb sign 0))))) × (big_integer (node 110 front kids back) ≡ by_sign sign (le (take size (drop place b)))))
  unfolding bytes bytes_all fields_of fields_by big_of
  small-big_of_head (layout.row (layout.small_big n x r w)) s =
      let f = n ++ (x ∷ r) in
      (at + 1 + 1 + 1, length (drop 2 f), be_at 1 f 1, (head _ (layout.row (layout.small_big n x r w)) s, small-big-is n x r w ∙ big b (at + 1) n x r w (left b (at + 1) f [] (behind b at 110 (f ++ []) s))))

  pub large_big_of_head : {front back : List ℕ} {kids : Forest} → Laid plain (node 111 front kids back) → Stands b at (bytes (node 111 front kids back)) → (place size sign : ℕ) ×
      ((head_of b at ≡ (111, Ok (value.Big (run place size) sign (not (eqb sign 0))))) × (big_integer (node 111 front kids back) ≡ by_sign sign (le (take size (drop place b)))))
  unfolding bytes bytes_all fields_of fields_by big_of
  large_big_of_head (layout.row (layout.large_big n x r w)) s =
      let f = n ++ (x ∷ r) in
      (at + 1 + 4 + 1, length (drop 5 f), be_at 1 f 4, (head _ (layout.row (layout.large_big n x r w)) s, large_big-is n x r w ∙ big b (at + 1) n x r w (left b (at + 1) f [] (behind b at 111 (f ++ []) s))))

  pub string_of_head : {front back : List ℕ} {kids : Forest} → Laid plain (node 107 front kids back) → Stands b at (bytes (node 107 front kids back)) → (place size : ℕ) ×
      ((head_of b at ≡ (107, Ok (value.String (run place size)))) × (integers (node 107 front kids back) ≡ map pos (take size (drop place b))))
  unfolding bytes bytes_all fields_of fields_by
  string_of_head (layout.row (layout.string n r w)) s =
      let t = rest b (at + 1) n r w (left b (at + 1) (n ++ r) [] (behind b at 107 ((n ++ r) ++ []) s)) in
      let e : r ≡ take (length (drop 2 (n ++ r))) (drop (at + 1 + 2) b) = rw (drop_at n r 2 w.wide) (sym t.same) in
      (at + 1 + 2, length (drop 2 (n ++ r)), (head _ (layout.row (layout.string n r w)) s, string-is n r w ∙ ap (map pos) e))
