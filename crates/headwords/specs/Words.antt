-- How a head is told as numbers: number, tag, offset and extra, then the fields of its value in the order that heads::Value has them.
use Rattle.std.specs.Prelude.{ℕ, ◌-◌, List, [], ◌∷◌, cond, ℤ, pos, negsuc, Ok, Err}
use Rattle.heads.specs.declared.Value.{Value}
use Rattle.heads.specs.declared.Value.TheVariants as value
use Rattle.heads.specs.declared.Headed.{Headed}
use Rattle.heads.specs.Told.{Told, told_head}

-- an integer by its two's complement: -1 is the largest word, and each integer below it is one less
unfoldable pub twos : ℤ → ℕ
twos (pos n) = n
twos (negsuc n) = 18446744073709551615 - n

-- a head that is there, and its fields
abbrev pub fields : (tag a b c d e : ℕ) → List ℕ
fields tag a b c d e = 0 ∷ tag ∷ 0 ∷ 0 ∷ a ∷ b ∷ c ∷ d ∷ e ∷ []

-- by the value; fields that it hasn't are 0. A run is told by its place, then its length
abbrev pub value_words : ℕ → Value → List ℕ
value_words tag (value.Integer z) = fields tag (twos z) 0 0 0 0
value_words tag (value.NumberText r) = fields tag r.at r.len 0 0 0
value_words tag (value.Double x bits) = fields tag bits 0 0 0 0
value_words tag (value.Atom r) = fields tag r.at r.len 0 0 0
value_words tag (value.Tuple n) = fields tag n 0 0 0 0
value_words tag value.Nil = fields tag 0 0 0 0 0
value_words tag (value.String r) = fields tag r.at r.len 0 0 0
value_words tag (value.List n) = fields tag n 0 0 0 0
value_words tag (value.Binary r) = fields tag r.at r.len 0 0 0
value_words tag (value.BitString r k) = fields tag r.at r.len k 0 0
value_words tag (value.Big r sign negative) = fields tag r.at r.len sign (cond negative 1 0) 0
value_words tag (value.Map n) = fields tag n 0 0 0 0
value_words tag (value.Pid r id serial creation) = fields tag r.at r.len id serial creation
value_words tag (value.Reference k r creation ids) = fields tag k r.at r.len creation ids
value_words tag (value.Port r id creation) = fields tag r.at r.len id creation 0
value_words tag value.Export = fields tag 0 0 0 0 0
value_words tag (value.Function size arity p index free) = fields tag size arity p index free

-- or its refusal
abbrev pub told_words : ℕ × Told → List ℕ
told_words (tag, Ok v) = value_words tag v
told_words (tag, Err (number, offset, extra)) = number ∷ tag ∷ offset ∷ extra ∷ 0 ∷ 0 ∷ 0 ∷ 0 ∷ 0 ∷ []

abbrev pub head_words : Headed → List ℕ
head_words h = told_words (told_head h)

-- the run of bytes that the second call hands out: its place and its length
abbrev pub part_words : ℕ × ℕ → List ℕ
part_words r = r.0 ∷ r.1 ∷ []
