-- The bytes that a request's last word spells, of a `name` those of its name before those of the map.
use Rattle.std.specs.Prelude.{ℕ, List, [], ◌++◌}
use Rattle.asking.specs.declared.Request.{Request}
use Rattle.asking.specs.declared.Request.TheVariants as request

abbrev pub spelt : Request → List ℕ
spelt (request.Term b) = b.now
spelt (request.Utf8 b) = b.now
spelt (request.Literal b) = b.now
spelt (request.Header b) = b.now
spelt (request.First b) = b.now
spelt (request.Next b) = b.now
spelt (request.Read limit at b) = b.now
spelt (request.Head at b) = b.now
spelt (request.Tape limit words b) = b.now
spelt (request.Message limit words b) = b.now
spelt (request.Name limit at name b) = name.now ++ b.now
spelt (request.Number limit at key b) = b.now
spelt (request.Write room row texts) = texts.now
spelt (request.Get slot) = []
spelt (request.Position k) = []
spelt (request.Atom at b) = b.now
spelt request.Names = []
spelt request.Count = []
spelt request.Clear = []
