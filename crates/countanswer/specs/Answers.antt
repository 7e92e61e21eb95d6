-- An answer that counts as document 01's.
use Rattle.std.specs.Prelude.{ℕ, Result, Ok, Err}
use Rattle.walkgraph.specs.AccessPromise as access
use Rattle.walkgraph.specs.FieldsPromise as fields
use Rattle.refusal.specs.declared.Refusal.{Refusal}
use Rattle.refusal.specs.Table.{number_of, place_of}

-- access of a rectangle, or of many: "A refusal returns number and place"; else how many access cells there are
unfoldable pub listed_of : Result ℕ Refusal → access.AccessAnswer
listed_of (Err refusal) = access.refusal (number_of refusal) (place_of refusal)
listed_of (Ok count) = access.listed count

-- the fields call: "A refusal returns number and place"; else how many fields there are
unfoldable pub joined_of : Result ℕ Refusal → fields.JoinAnswer
joined_of (Err refusal) = fields.refusal (number_of refusal) (place_of refusal)
joined_of (Ok count) = fields.joined count
