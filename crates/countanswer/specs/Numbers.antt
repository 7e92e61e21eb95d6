-- Document 01's numbers for each case of an answer that counts, and when they are u32s.
use Rattle.std.specs.Prelude.{ℕ, ◌≤◌, Result, Ok, Err}
use Rattle.walkgraph.specs.AccessPromise as access
use Rattle.walkgraph.specs.FieldsPromise as fields
use Rattle.refusal.specs.declared.Refusal.{Refusal}
use Rattle.countanswer.specs.declared.CountAnswer.{CountAnswer}

-- "A refusal returns number and place"; what it does not have is 0
abbrev pub refused_numbers : ℕ → ℕ → CountAnswer
refused_numbers number place = record { number = number; place = place; count = 0 }

-- how many there are, and no number or place of a refusal
abbrev pub counted_numbers : ℕ → CountAnswer
counted_numbers count = record { number = 0; place = 0; count = count }

-- access of a rectangle, or of many: how many access cells there are
unfoldable pub listed_numbers : access.AccessAnswer → CountAnswer
listed_numbers (access.refusal number place) = refused_numbers number place
listed_numbers (access.listed count) = counted_numbers count

-- the fields call: how many fields there are
unfoldable pub joined_numbers : fields.JoinAnswer → CountAnswer
joined_numbers (fields.refusal number place) = refused_numbers number place
joined_numbers (fields.joined count) = counted_numbers count

-- an answer whose numbers are u32s; those of a refusal are from the start
unfoldable pub InU32 : Result ℕ Refusal → Type 0
InU32 (Err refusal) = Unit {0}
InU32 (Ok count) = count ≤ 4294967295
