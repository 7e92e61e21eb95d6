-- The code's verdict as document 01's.
use Rattle.std.specs.Prelude.{Result, Ok, Err}
use Rattle.walkgraph.specs.Refusals as table
use Rattle.refusal.specs.declared.Refusal.{Refusal}
use Rattle.refusal.specs.Table.{number_of, place_of}

-- a call is accepted, or refused with the table's number and place
unfoldable pub verdict_of : Result (Unit {0}) Refusal → table.Verdict
verdict_of (Ok accepted) = table.accepted
verdict_of (Err refusal) = table.refused (number_of refusal) (place_of refusal)
