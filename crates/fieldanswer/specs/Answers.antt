-- The field call's answer as document 01's.
use Rattle.std.specs.Prelude.{Result, Ok, Err}
use Rattle.walkgraph.specs.Promise.{FieldAnswer, refusal, made}
use Rattle.refusal.specs.declared.Refusal.{Refusal}
use Rattle.refusal.specs.Table.{number_of, place_of}
use Rattle.window.specs.Windows.{as_record}
use Rattle.fieldanswer.specs.declared.Made.{Made}

-- "A refusal returns number and place"; else the window record and the sweep count
unfoldable pub answer_of : Result Made Refusal → FieldAnswer
answer_of (Err row) = refusal (number_of row) (place_of row)
answer_of (Ok field) = made (as_record field.window) field.sweeps
