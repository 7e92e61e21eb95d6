-- The code's answer as a verdict.
use Rattle.std.specs.Prelude.{Result, Ok, Err}
use Rattle.refusal.specs.declared.Refusal.{Refusal}
use Rattle.refusal.specs.Table.{number_of, place_of}
use Rattle.roomtext.specs.declared.Size.{Size}
use Rattle.textverdict.specs.Verdicts.{Verdict, accepted, refused}

-- a room that is accepted, or a refusal
unfoldable pub verdict_of : Result Size Refusal → Verdict
verdict_of (Ok size) = accepted size.width size.height size.blockers size.resources
verdict_of (Err r) = refused (number_of r) (place_of r)
