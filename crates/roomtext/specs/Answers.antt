-- The code's answer as what was found.
use Rattle.std.specs.Prelude.{◌+◌, Result, Ok, Err}
use Rattle.textlines.specs.declared.broken.Broken.{Broken}
use Rattle.roomtext.specs.Readings.{RoomFound, room, broken_at}
use Rattle.roomtext.specs.declared.Size.{Size}

-- a room, or the line that breaks the form, the one after those that stand before it
unfoldable pub room_found : Result Size Broken → RoomFound
room_found (Ok size) = room size.width size.height size.blockers size.resources
room_found (Err broken) = broken_at (broken.passed + 1)
