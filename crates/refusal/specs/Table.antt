-- Document 01, the table of refusals: the number and the place of each row.
use Rattle.std.specs.Prelude.{ℕ}
use Rattle.refusal.specs.declared.Refusal.{Refusal}
use Rattle.refusal.specs.declared.Refusal.TheVariants.{BadGrid, Lanes, Count, BadResource, Blockers, Targets, Scratch, Access, Text, TooLarge}

-- "No."
abbrev pub number_of : Refusal → ℕ
number_of BadGrid = 1
number_of Lanes = 2
number_of Count = 3
number_of (BadResource first) = 4
number_of Blockers = 5
number_of Targets = 6
number_of Scratch = 7
number_of Access = 8
number_of (Text line) = 9
number_of TooLarge = 10

-- "Place": of a bad resource "first such, from 0", of a text "first line that breaks it, from 1", and else 0
abbrev pub place_of : Refusal → ℕ
place_of BadGrid = 0
place_of Lanes = 0
place_of Count = 0
place_of (BadResource first) = first
place_of Blockers = 0
place_of Targets = 0
place_of Scratch = 0
place_of Access = 0
place_of (Text line) = line
place_of TooLarge = 0
