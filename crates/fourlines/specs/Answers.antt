-- The code's answers as what was read and stored.
use Rattle.std.specs.Prelude.{ℕ, Option, Some, None, Result, Ok, Err}
use Rattle.textlines.specs.declared.broken.Broken.{Broken}
use Rattle.fourlines.specs.Storing.{LineTaken, line_up_to, no_line, LinesFound, up_to, broken}

-- the place after a line that was stored
unfoldable pub line_taken : Option ℕ → LineTaken
line_taken (Some past) = line_up_to past
line_taken None = no_line

-- the place after lines that were stored, or how many there are before the one that breaks
unfoldable pub lines_found : Result ℕ Broken → LinesFound
lines_found (Ok past) = up_to past
lines_found (Err found) = broken found.passed
