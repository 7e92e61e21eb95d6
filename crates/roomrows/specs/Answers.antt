-- The code's answer as what was found.
use Rattle.std.specs.Prelude.{ℕ, Result, Ok, Err}
use Rattle.textlines.specs.declared.broken.Broken.{Broken}
use Rattle.roomrows.specs.Rows.{RowsFound, rows, rows_broken}

-- the width of rows and the place after them, or how many there are before the line that breaks
unfoldable pub rows_found : Result (ℕ × ℕ) Broken → RowsFound
rows_found (Ok found) = rows found.0 found.1
rows_found (Err broken) = rows_broken broken.passed
