-- A window record from the numbers of a caller.
use Rattle.std.specs.Prelude.{ℕ}
use Rattle.walkgraph.specs.Reading.{WindowRecord}

-- "Window left, top, width, height", and the lanes of a cell, as numbers that the caller may have made up
abbrev pub record_from : (left top width height lanes : ℕ) → WindowRecord
record_from left top width height lanes = record { left = left; top = top; width = width; height = height; lanes = lanes }
