-- The code's answer as what was found.
use Rattle.std.specs.Prelude.{Result, Ok, Err}
use Rattle.textlines.specs.declared.broken.Broken.{Broken}
use Rattle.roomgrid.specs.Grids.{GridFound, grid, grid_broken}
use Rattle.roomgrid.specs.declared.Map.{Map}

-- the size of a map and the place after it, or how many lines there are before the one that breaks
unfoldable pub grid_found : Result Map Broken → GridFound
grid_found (Ok found) = grid found.width found.height found.past
grid_found (Err broken) = grid_broken broken.passed
