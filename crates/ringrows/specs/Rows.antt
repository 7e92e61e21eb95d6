-- The places of the walkable cells of a ring, row by row.
use Rattle.std.specs.Prelude.{List, ◌++◌, ℕ, ◌+◌, ◌-◌}
use Rattle.walkgraph.specs.Map.{Box}
use Rattle.ringruns.specs.declared.Runs.{Runs}
use Rattle.ringruns.specs.Runs.{row_runs}
use Rattle.ringlists.specs.Places.{in_order, open_places}

-- those of two runs
unfoldable pub row_places : List ℕ → Runs → List ℕ
row_places cells runs = open_places cells runs.first runs.before ++ open_places cells runs.second runs.after

-- those of the walkable cells of a ring, by row, then column
unfoldable pub rows_of : List ℕ → ℕ → Box → Box → ℕ → List ℕ
rows_of cells width ring body n = row_places cells (row_runs width ring body (ring.top + n))

-- and all rows, one after another
unfoldable pub ring_places : List ℕ → ℕ → Box → Box → List ℕ
ring_places cells width ring body = in_order (rows_of cells width ring body) (ring.bottom + 1 - ring.top)
