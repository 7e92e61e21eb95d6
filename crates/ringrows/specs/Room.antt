-- The room that the places of a row and of a ring need in a lent buffer.
use Rattle.std.specs.Prelude.{List, ℕ, ◌+◌, ◌≤◌, length}
use Rattle.walkgraph.specs.Map.{Box}
use Rattle.ringruns.specs.declared.Runs.{Runs}
use Rattle.ringruns.specs.Runs.{OnMap, InCells}
use Rattle.ringrows.specs.Rows.{row_places, ring_places}

-- the runs of a row are among the cells of a map, and there is room for their places
pub record RowFits (cells : List ℕ) (runs : Runs) (used lent : ℕ) : Type 0 where
  pub cells_in : InCells (length cells) runs
  pub room : used + length (row_places cells runs) ≤ lent

-- the same for a ring
pub record RingFits (cells : List ℕ) (width : ℕ) (ring body : Box) (lent : ℕ) : Type 0 where
  pub map : OnMap width (length cells) ring body
  pub room : length (ring_places cells width ring body) ≤ lent
