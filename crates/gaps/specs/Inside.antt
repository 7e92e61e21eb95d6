-- The inside of a window by row.
use Rattle.std.specs.Prelude.{Bool, ℕ, ◌+◌, ◌*◌, ◌≤◌, leb}
use Rattle.walkgraph.specs.Map.{Box}
use Rattle.walkgraph.specs.Window.{gap, octile}
use Rattle.cells.specs.declared.boxes.CellBox.{CellBox}

-- a box of cells of a map, at least one column wide, and the gap of a row of the map to it
pub record Beside (b : CellBox) (row_gap : ℕ) : Type 0 where
  pub ends : b.left ≤ b.right
  pub near : b.left ≤ 1024
  pub gap : row_gap ≤ 1024

-- "A cell is inside if its octile gap to S plus that to T is at most 96,000": in the row whose gaps to S and T are given
unfoldable pub inside_in_row : ℕ → Box → ℕ → Box → ℕ → ℕ → Bool
inside_in_row reach s source_gap t target_gap x =
    leb (octile (gap x s.left s.right) source_gap + octile (gap x t.left t.right) target_gap) (1000 * reach)
