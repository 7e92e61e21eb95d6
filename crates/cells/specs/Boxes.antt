-- The code's boxes as those of the walk graph.
use Rattle.std.specs.Prelude.{ℕ, ◌≤◌, ◌<◌}
use Rattle.walkgraph.specs.Map.{Box}
use Rattle.cells.specs.declared.boxes.CellBox.{CellBox}

-- how far a walk in the cap reaches, in straight steps: the code's REACH
abbrev pub reach : ℕ
reach = 96

-- a box of the code as a box of the definitions
abbrev pub box_of : CellBox → Box
box_of b = record { left = b.left; top = b.top; right = b.right; bottom = b.bottom }

-- a box of cells of the map that is not empty
pub record InMap (width height : ℕ) (b : Box) : Type 0 where
  pub across : b.left ≤ b.right
  pub wide : b.right < width
  pub along : b.top ≤ b.bottom
  pub tall : b.bottom < height
