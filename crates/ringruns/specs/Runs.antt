-- The rows of a ring: its cells beside the body, as runs of the map's bytes.
use Rattle.std.specs.Prelude.{cond, ◌&&◌, ℕ, ◌+◌, ◌*◌, ◌-◌, ◌≤◌, ◌<◌, leb}
use Rattle.walkgraph.specs.Map.{Box}
use Rattle.ringruns.specs.declared.Runs.{Runs}

-- the ring box and the body of an accepted resource, on a map of `width` columns
pub record OnGrid (width : ℕ) (ring body : Box) : Type 0 where
  pub wide : width ≤ 1024
  pub to_left : ring.left ≤ body.left
  pub across : body.left ≤ body.right
  pub to_right : body.right ≤ ring.right
  pub columns : ring.right < width
  pub along : ring.top ≤ ring.bottom
  pub rows : ring.bottom < 1024

-- and with so many cells
pub record OnMap (width cells : ℕ) (ring body : Box) : Type 0 where
  pub grid : OnGrid width ring body
  pub all_rows : (ring.bottom + 1) * width ≤ cells
  pub few : cells ≤ 1048576

-- all cells of row y of the ring box
abbrev pub whole_row : ℕ → Box → ℕ → Runs
whole_row width ring y = record { first = y * width + ring.left; before = ring.right + 1 - ring.left; second = y * width; after = 0 }

-- its cells before the body and those after it
abbrev pub beside_body : ℕ → Box → Box → ℕ → Runs
beside_body width ring body y =
    record { first = y * width + ring.left; before = body.left - ring.left; second = y * width + body.right + 1; after = ring.right - body.right }

-- "Ring cells are in the ring box and not in the body."
unfoldable pub row_runs : ℕ → Box → Box → ℕ → Runs
row_runs width ring body y = cond (leb body.top y && leb y body.bottom) (beside_body width ring body y) (whole_row width ring y)

-- both runs are among so many cells
pub record InCells (cells : ℕ) (runs : Runs) : Type 0 where
  pub first_in : runs.first + runs.before ≤ cells
  pub second_in : runs.second + runs.after ≤ cells
  pub few : cells ≤ 1048576
