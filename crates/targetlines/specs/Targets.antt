-- Document 01, "Room text and the program", Output: the lines of the target cells, and when a page has room for them.
use Rattle.std.specs.Prelude.{List, ℕ, ◌+◌, ◌-◌, ◌<◌, ℤ, length}
use Rattle.walkgraph.specs.Map.{Box}
use Rattle.walkgraph.specs.Reading.{WindowRecord, read_part}
use Rattle.cells.specs.Boxes.{InMap}
use Rattle.reading.specs.Parts.{part_of}
use Rattle.ringlists.specs.Places.{in_order}
use Rattle.page.specs.declared.Page.{Page}
use Rattle.page.specs.Puts.{Room}
use Rattle.celllines.specs.Costs.{cell_line}

-- the line of the cell (x, y), whose costs are in "the part of the lent lanes that belongs to it"
unfoldable pub line_at : WindowRecord → (lanes : List ℤ) → (resources x y : ℕ) → List ℕ
line_at window lanes resources x y = cell_line x y (part_of (read_part window (length lanes) x y) lanes) resources

-- the target cells of row y, from left to right
unfoldable pub row_lines : WindowRecord → (lanes : List ℤ) → (resources : ℕ) → Box → (y : ℕ) → List ℕ
row_lines window lanes resources targets y = in_order (λ k. line_at window lanes resources (targets.left + k) y) (targets.right + 1 - targets.left)

-- "per target cell, row by row": the rows from top to bottom
unfoldable pub target_lines : WindowRecord → (lanes : List ℤ) → (resources : ℕ) → Box → List ℕ
target_lines window lanes resources targets = in_order (λ k. row_lines window lanes resources targets (targets.top + k)) (targets.bottom + 1 - targets.top)

-- ---- what a page must have room for, on maps of at most 60 by 60 cells
pub record LineRoom (window : WindowRecord) (lanes : List ℤ) (resources x y : ℕ) (page : Page) : Type 0 where
  pub column : x < 60
  pub row : y < 60
  pub text : Room (line_at window lanes resources x y) page

-- the lines of row y have room
pub record RowRoom (window : WindowRecord) (lanes : List ℤ) (resources : ℕ) (targets : Box) (y : ℕ) (page : Page) : Type 0 where
  pub box : InMap 60 60 targets
  pub row : y < 60
  pub text : Room (row_lines window lanes resources targets y) page

-- the lines of all target cells have room
pub record TargetRoom (window : WindowRecord) (lanes : List ℤ) (resources : ℕ) (targets : Box) (page : Page) : Type 0 where
  pub box : InMap 60 60 targets
  pub text : Room (target_lines window lanes resources targets) page
