-- Row intervals: "first inside column and one past the last, counted with padding, and both W+1 for an empty row".
use Rattle.std.specs.Prelude.{Bool, cond, ℕ, ◌+◌, ◌*◌, ◌-◌, ◌≤◌, eqb}
use Rattle.walkgraph.specs.Lists.{first_from, past_last}
use Rattle.walkgraph.specs.Map.{Box}
use Rattle.walkgraph.specs.Window.{inside}
use Rattle.cells.specs.declared.boxes.CellBox.{CellBox}
use Rattle.cells.specs.Boxes.{reach, box_of, InMap}
use Rattle.gaps.specs.Inside.{Beside, inside_in_row}
use Rattle.window.specs.declared.record.Window.{Window}
use Rattle.gaps.specs.declared.RowGaps.{RowGaps}
use Rattle.window.specs.Fills.{rows_placed}

-- the window is in the limits of a map, and the boxes with their gaps too
pub record InRow (w : Window) (g : RowGaps) : Type 0 where
  pub columns : w.left + w.width ≤ 1024
  pub sources : Beside g.sources g.source
  pub targets : Beside g.targets g.target

-- the columns of the row with these gaps that are inside, counted with padding
unfoldable pub inside_gaps : Window → RowGaps → ℕ → Bool
inside_gaps w g x = inside_in_row reach (box_of g.sources) g.source (box_of g.targets) g.target (w.left + x - 1)

-- its first inside column and one past the last
abbrev pub first_of : Window → (ℕ → Bool) → ℕ
first_of w test = first_from test 1 w.width

-- one past its last inside column
abbrev pub past_of : Window → (ℕ → Bool) → ℕ
past_of w test = past_last test (w.width + 1) w.width

-- the same of row y, counted with padding, by the boxes
unfoldable pub inside_columns : Window → Box → Box → ℕ → ℕ → Bool
inside_columns w s t y x = inside reach s t (w.left + x - 1) (w.top + y - 1)

-- the two numbers of a row's interval
unfoldable pub ends : Window → Box → Box → ℕ → ℕ → ℕ
ends w s t y k = cond (eqb k 0) (first_of w (inside_columns w s t y)) (past_of w (inside_columns w s t y))

-- the intervals of all window rows, two numbers a row
unfoldable pub rows_filled : Window → Box → Box → (ℕ → ℕ) → ℕ → ℕ
rows_filled w s t before = rows_placed before 0 2 w.height 2 (λ y. ends w s t (y + 1))

-- the window and the boxes are in the limits of a map, and there is room for two numbers a row
pub record RowEnds (w : Window) (s t : CellBox) (rows : ℕ) : Type 0 where
  pub columns : w.left + w.width ≤ 1024
  pub lines : w.top + w.height ≤ 1024
  pub sources : InMap 1024 1024 (box_of s)
  pub targets : InMap 1024 1024 (box_of t)
  pub room : 2 * w.height ≤ rows
