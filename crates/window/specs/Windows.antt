-- The code's window as that of the walk graph.
use Rattle.std.specs.Prelude.{ℕ, ◌+◌, ◌-◌, ◌≤◌}
use Rattle.walkgraph.specs.Map.{Box}
use Rattle.walkgraph.specs.Reading.{WindowRecord}
use Rattle.cells.specs.Boxes.{InMap}
use Rattle.window.specs.declared.record.Window.{Window}

-- a window of the code as the record of the definitions
abbrev pub as_record : Window → WindowRecord
as_record w = record { left = w.left; top = w.top; width = w.width; height = w.height; lanes = w.lanes }

-- the window that covers a box of cells
abbrev pub window_over : Box → ℕ → Window
window_over b lanes = record { left = b.left; top = b.top; width = b.right + 1 - b.left; height = b.bottom + 1 - b.top; lanes = lanes }

-- the boxes of the sources and of the targets, on a map in the limits of its size
pub record OnMap (width height : ℕ) (s t : Box) : Type 0 where
  pub wide : width ≤ 1024
  pub high : height ≤ 1024
  pub sources : InMap width height s
  pub targets : InMap width height t
