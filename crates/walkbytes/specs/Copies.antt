-- The map's cells in the window.
use Rattle.std.specs.Prelude.{List, ℕ, ◌+◌, ◌*◌, ◌≤◌}
use Rattle.window.specs.Fills.{entries}
use Rattle.window.specs.declared.record.Window.{Window}

-- the window lies on a map of `width` columns with so many cells, and has room in the walk bytes
pub record Copies (w : Window) (width cells walk : ℕ) : Type 0 where
  pub wide : width ≤ 1024
  pub high : w.top + w.height ≤ 1024
  pub columns : w.left + w.width ≤ width
  pub rows : (w.top + w.height) * width ≤ cells
  pub room : (w.height + 2) * (w.width + 2) ≤ walk

-- the map's byte at row y and column x of the window, both from 0
unfoldable pub map_rows : Window → ℕ → List ℕ → ℕ → ℕ → ℕ
map_rows w width cells y x = entries cells (w.top * width + w.left + y * width + x)
