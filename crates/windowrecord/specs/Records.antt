-- What the code tests of a window's record, and what it knows of a cell of its window.
use Rattle.std.specs.Prelude.{Bool, ◌&&◌, ℕ, ◌+◌, ◌*◌, ◌-◌, ◌≤◌, ◌<◌, leb}
use Rattle.walkgraph.specs.Reading.{WindowRecord}

-- a record in the limits of a map, whose lanes are no more than a buffer's
unfoldable pub has_room : WindowRecord → ℕ → Bool
has_room r length = leb r.width 1024 && leb r.height 1024 && leb ((r.height + 2) * (r.width + 2) * r.lanes) length

-- a record in the limits of a map, and a cell of its window
pub record OfCell (r : WindowRecord) (x y : ℕ) : Type 0 where
  pub wide : r.width ≤ 1024
  pub high : r.height ≤ 1024
  pub few : r.lanes ≤ 16
  pub from_left : r.left ≤ x
  pub column : x - r.left < r.width
  pub from_top : r.top ≤ y
  pub row : y - r.top < r.height
