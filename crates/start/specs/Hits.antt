-- Where lanes start, by the index of their level in the buffer: in a stretch of cells of a row, in a row of a ring box, in all rows of it, and for all resources.
use Rattle.std.specs.Prelude.{Bool, false, not, ◌&&◌, ◌||◌, List, ℕ, zero, suc, ◌+◌, ◌*◌, ◌-◌, ◌/◌, ◌≤◌, ◌<◌, min, max, get_or, length, ℤ, eqb}
use Rattle.walkgraph.specs.Map.{Box, in_box}
use Rattle.walkgraph.specs.Painting.{rectangle}
use Rattle.walkgraph.specs.Ring.{body, ring_box}
use Rattle.lane.specs.Levels.{started_level}
use Rattle.cells.specs.Boxes.{InMap}
use Rattle.rings.specs.Rings.{AllRings}
use Rattle.window.specs.declared.record.Window.{Window}

-- ---- a stretch of cells

-- one of the numbers below n passes
unfoldable pub some_below : ℕ → (ℕ → Bool) → Bool
some_below zero test = false
some_below (suc n) test = some_below n test || test n

-- the levels of a buffer after those that are hit became that of half cost 0
unfoldable pub started_levels : (ℕ → ℕ) → (ℕ → Bool) → ℕ → ℕ
started_levels levels hit j = started_level (levels j) (hit j)

-- a cell of a row starts: it is walkable, and its column x is not of the body in row y; `place` is the place of its walk byte
unfoldable pub starts_here : List ℕ → Box → ℕ → ℕ → ℕ → Bool
starts_here walk body x y place = eqb (get_or walk place 0) 1 && not (in_box body x y)

-- lane `lane` of one of n cells from `place` on, whose columns are x and the following
unfoldable pub cells_hit : ℕ → List ℕ → Box → ℕ → ℕ → ℕ → ℕ → ℕ → ℕ → Bool
cells_hit lanes walk body lane x y place n j = some_below n (λ k. eqb j ((place + k) * lanes + lane) && starts_here walk body (x + k) y (place + k))

-- n cells from `place` on have room among the lanes and the walk bytes
pub record Cells (lanes walk each lane x place n : ℕ) : Type 0 where
  pub lanes_in : (k : ℕ) → k < n → (place + k) * each + lane < lanes
  pub walk_in : (k : ℕ) → k < n → place + k < walk
  pub column : (k : ℕ) → k < n → x + k ≤ 1024

-- ---- a ring box

-- the columns of the ring box that are inside in the window's row, one more than the map's column: the first, and one past the last
unfoldable pub first_column : Window → List ℕ → Box → ℕ → ℕ
first_column w rows ring row = max (ring.left + 1) (get_or rows (2 * row) 0 + w.left)

-- and one past its last
unfoldable pub past_column : Window → List ℕ → Box → ℕ → ℕ
past_column w rows ring row = min (ring.right + 2) (get_or rows (2 * row + 1) 0 + w.left)

-- lane `lane` of a cell of the map's row y
unfoldable pub row_hit : Window → List ℕ → List ℕ → Box → Box → ℕ → ℕ → ℕ → Bool
row_hit w walk rows ring body lane y =
    let row = y - w.top in
    let x = first_column w rows ring row in
    cells_hit w.lanes walk body lane (x - 1) y ((row + 1) * (w.width + 2) + (x - w.left)) (past_column w rows ring row - x)

-- of a row of the ring box that is in the window
unfoldable pub ring_hit : Window → List ℕ → List ℕ → Box → Box → ℕ → ℕ → Bool
ring_hit w walk rows ring body lane j =
    let y = max ring.top w.top in
    some_below (min (ring.bottom + 1) (w.top + w.height) - y) (λ n. row_hit w walk rows ring body lane (y + n) j)

-- a window in the limits of a map has room among the lanes and the walk bytes, and its intervals end in its rows
pub record Room (w : Window) (lanes walk : ℕ) (rows : List ℕ) : Type 0 where
  pub left : w.left ≤ 1024
  pub top : w.top ≤ 1024
  pub width : w.width ≤ 1024
  pub height : w.height ≤ 1024
  pub lanes_in : (w.height + 2) * (w.width + 2) * w.lanes ≤ lanes
  pub walk_in : (w.height + 2) * (w.width + 2) ≤ walk
  pub rows_in : 2 * w.height ≤ length rows
  pub first : (row : ℕ) → row < w.height → get_or rows (2 * row) 0 ≤ w.width + 1
  pub past : (row : ℕ) → row < w.height → get_or rows (2 * row + 1) 0 ≤ w.width + 1

-- the same, and a row of a ring box of the map that is in the window
abbrev pub RowRoom : (w : Window) (lanes walk : ℕ) (rows : List ℕ) (ring : Box) (lane y : ℕ) → Type 0
RowRoom w lanes walk rows ring lane y = Room w lanes walk rows × InMap 1024 1024 ring × (lane < w.lanes) × (w.top ≤ y) × (y < w.top + w.height)

-- a ring box of the map
abbrev pub RingRoom : (w : Window) (lanes walk : ℕ) (rows : List ℕ) (ring : Box) (lane : ℕ) → Type 0
RingRoom w lanes walk rows ring lane = Room w lanes walk rows × InMap 1024 1024 ring × (lane < w.lanes)

-- ---- the lanes of all resources

-- of one of the first n resources, each with its own lane
unfoldable pub lanes_hit : Window → List ℕ → List ℕ → ℕ → ℕ → List ℤ → ℕ → ℕ → Bool
lanes_hit w walk rows width height resources n j =
    some_below n (λ k. ring_hit w walk rows (ring_box width height (rectangle resources k)) (body (rectangle resources k)) k j)

-- one of the resources, all of which have rings, with its lane
abbrev pub LaneRoom : (w : Window) (lanes walk : ℕ) (rows : List ℕ) (width height : ℕ) (resources : List ℤ) (lane : ℕ) → Type 0
LaneRoom w lanes walk rows width height resources lane = Room w lanes walk rows × AllRings width height resources × (lane < length resources / 4) × (lane < w.lanes)

-- and all of them
abbrev pub LanesRoom : (w : Window) (lanes walk : ℕ) (rows : List ℕ) (width height : ℕ) (resources : List ℤ) → Type 0
LanesRoom w lanes walk rows width height resources = Room w lanes walk rows × AllRings width height resources × (length resources / 4 ≤ w.lanes)
