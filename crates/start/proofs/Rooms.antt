-- The ring box of an accepted resource is in the limits of a map; the places that a row of a ring box looks at are among the lanes and the walk bytes.
use mathlib.Core.List.{List}
use Prim.Native.Nat.{ℕ, suc, ◌+◌, ◌*◌, ◌-◌, ◌≤◌, ◌<◌, min, max}
use native.Mathlib.Nat.{suc-mul, mul-le-mul_right}
use native.Mathlib.Omega.{arith}
use lib.ListN.{get_or}
use Rattle.walkgraph.specs.Map.{Box}
use Rattle.walkgraph.specs.Painting.{Rectangle}
use Rattle.cells.specs.declared.boxes.Ring.{Ring}
use Rattle.cells.specs.Boxes.{box_of, InMap}
use Rattle.rings.specs.Rings.{Accepted}
use Rattle.window.specs.declared.record.Window.{Window}
use Rattle.start.specs.Hits.{first_column, past_column, Room, Cells}
use Rattle.rings.proofs.Sides.{on_map}
use Rattle.rings.proofs.Sources.{ring_in_map}

pub ring_limits : (width height : ℕ) (r : Rectangle) (ring : Ring) → width ≤ 1024 → height ≤ 1024 → Accepted width height r ring → InMap 1024 1024 (box_of ring.ring)
ring_limits width height r ring w h a =
    let i = ring_in_map width height r (on_map width height r a.good) in
    rw a.ring (record { across = i.across; wide = omega (arith, i.wide); along = i.along; tall = omega (arith, i.tall) })

-- column x of row `row` of a padded window is one of its cells
cell_in : (row height width x : ℕ) → row < height → x ≤ width + 1 → suc ((row + 1) * (width + 2) + x) ≤ (height + 2) * (width + 2)
cell_in row height width x h k =
    let q : suc (row + 1) * (width + 2) ≤ (height + 2) * (width + 2) = mul-le-mul_right (width + 2) (omega arith) in
    omega (arith, suc-mul (row + 1) (width + 2))

-- a lane of a cell is one of the lanes
lane_in : (cell cells each lane : ℕ) → suc cell ≤ cells → lane < each → cell * each + lane < cells * each
lane_in cell cells each lane h k =
    let q : suc cell * each ≤ cells * each = mul-le-mul_right each h in
    omega (arith, suc-mul cell each)

pub cells_room : (w : Window) (lanes walk : ℕ) (rows : List ℕ) (ring : Box) (lane row : ℕ) → Room w lanes walk rows → InMap 1024 1024 ring → lane < w.lanes → row < w.height →
    Cells lanes walk w.lanes lane (first_column w rows ring row - 1) ((row + 1) * (w.width + 2) + (first_column w rows ring row - w.left)) (past_column w rows ring row - first_column w rows ring row)
unfolding first_column past_column
cells_room w lanes walk rows ring lane row r i l h =
    let past = r.past row h in
    let first = max (ring.left + 1) (get_or rows (2 * row) 0 + w.left) in
    let place = (row + 1) * (w.width + 2) + (first - w.left) in
    let cell : (k : ℕ) → k < min (ring.right + 2) (get_or rows (2 * row + 1) 0 + w.left) - first → suc (place + k) ≤ (w.height + 2) * (w.width + 2) = λ k b.
    let q = cell_in row w.height w.width (first - w.left + k) h (omega arith) in omega arith in
    record {
      lanes_in = λ k b. let q = lane_in (place + k) ((w.height + 2) * (w.width + 2)) w.lanes lane (cell k b) l in omega (arith, r.lanes_in);
      walk_in = λ k b. omega (arith, r.walk_in, cell k b);
      column = λ k b. omega (arith, i.wide);
    }
