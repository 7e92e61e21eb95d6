-- `manyrectangles::one::list_one`: the rectangle is not refused, and what is listed in the part behind the used entries is listed in the buffer behind them.
use mathlib.Core.Path.{ap}
use native.Mathlib.Omega.{arith}
use lib.ListN.{length}
use Rattle.walkgraph.specs.Painting.{rectangle}
use Rattle.rings.specs.Rings.{Accepted}
use Rattle.rings.proofs.Sources.{found_ring}
use Rattle.manyrectangles.specs.AllCells.{cells_of}
use Rattle.manyrectangles.proofs.Rectangles.{ring_may, there_is_ring, one_on_map, one_cells}
use Rattle.manyrectangles.proofs.Listing.{part_length, part_listed}
use Rattle.manyrectangles.proofs.one.list_one.Goals.{After-unwrap-ring}
use Rattle.manyrectangles.proofs.one.list_one.Goals as goal

pub ring_at-requires : goal.ring_at-requires
ring_at-requires c = ring_may c.requires.one

pub unwrap-ring-requires : goal.unwrap-ring-requires
unwrap-ring-requires c = there_is_ring c.requires.one _ c.ring_at.ensures

-- its ring box and its body
found : (c : After-unwrap-ring) → Accepted c.args.width c.args.height (rectangle c.args.rectangles.now c.args.k) c.unwrap-ring.result
found c = found_ring _ _ _ c.unwrap-ring.result c.ring_at.ensures c.unwrap-ring.ensures

pub list_rows-requires : goal.list_rows-requires
list_rows-requires c =
    let a = c.args in
    let o = c.requires in
    record {
      map = one_on_map o.one _ (found (goal.at.list_rows-requires c).After-unwrap-ring);
      room = omega (arith, o.room, part_length (cells_of a.width a.height a.cells.now a.rectangles.now a.k) a.indices.now a.used o.room, ap length (one_cells o.one _ (found (goal.at.list_rows-requires c).After-unwrap-ring)));
    }

pub overflow_add-result : goal.overflow_add-result
overflow_add-result c = omega (arith, c.requires.room, c.list_rows.ensures.ends, ap length (one_cells c.requires.one _ (found (goal.at.overflow_add-result c).After-unwrap-ring)))

pub returns : goal.returns
returns c =
    let a = c.args in
    let o = c.requires in
    part_listed (cells_of a.width a.height a.cells.now a.rectangles.now a.k) a.indices.now a.used o.room
    (rw (one_cells o.one _ (found (goal.at.returns c).After-unwrap-ring)) at c.list_rows.ensures)
