-- `manyrectangles::one::count_one`: the rectangle is not refused, and its access cells are those of the rows of its ring.
use mathlib.Core.Path.{ap, ◌∙◌}
use lib.ListN.{length}
use Rattle.walkgraph.specs.Painting.{rectangle}
use Rattle.rings.specs.Rings.{Accepted}
use Rattle.rings.proofs.Sources.{found_ring}
use Rattle.manyrectangles.proofs.Rectangles.{ring_may, there_is_ring, one_on_map, one_cells}
use Rattle.manyrectangles.proofs.one.count_one.Goals.{After-unwrap-ring}
use Rattle.manyrectangles.proofs.one.count_one.Goals as goal

pub ring_at-requires : goal.ring_at-requires
ring_at-requires c = ring_may c.requires

pub unwrap-ring-requires : goal.unwrap-ring-requires
unwrap-ring-requires c = there_is_ring c.requires _ c.ring_at.ensures

-- its ring box and its body
found : (c : After-unwrap-ring) → Accepted c.args.width c.args.height (rectangle c.args.rectangles.now c.args.k) c.unwrap-ring.result
found c = found_ring _ _ _ c.unwrap-ring.result c.ring_at.ensures c.unwrap-ring.ensures

pub count_rows-requires : goal.count_rows-requires
count_rows-requires c = one_on_map c.requires _ (found (goal.at.count_rows-requires c).After-unwrap-ring)

pub returns : goal.returns
returns c = c.count_rows.ensures ∙ ap length (one_cells c.requires _ (found (goal.at.returns c).After-unwrap-ring))
