-- `manyrectangles::all::count_all`: the access cells of the rectangles that the loop passed.
use mathlib.Core.Path.{◌≡◌}
use lib.ListN.{length}
use Rattle.manyrectangles.specs.AllCells.{all_cells}
use Rattle.manyrectangles.proofs.all.count_all.Given as goal

abbrev pub invariant-loop-k : goal.invariant-loop-k
invariant-loop-k l = l.total ≡ length (all_cells l.width l.height l.cells l.rectangles l.k)
