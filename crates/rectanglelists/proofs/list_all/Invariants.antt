-- `rectanglelists::list_all`: the access cells of the rectangles that the loop passed are listed, and so are their ends.
use Prim.Native.Nat.{◌/◌, ◌≤◌}
use lib.ListN.{length}
use Rattle.ringlists.specs.Lists.{Listed}
use Rattle.manyrectangles.specs.AllCells.{all_cells, ends_of}
use Rattle.rectanglelists.proofs.list_all.Given as goal

abbrev pub invariant-loop-k : goal.invariant-loop-k
invariant-loop-k l =
    (l.k ≤ length l.rectangles / 4) × Listed (all_cells l.width l.height l.cells l.rectangles l.k) l.initial.indices 0 l.indices l.used × Listed (ends_of l.width l.height l.cells l.rectangles l.k) l.initial.ends 0 l.ends l.k
