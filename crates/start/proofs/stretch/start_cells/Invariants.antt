-- `stretch::start_cells`: of the cells that the loop passed, those that start have started.
use mathlib.Core.Path.{◌≡◌}
use Rattle.lane.specs.Levels.{level_at}
use Rattle.cells.specs.Boxes.{box_of}
use Rattle.start.specs.Hits.{started_levels, cells_hit}
use Rattle.start.proofs.stretch.start_cells.Given as goal

abbrev pub invariant-loop-n : goal.invariant-loop-n
invariant-loop-n l = level_at l.lanes ≡ started_levels (level_at l.initial.lanes) (cells_hit l.each l.walk (box_of l.body) l.lane l.x l.y l.place l.n)
