-- `targetlines::row`: the lines of the cells that the loop passed are put.
use Rattle.cells.specs.Boxes.{box_of}
use Rattle.window.specs.Windows.{as_record}
use Rattle.page.specs.Puts.{Puts}
use Rattle.targetlines.proofs.Targets.{lines_before}
use Rattle.targetlines.proofs.row.Given as goal

abbrev pub invariant-loop-x : goal.invariant-loop-x
invariant-loop-x l = Puts (lines_before (as_record l.field.window) l.field.lanes.now l.field.resources (box_of l.fn.targets) l.y l.x) l.initial.page l.page
