-- `targetlines::rows`: the rows that the loop passed are put.
use Rattle.cells.specs.Boxes.{box_of}
use Rattle.window.specs.Windows.{as_record}
use Rattle.page.specs.Puts.{Puts}
use Rattle.targetlines.proofs.Targets.{rows_before}
use Rattle.targetlines.proofs.rows.Given as goal

abbrev pub invariant-loop-y : goal.invariant-loop-y
invariant-loop-y l = Puts (rows_before (as_record l.field.window) l.field.lanes.now l.field.resources (box_of l.targets) l.y) l.initial.page l.page
