-- `targetlines::rows`: the rows that the loop passed are put.
use native.Mathlib.Omega.{arith}
use Rattle.cells.specs.Boxes.{box_of}
use Rattle.window.specs.Windows.{as_record}
use Rattle.page.proofs.Putting.{puts_none, room_next}
use Rattle.targetlines.specs.Targets.{row_lines}
use Rattle.targetlines.proofs.Targets.{rows_none, rows_put, rows_room, rows_all}
use Rattle.targetlines.proofs.rows.Goals as goal

pub loop-y-init : goal.loop-y-init
loop-y-init c = let a = c.args in rw (rows_none (as_record a.field.window) a.field.lanes.now a.field.resources (box_of a.targets)) (puts_none _)

pub row-requires : goal.row-requires
row-requires c =
    let a = c.args in
    let l = c.loop-y in
    record {
      box = c.requires.box;
      row = omega (arith, c.requires.box.tall);
      text = room_next (row_lines (as_record a.field.window) a.field.lanes.now a.field.resources (box_of a.targets) l.y) l.invariant c.requires.text (rows_room (as_record a.field.window) a.field.lanes.now a.field.resources (box_of a.targets) l.y (omega arith) (omega arith));
    }

pub loop-y-preserved : goal.loop-y-preserved
loop-y-preserved c =
    let a = c.args in
    let l = c.loop-y in
    rows_put (as_record a.field.window) a.field.lanes.now a.field.resources (box_of a.targets) l.y (omega arith) l.invariant c.row.ensures

pub returns : goal.returns
returns c = absurd (omega (arith, c.requires.box.along))

pub returns-2 : goal.returns-2
returns-2 c =
    let a = c.args in
    let l = c.loop-y in
    let put = rows_put (as_record a.field.window) a.field.lanes.now a.field.resources (box_of a.targets) l.y (omega arith) l.invariant c.row.ensures in
    rw (rows_all (as_record a.field.window) a.field.lanes.now a.field.resources (box_of a.targets) l.y (omega arith)) at put
