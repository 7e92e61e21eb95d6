-- `targetlines::row`: the lines of the cells that the loop passed are put.
use native.Mathlib.Omega.{arith}
use Rattle.cells.specs.Boxes.{box_of}
use Rattle.window.specs.Windows.{as_record}
use Rattle.page.proofs.Putting.{puts_none, room_next}
use Rattle.targetlines.specs.Targets.{line_at}
use Rattle.targetlines.proofs.Targets.{lines_none, lines_put, lines_room, lines_all}
use Rattle.targetlines.proofs.row.Goals as goal

pub loop-x-init : goal.loop-x-init
loop-x-init c = let a = c.args in rw (lines_none (as_record a.field.window) a.field.lanes.now a.field.resources (box_of a.targets) a.y) (puts_none _)

pub line-requires : goal.line-requires
line-requires c =
    let a = c.args in
    let l = c.loop-x in
    record {
      column = omega (arith, c.requires.box.wide);
      row = c.requires.row;
      text = room_next (line_at (as_record a.field.window) a.field.lanes.now a.field.resources l.x a.y) l.invariant c.requires.text (lines_room (as_record a.field.window) a.field.lanes.now a.field.resources (box_of a.targets) a.y l.x (omega arith) (omega arith));
    }

pub loop-x-preserved : goal.loop-x-preserved
loop-x-preserved c =
    let a = c.args in
    let l = c.loop-x in
    lines_put (as_record a.field.window) a.field.lanes.now a.field.resources (box_of a.targets) a.y l.x (omega arith) l.invariant c.line.ensures

pub returns : goal.returns
returns c = absurd (omega (arith, c.requires.box.across))

pub returns-2 : goal.returns-2
returns-2 c =
    let a = c.args in
    let l = c.loop-x in
    let put = lines_put (as_record a.field.window) a.field.lanes.now a.field.resources (box_of a.targets) a.y l.x (omega arith) l.invariant c.line.ensures in
    rw (lines_all (as_record a.field.window) a.field.lanes.now a.field.resources (box_of a.targets) a.y l.x (omega arith)) at put
