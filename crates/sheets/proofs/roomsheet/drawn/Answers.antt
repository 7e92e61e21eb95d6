-- `sheets::roomsheet::drawn`: the verdict is a refusal, whose line is put, or a room, whose parts of the buffers are in them and whose sheet is put.
use mathlib.Core.Path.{sym}
use Prim.Native.Nat.{◌+◌, ◌*◌}
use native.Mathlib.Omega.{arith}
use lib.Seq.{length-take-le}
use Rattle.textverdict.specs.Verdicts.{accepted}
use Rattle.textverdict.specs.Answers.{verdict_of}
use Rattle.sheets.specs.SheetText.{ReadFits, puts_line, puts_drawing}
use Rattle.sheets.proofs.RoomDrawn.{line_room, line_put}
use Rattle.sheets.proofs.Rooms.{part_is, RoomRead, room_read, read_area, columns_fit, rows_fit, rectangles_few, blockers_end, blockers_bytes, blockers_inside, resources_end, resources_after, resources_inside, box_inside}
use Rattle.sheets.proofs.roomsheet.drawn.Goals.{In-Ok}
use Rattle.sheets.proofs.roomsheet.drawn.Goals as goal

-- the room that was read, as it stands in the buffers
read : (c : In-Ok) → let a = c.args in ReadFits (accepted c.in-Ok.size.width c.in-Ok.size.height c.in-Ok.size.blockers c.in-Ok.size.resources) a.cells.now a.numbers.now a.page.now
unfolding verdict_of
read c = rw c.in-Ok.is at c.requires

-- it is in the limits
room : (c : In-Ok) → (let a = c.args in ReadFits (accepted c.in-Ok.size.width c.in-Ok.size.height c.in-Ok.size.blockers c.in-Ok.size.resources) a.cells.now a.numbers.now a.page.now) → RoomRead c.in-Ok.size.width c.in-Ok.size.height c.in-Ok.size.blockers c.in-Ok.size.resources
room c of_read = room_read of_read.limits

pub refusal-requires : goal.refusal-requires
refusal-requires c = line_room _ _ (omega arith) (omega arith) _ c.requires.page_room

pub returns-in-Err : goal.returns-in-Err
unfolding verdict_of
returns-in-Err c =
    rw c.in-Err.is (puts_line (rw (c.number.ensures, c.place.ensures) at (line_put c.number.result c.place.result (omega arith) (omega arith) c.refusal.ensures)))

pub overflow_add-count : goal.overflow_add-count
overflow_add-count c = rectangles_few (room (goal.at.overflow_add-count c).In-Ok (read (goal.at.overflow_add-count c).In-Ok))

pub overflow_mul-from : goal.overflow_mul-from
overflow_mul-from c = blockers_end (room (goal.at.overflow_mul-from c).In-Ok (read (goal.at.overflow_mul-from c).In-Ok))

pub overflow_mul-to : goal.overflow_mul-to
overflow_mul-to c = resources_end (room (goal.at.overflow_mul-to c).In-Ok (read (goal.at.overflow_mul-to c).In-Ok))

pub corners_at-targets-requires : goal.corners_at-targets-requires
corners_at-targets-requires c = box_inside (room (goal.at.corners_at-targets-requires c).In-Ok (read (goal.at.corners_at-targets-requires c).In-Ok)) c.args.numbers.now (read (goal.at.corners_at-targets-requires c).In-Ok).numbers_room

pub overflow_cast-size : goal.overflow_cast-size
overflow_cast-size c = columns_fit (room (goal.at.overflow_cast-size c).In-Ok (read (goal.at.overflow_cast-size c).In-Ok))

pub overflow_cast-size-in-Ok : goal.overflow_cast-size-in-Ok
overflow_cast-size-in-Ok c = rows_fit (room (goal.at.overflow_cast-size-in-Ok c).In-Ok (read (goal.at.overflow_cast-size-in-Ok c).In-Ok))

pub overflow_mul-size : goal.overflow_mul-size
overflow_mul-size c = record { fits = omega (arith, read_area (room (goal.at.overflow_mul-size c).In-Ok (read (goal.at.overflow_mul-size c).In-Ok))) }

pub slice_bounds-draw-end : goal.slice_bounds-draw-end
slice_bounds-draw-end c =
    sym (length-take-le _ c.args.cells.now (omega (arith, read_area (room (goal.at.slice_bounds-draw-end c).In-Ok (read (goal.at.slice_bounds-draw-end c).In-Ok)), (read (goal.at.slice_bounds-draw-end c).In-Ok).cells_room)))

pub slice_bounds-draw-end-in-Ok : goal.slice_bounds-draw-end-in-Ok
slice_bounds-draw-end-in-Ok c =
    sym (length-take-le _ c.args.numbers.now (blockers_inside (room (goal.at.slice_bounds-draw-end-in-Ok c).In-Ok (read (goal.at.slice_bounds-draw-end-in-Ok c).In-Ok)) c.args.numbers.now (read (goal.at.slice_bounds-draw-end-in-Ok c).In-Ok).numbers_room))

pub offset_bounds-numbers-from : goal.offset_bounds-numbers-from
offset_bounds-numbers-from c = blockers_bytes (room (goal.at.offset_bounds-numbers-from c).In-Ok (read (goal.at.offset_bounds-numbers-from c).In-Ok))

pub slice_bounds-draw-count : goal.slice_bounds-draw-count
slice_bounds-draw-count c = resources_after (room (goal.at.slice_bounds-draw-count c).In-Ok (read (goal.at.slice_bounds-draw-count c).In-Ok))

pub slice_bounds-draw-start : goal.slice_bounds-draw-start
slice_bounds-draw-start c = resources_after (room (goal.at.slice_bounds-draw-start c).In-Ok (read (goal.at.slice_bounds-draw-start c).In-Ok))

pub slice_bounds-draw-end-in-Ok-2 : goal.slice_bounds-draw-end-in-Ok-2
slice_bounds-draw-end-in-Ok-2 c = resources_inside (room (goal.at.slice_bounds-draw-end-in-Ok-2 c).In-Ok (read (goal.at.slice_bounds-draw-end-in-Ok-2 c).In-Ok)) c.args.numbers.now (read (goal.at.slice_bounds-draw-end-in-Ok-2 c).In-Ok).numbers_room

pub draw-requires : goal.draw-requires
draw-requires c = let r = room (goal.at.draw-requires c).In-Ok (read (goal.at.draw-requires c).In-Ok) in record { columns = r.columns; rows = r.rows; room = (read (goal.at.draw-requires c).In-Ok).page_room }

pub returns-in-Ok : goal.returns-in-Ok
unfolding verdict_of
returns-in-Ok c =
    rw c.in-Ok.is
    (puts_drawing (rw (part_is (4 * c.in-Ok.size.blockers) (4 * (c.in-Ok.size.blockers + c.in-Ok.size.resources)) c.args.numbers.now, c.corners_at-targets.ensures) at c.draw.ensures))
