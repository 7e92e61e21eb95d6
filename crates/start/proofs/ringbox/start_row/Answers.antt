-- `ringbox::start_row`: the columns that are looked at are those of the ring box that are inside, and they lie in the buffers.
use Prim.Native.Nat.{◌-◌}
use native.Mathlib.Omega.{arith}
use lib.ListN.{length}
use Rattle.cells.specs.Boxes.{box_of}
use Rattle.start.specs.Hits.{first_column, past_column, row_hit}
use Rattle.start.proofs.Rooms.{cells_room}
use Rattle.start.proofs.ringbox.start_row.Goals as goal

pub start_cells-requires : goal.start_cells-requires
unfolding first_column past_column
start_cells-requires c =
    let p = c.requires in
    let a = c.args in
    rw (c.saturating_sub.ensures, c.stride.ensures, c.min-past.ensures, c.max-first.ensures, c.from.ensures, c.from-2.ensures)
    (cells_room a.window (length a.lanes.now) (length a.walk.now) a.rows.now (box_of a.ring.ring) a.lane (a.y - a.window.top) p.0 p.1 p.2 (omega (arith, p.3, p.4)))

pub returns : goal.returns
unfolding row_hit first_column past_column
returns c = rw (c.saturating_sub.ensures, c.stride.ensures, c.min-past.ensures, c.max-first.ensures, c.from.ensures, c.from-2.ensures) at c.start_cells.ensures
