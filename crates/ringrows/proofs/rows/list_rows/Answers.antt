-- `ringrows::rows::list_rows`: the walkable cells of the rows that the loop passed are listed.
use native.Mathlib.Omega.{arith}
use Rattle.cells.specs.Boxes.{box_of}
use Rattle.ringruns.proofs.RowRuns.{runs_in}
use Rattle.ringlists.proofs.Listing.{listed_none, listed_more, listed_length}
use Rattle.ringrows.proofs.RingRows.{rows_none, rows_more, rows_room, rows_all}
use Rattle.ringrows.proofs.rows.list_rows.Goals as goal

pub overflow_add-n-end : goal.overflow_add-n-end
overflow_add-n-end c = omega (arith, c.requires.map.grid.rows)

pub overflow_sub-n-end : goal.overflow_sub-n-end
overflow_sub-n-end c = omega (arith, c.requires.map.grid.along)

pub loop-n-init : goal.loop-n-init
loop-n-init c =
    let a = c.args in
    (omega arith, rw (rows_none a.cells.now a.width (box_of a.ring.ring) (box_of a.ring.body)) (listed_none _ _))

pub overflow_add-ring : goal.overflow_add-ring
overflow_add-ring c = omega (arith, c.requires.map.grid.rows)

pub row_runs-runs-requires : goal.row_runs-runs-requires
row_runs-runs-requires c = (c.requires.map.grid, omega arith)

pub list_row-used-requires : goal.list_row-used-requires
list_row-used-requires c =
    let a = c.args in
    let l = c.loop-n in
    rw c.row_runs-runs.ensures
    (record {
      cells_in = runs_in a.width (box_of a.ring.ring) (box_of a.ring.body) _ c.requires.map (omega arith);
      room = omega (arith, l.invariant.1.ends, listed_length l.invariant.1, c.requires.room, rows_room a.cells.now a.width (box_of a.ring.ring) (box_of a.ring.body) l.n c.loop-n-test.true);
    })

pub overflow_step-n : goal.overflow_step-n
overflow_step-n c = omega arith

pub loop-n-smaller : goal.loop-n-smaller
loop-n-smaller c = omega arith

pub loop-n-preserved : goal.loop-n-preserved
loop-n-preserved c =
    let a = c.args in
    let l = c.loop-n in
    (omega arith, rw (rows_more a.cells.now a.width (box_of a.ring.ring) (box_of a.ring.body) l.n) (listed_more l.invariant.1 (rw c.row_runs-runs.ensures at c.list_row-used.ensures)))

pub shape_of-out : goal.shape_of-out
shape_of-out c = listed_length c.loop-n.invariant.1

pub returns : goal.returns
returns c =
    let a = c.args in
    rw (rows_all a.cells.now a.width (box_of a.ring.ring) (box_of a.ring.body) c.loop-n.n (omega arith)) at c.loop-n.invariant.1
