-- `ringrows::rows::count_rows`: the walkable cells of the rows that the loop passed.
use mathlib.Core.Path.{◌≡◌, sym, ap, ◌∙◌}
use Prim.Native.Nat.{◌+◌}
use native.Mathlib.Omega.{arith}
use lib.ListN.{length}
use Rattle.cells.specs.Boxes.{box_of}
use Rattle.ringruns.proofs.RowRuns.{runs_in}
use Rattle.ringrows.specs.Rows.{row_places}
use Rattle.ringrows.proofs.RingRows.{first_rows, rows_none, rows_counted, rows_most, rows_all}
use Rattle.ringrows.proofs.rows.count_rows.Goals.{After-count_row-total}
use Rattle.ringrows.proofs.rows.count_rows.Goals as goal

pub overflow_add-n-end : goal.overflow_add-n-end
overflow_add-n-end c = omega (arith, c.requires.grid.rows)

pub overflow_sub-n-end : goal.overflow_sub-n-end
overflow_sub-n-end c = omega (arith, c.requires.grid.along)

pub loop-n-init : goal.loop-n-init
loop-n-init c =
    let a = c.args in
    (omega arith, sym (ap length (rows_none a.cells.now a.width (box_of a.ring.ring) (box_of a.ring.body))))

pub overflow_add-ring : goal.overflow_add-ring
overflow_add-ring c = omega (arith, c.requires.grid.rows)

pub row_runs-requires : goal.row_runs-requires
row_runs-requires c = (c.requires.grid, omega arith)

pub count_row-total-requires : goal.count_row-total-requires
count_row-total-requires c =
    let a = c.args in
    rw c.row_runs.ensures (runs_in a.width (box_of a.ring.ring) (box_of a.ring.body) _ c.requires (omega arith))

-- the count after a turn
turn : (c : After-count_row-total) →
    c.loop-n.total + c.count_row-total.result ≡ length (first_rows c.args.cells.now c.args.width (box_of c.args.ring.ring) (box_of c.args.ring.body) (c.loop-n.n + 1))
turn c =
    let a = c.args in
    rows_counted a.cells.now a.width (box_of a.ring.ring) (box_of a.ring.body) c.loop-n.n c.loop-n.total c.count_row-total.result c.loop-n.invariant.1
    (c.count_row-total.ensures ∙ ap (λ r. length (row_places a.cells.now r)) c.row_runs.ensures)

pub overflow_add-total : goal.overflow_add-total
overflow_add-total c =
    let a = c.args in
    omega (arith, turn (goal.at.overflow_add-total c).After-count_row-total, c.requires.grid.rows, rows_most a.cells.now a.width (box_of a.ring.ring) (box_of a.ring.body) (c.loop-n.n + 1) c.requires (omega arith))

pub overflow_step-n : goal.overflow_step-n
overflow_step-n c = omega arith

pub loop-n-smaller : goal.loop-n-smaller
loop-n-smaller c = omega arith

pub loop-n-preserved : goal.loop-n-preserved
loop-n-preserved c = (omega arith, turn (goal.at.loop-n-preserved c).After-count_row-total)

pub returns : goal.returns
returns c =
    let a = c.args in
    rw (rows_all a.cells.now a.width (box_of a.ring.ring) (box_of a.ring.body) c.loop-n.n (omega arith)) at c.loop-n.invariant.1
