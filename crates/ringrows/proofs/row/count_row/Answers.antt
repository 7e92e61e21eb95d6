-- `ringrows::row::count_row`: the places of both runs, one after the other.
use native.Mathlib.Omega.{arith}
use Rattle.ringrows.proofs.RingRows.{row_length, row_most}
use Rattle.ringrows.proofs.row.count_row.Goals as goal

pub overflow_add-result : goal.overflow_add-result
overflow_add-result c =
    omega (arith, c.count_run-first.ensures, c.count_run.ensures, row_length c.args.cells.now c.args.runs, row_most c.args.cells.now c.args.runs c.requires)

pub returns : goal.returns
returns c =
    omega (arith, c.count_run-first.ensures, c.count_run.ensures, row_length c.args.cells.now c.args.runs)
