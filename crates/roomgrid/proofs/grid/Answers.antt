-- `roomgrid::grid`: the count, and then the rows.
use mathlib.Core.Path.{◌≡◌}
use native.Mathlib.Omega.{arith}
use borrow.Author.Rules.{rules}
use Rattle.std.specs.Prelude.{◌+◌, Some, None, Ok, Err}
use Rattle.textlines.specs.declared.broken.Broken.{Broken}
use Rattle.roomlines.specs.Forms.{ReadsCount, count}
use Rattle.roomlines.specs.Answers.{count_found}
use Rattle.roomrows.specs.Answers.{rows_found}
use Rattle.roomgrid.specs.Answers.{grid_found}
use Rattle.roomlines.proofs.Counted.{count_least}
use Rattle.roomgrid.proofs.Grids.{at_least_one, grid_none, grid_fits, grid_taken, grid_breaks, grid_short}
use Rattle.roomgrid.proofs.grid.Goals.{In_ok-height}
use Rattle.roomgrid.proofs.grid.Goals as goal

pub returns-in_err-height : goal.returns-in_err-height
unfolding count_found grid_found
returns-in_err-height c =
    let n : c.count_at-number.result ≡ None = search rules in
    let e : c.from_residual.result ≡ Err (record { passed = 0 }) = search rules in
    rw e (grid_none (at_least_one (rw n at c.count_at-number.ensures) (omega arith) (omega arith)))

-- the count that was read
counted : (c : In_ok-height) → ReadsCount 1 2147483647 c.args.text.now c.args.at (count c.in_ok-height.height c.in_ok-height.first)
unfolding count_found
counted c =
    let n : c.count_at-number.result ≡ Some (c.in_ok-height.height, c.in_ok-height.first) = search rules in
    at_least_one (rw n at c.count_at-number.ensures) (omega arith) (omega arith)

pub rows-lines-requires : goal.rows-lines-requires
rows-lines-requires c = let r = counted (goal.at.rows-lines-requires c).In_ok-height in (grid_fits r c.requires, omega (arith, count_least r))

pub map_err-requires : goal.map_err-requires
unfolding rows_found
map_err-requires c = λ e q _ _. let i = grid_short (counted (goal.at.map_err-requires c).In_ok-height) (rw q at c.rows-lines.ensures) in omega arith

pub returns-in_err-width : goal.returns-in_err-width
unfolding rows_found grid_found
returns-in_err-width c =
    let f : (e : Broken) × (c.rows-lines.result ≡ Err e) × (c.in_err-width.field-0.0.passed ≡ e.passed + 1) = search rules in
    let e : c.from_residual-in_err-width.result ≡ Err c.in_err-width.field-0.0 = search rules in
    rw e (grid_breaks (counted (goal.at.returns-in_err-width c).In_ok-height) {passed = f.0.passed} (rw f.1 at c.rows-lines.ensures) f.2)

pub returns : goal.returns
unfolding rows_found grid_found
returns c =
    let n : c.rows-lines.result ≡ Ok (c.in_ok-width.width, c.in_ok-width.past) = search rules in
    grid_taken (counted (goal.at.returns c).In_ok-height) (rw n at c.rows-lines.ensures)
