-- `manyrectangles::all::count_all`: the access cells of the rectangles that the loop passed.
use mathlib.Core.Path.{◌≡◌, sym, ap}
use Prim.Native.Nat.{◌+◌, ◌/◌}
use native.Mathlib.Omega.{arith}
use lib.ListN.{length}
use Rattle.manyrectangles.specs.AllCells.{all_cells}
use Rattle.manyrectangles.proofs.AllCells.{all_none, all_length, all_most}
use Rattle.manyrectangles.proofs.all.count_all.Goals.{After-count_one-total}
use Rattle.manyrectangles.proofs.all.count_all.Goals as goal

pub loop-k-init : goal.loop-k-init
loop-k-init c =
    let a = c.args in
    sym (ap length (all_none a.width a.height a.cells.now a.rectangles.now))

pub count_one-total-requires : goal.count_one-total-requires
count_one-total-requires c = record { judged = c.requires; there = c.loop-k-test.true }

-- the count after a turn
turn : (c : After-count_one-total) → c.loop-k.total + c.count_one-total.result ≡ length (all_cells c.args.width c.args.height c.args.cells.now c.args.rectangles.now (c.loop-k.k + 1))
turn c =
    let a = c.args in
    omega (arith, c.loop-k.invariant, c.count_one-total.ensures, all_length a.width a.height a.cells.now a.rectangles.now c.loop-k.k)

pub overflow_add-total : goal.overflow_add-total
overflow_add-total c =
    let a = c.args in
    omega (arith, turn (goal.at.overflow_add-total c).After-count_one-total, all_most a.width a.height a.cells.now a.rectangles.now c.requires (c.loop-k.k + 1) (omega arith))

pub loop-k-preserved : goal.loop-k-preserved
loop-k-preserved c = turn (goal.at.loop-k-preserved c).After-count_one-total

pub returns : goal.returns
returns c = let e : c.loop-k.k ≡ length c.args.rectangles.now / 4 = omega arith in rw e at c.loop-k.invariant
