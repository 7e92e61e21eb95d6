-- `rectanglelists::list_all`: the access cells of the rectangles that the loop passed are listed, and so are their ends.
use mathlib.Core.Path.{◌≡◌}
use Prim.Native.Nat.{◌+◌, ◌/◌}
use native.Mathlib.Omega.{arith}
use lib.ListN.{length}
use Rattle.ringlists.specs.Lists.{Listed}
use Rattle.ringlists.proofs.Listing.{listed_none, listed_more, listed_length}
use Rattle.manyrectangles.specs.AllCells.{cells_of, all_cells}
use Rattle.manyrectangles.proofs.AllCells.{all_none, all_more, all_length, all_up, all_most, ends_none}
use Rattle.manyrectangles.proofs.Listing.{end_listed, all_listed}
use Rattle.rectanglelists.proofs.list_all.Goals.{After-list_one-end}
use Rattle.rectanglelists.proofs.list_all.Goals as goal

pub loop-k-init : goal.loop-k-init
loop-k-init c =
    let a = c.args in (
      omega arith,
      rw (all_none a.width a.height a.cells.now a.rectangles.now) (listed_none _ _),
      rw (ends_none a.width a.height a.cells.now a.rectangles.now) (listed_none _ _),
    )

pub list_one-end-requires : goal.list_one-end-requires
list_one-end-requires c =
    let a = c.args in
    let p = c.requires in
    let l = c.loop-k in
    let t = c.loop-k-test.true in
    record {
      one = record { judged = p.judged; there = omega (arith, t) };
      room = omega (arith, l.invariant.1.ends, listed_length l.invariant.1, p.room, all_length a.width a.height a.cells.now a.rectangles.now l.k, all_up a.width a.height a.cells.now a.rectangles.now (l.k + 1) (length a.rectangles.now / 4) (omega arith));
    }

-- the indices after a turn
turn : (c : After-list_one-end) →
    Listed (all_cells c.args.width c.args.height c.args.cells.now c.args.rectangles.now (c.loop-k.k + 1)) c.args.indices.now 0 c.list_one-end.new.indices c.list_one-end.result
turn c =
    let a = c.args in
    rw (all_more a.width a.height a.cells.now a.rectangles.now c.loop-k.k) (listed_more {q = cells_of a.width a.height a.cells.now a.rectangles.now c.loop-k.k} c.loop-k.invariant.1 c.list_one-end.ensures)

pub overflow_cast-ends : goal.overflow_cast-ends
overflow_cast-ends c =
    let a = c.args in
    omega (arith, (turn (goal.at.overflow_cast-ends c).After-list_one-end).ends, all_most a.width a.height a.cells.now a.rectangles.now c.requires.judged (c.loop-k.k + 1) (omega arith))

pub loop-k-preserved : goal.loop-k-preserved
loop-k-preserved c =
    let a = c.args in
    let l = c.loop-k in
    (omega arith, turn (goal.at.loop-k-preserved c).After-list_one-end, end_listed a.width a.height a.cells.now a.rectangles.now l.k _ l.invariant.2 (omega (arith, (turn (goal.at.loop-k-preserved c).After-list_one-end).ends)))

pub shape_of-indices : goal.shape_of-indices
shape_of-indices c = listed_length c.loop-k.invariant.1

pub shape_of-ends : goal.shape_of-ends
shape_of-ends c = listed_length c.loop-k.invariant.2

pub returns : goal.returns
returns c =
    let a = c.args in
    let p = c.requires in
    let l = c.loop-k in
    let e : l.k ≡ length a.rectangles.now / 4 = omega arith in
    all_listed a.width a.height a.cells.now a.rectangles.now p.room p.ends_room (rw e at l.invariant.1) (rw e at l.invariant.2)
