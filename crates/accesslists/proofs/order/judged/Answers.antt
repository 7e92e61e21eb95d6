-- `accesslists::order::judged`: its tests are those of the table, in the call's order.
use mathlib.Core.Path.{◌≡◌, ap, ◌∙◌}
use mathlib.Core.Bool.{false, not}
use Prim.Native.Nat.{ℕ, ◌/◌}
use native.Mathlib.Omega.{arith}
use lib.ListN.{length}
use Rattle.walkgraph.specs.Refusals.{bad_grid, bad_fours}
use Rattle.judge.specs.Verdicts.{verdict_of}
use Rattle.judge.proofs.Judging.{found_bad, found_good}
use Rattle.badgrid.proofs.Accepted.{grid}
use Rattle.judge.proofs.Accepted.{fours}
use Rattle.manyrectangles.specs.AllCells.{all_cells}
use Rattle.manyrectangles.specs.Listing.{Judged}
use Rattle.listspromise.specs.AccessListsPromise.{short_lists}
use Rattle.accesslists.proofs.Verdicts.{grid_refused, count_refused, rectangle_refused, judged_all, room_refused, none_refused}
use Rattle.accesslists.proofs.order.judged.Goals.{After-room_ok, Else-good-count, Else-not-fours_ok, Else-not-grid_ok}
use Rattle.accesslists.proofs.order.judged.Goals as goal

pub returns-then-not-grid_ok : goal.returns-then-not-grid_ok
unfolding verdict_of
returns-then-not-grid_ok c = let a = c.args in grid_refused a.width a.height a.cells.now a.rectangles.now a.indices a.ends (found_bad c.grid_ok.ensures (ap not c.if-not-grid_ok.true))

good-map : (c : Else-not-grid_ok) → bad_grid c.args.width c.args.height c.args.cells.now ≡ false
good-map c = found_good c.grid_ok.ensures (ap not c.if-not-grid_ok.false)

pub returns-then-not-fours_ok : goal.returns-then-not-fours_ok
unfolding verdict_of
returns-then-not-fours_ok c = let a = c.args in count_refused a.width a.height a.cells.now a.rectangles.now a.indices a.ends (good-map (goal.at.returns-then-not-fours_ok c).Else-not-grid_ok) (found_bad c.fours_ok.ensures (ap not c.if-not-fours_ok.true))

good-count : (c : Else-not-fours_ok) → bad_fours 512 c.args.rectangles.now ≡ false
good-count c = found_good c.fours_ok.ensures (ap not c.if-not-fours_ok.false)

pub accepted-good-requires : goal.accepted-good-requires
accepted-good-requires c =
    let g = grid c.args.width c.args.height c.args.cells.now (good-map (goal.at.accepted-good-requires c).Else-not-grid_ok) in (g.across.most, g.along.most)

pub overflow_cast-result : goal.overflow_cast-result
overflow_cast-result c = omega (arith, c.if-good-count.true, (fours 512 c.args.rectangles.now (good-count (goal.at.overflow_cast-result c).Else-not-fours_ok)).few)

pub returns-then-good-count : goal.returns-then-good-count
unfolding verdict_of
returns-then-good-count c =
    let a = c.args in
    rectangle_refused a.width a.height a.cells.now a.rectangles.now a.indices a.ends c.accepted-good.result (good-map (goal.at.returns-then-good-count c).Else-not-grid_ok) (good-count (goal.at.returns-then-good-count c).Else-not-fours_ok) c.accepted-good.ensures c.if-good-count.true

-- no rectangle is refused
good-all : (c : Else-good-count) → (bad_grid c.args.width c.args.height c.args.cells.now ≡ false) → (bad_fours 512 c.args.rectangles.now ≡ false) → Judged c.args.width c.args.height c.args.cells.now c.args.rectangles.now
good-all c of_good-map of_good-count =
    let a = c.args in
    judged_all a.width a.height a.cells.now a.rectangles.now c.accepted-good.result of_good-map of_good-count c.accepted-good.ensures c.if-good-count.false

pub count_all-listed-requires : goal.count_all-listed-requires
count_all-listed-requires c = good-all (goal.at.count_all-listed-requires c).Else-good-count (good-map (goal.at.count_all-listed-requires c).Else-not-grid_ok) (good-count (goal.at.count_all-listed-requires c).Else-not-fours_ok)

pub room_ok-requires : goal.room_ok-requires
room_ok-requires c = tt

-- the tests on as many access cells as there are
room-told : (c : After-room_ok) → let a = c.args in
    c.room_ok.result ≡ not (short_lists (length (all_cells a.width a.height a.cells.now a.rectangles.now (length a.rectangles.now / 4))) (length a.rectangles.now / 4) a.indices a.ends)
room-told c =
    let a = c.args in
    c.room_ok.ensures ∙ ap (λ (m : ℕ). not (short_lists m (length a.rectangles.now / 4) a.indices a.ends)) c.count_all-listed.ensures

pub returns-then-not-room_ok : goal.returns-then-not-room_ok
unfolding verdict_of
returns-then-not-room_ok c =
    let a = c.args in
    room_refused a.width a.height a.cells.now a.rectangles.now a.indices a.ends (good-all (goal.at.returns-then-not-room_ok c).Else-good-count (good-map (goal.at.returns-then-not-room_ok c).Else-not-grid_ok) (good-count (goal.at.returns-then-not-room_ok c).Else-not-fours_ok)) (found_bad (room-told (goal.at.returns-then-not-room_ok c).After-room_ok) (ap not c.if-not-room_ok.true))

pub returns : goal.returns
unfolding verdict_of
returns c =
    let a = c.args in
    none_refused a.width a.height a.cells.now a.rectangles.now a.indices a.ends (good-all (goal.at.returns c).Else-good-count (good-map (goal.at.returns c).Else-not-grid_ok) (good-count (goal.at.returns c).Else-not-fours_ok)) (found_good (room-told (goal.at.returns c).After-room_ok) (ap not c.if-not-room_ok.false))
