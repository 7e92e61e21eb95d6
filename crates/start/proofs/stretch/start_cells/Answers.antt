-- `stretch::start_cells`: of the cells that the loop passed, those that start have started.
use mathlib.Core.Path.{◌≡◌, ◌∙◌, ap}
use mathlib.Core.Bool.{Bool, not, ◌&&◌}
use Prim.Native.Nat.{◌+◌, ◌*◌, ◌≤◌, ◌<◌}
use native.Mathlib.Omega.{arith}
use lib.ListN.{length, get_or}
use lib.IntN.{ℤ, pos}
use lib.Dec.{eqb}
use mir.Syntax.{w16}
use mir.ValLaws.{to_z-of_z}
use borrow.Author.Rules.{sfits_of}
use Rattle.lane.specs.Levels.{level, level_at, started_level}
use Rattle.cells.specs.Boxes.{box_of}
use Rattle.start.specs.Hits.{starts_here, cells_hit}
use Rattle.start.proofs.Some.{some_none, started_none}
use Rattle.start.proofs.Turns.{cell_more}
use Rattle.start.proofs.stretch.start_cells.Goals.{In-loop-n}
use Rattle.start.proofs.stretch.start_cells.Goals as goal

-- the lane of a turn is among the lanes
turn-room : (c : In-loop-n) →
    (c.args.place + c.loop-n.n) * c.args.each + c.args.lane < length c.loop-n.lanes
turn-room c =
    rw c.loop-n.auto.lanes (c.requires.lanes_in c.loop-n.n c.loop-n-test.true)

-- so is its walk byte, and its column is in the limits
turn-walk : (c : In-loop-n) → c.args.place + c.loop-n.n < length c.args.walk.now
turn-walk c = c.requires.walk_in c.loop-n.n c.loop-n-test.true

turn-column : (c : In-loop-n) → c.args.x + c.loop-n.n ≤ 1024
turn-column c = c.requires.column c.loop-n.n c.loop-n-test.true

pub loop-n-init : goal.loop-n-init
unfolding cells_hit
loop-n-init c =
    let a = c.args in
    started_none (level_at a.lanes.now) _ (λ j. some_none _)

pub overflow_add-at : goal.overflow_add-at
overflow_add-at c = omega (arith, turn-walk (goal.at.overflow_add-at c).In-loop-n)

pub overflow_mul-at : goal.overflow_mul-at
overflow_mul-at c = omega (arith, turn-room (goal.at.overflow_mul-at c).In-loop-n)

pub overflow_add-at-in-loop-n : goal.overflow_add-at-in-loop-n
overflow_add-at-in-loop-n c = omega (arith, turn-room (goal.at.overflow_add-at-in-loop-n c).In-loop-n)

pub offset_bounds-lanes-at : goal.offset_bounds-lanes-at
offset_bounds-lanes-at c = omega (arith, turn-room (goal.at.offset_bounds-lanes-at c).In-loop-n)

pub slice_copy_out-started : goal.slice_copy_out-started
slice_copy_out-started c = turn-room (goal.at.slice_copy_out-started c).In-loop-n

pub overflow_add-place : goal.overflow_add-place
overflow_add-place c = omega (arith, turn-walk (goal.at.overflow_add-place c).In-loop-n)

pub bounds-walk-place : goal.bounds-walk-place
bounds-walk-place c = omega (arith, turn-walk (goal.at.bounds-walk-place c).In-loop-n)

pub overflow_add-x : goal.overflow_add-x
overflow_add-x c = omega (arith, turn-column (goal.at.overflow_add-x c).In-loop-n)

pub offset_bounds-lanes-at-in-loop-n : goal.offset_bounds-lanes-at-in-loop-n
offset_bounds-lanes-at-in-loop-n c = omega (arith, turn-room (goal.at.offset_bounds-lanes-at-in-loop-n c).In-loop-n)

pub bounds-lanes-at : goal.bounds-lanes-at
bounds-lanes-at c = omega (arith, turn-room (goal.at.bounds-lanes-at c).In-loop-n)

pub loop-n-preserved : goal.loop-n-preserved
unfolding starts_here
loop-n-preserved c =
    let a = c.args in
    let n = c.loop-n.n in
    rw (to_z-of_z w16 c.started.result (sfits_of c.started.type_inv))
    (cell_more (level_at a.lanes.now) c.loop-n.lanes c.started.result a.each a.walk.now (box_of a.body) a.lane a.x a.y a.place n (turn-room (goal.at.loop-n-preserved c).In-loop-n) (c.started.ensures ∙ ap (λ (v : ℤ). started_level (level v) c.starts.result) (to_z-of_z w16 (get_or c.loop-n.lanes ((a.place + n) * a.each + a.lane) (pos 0)) (sfits_of c.started-arg-1.given)) ∙ ap (started_level (level_at c.loop-n.lanes ((a.place + n) * a.each + a.lane))) (c.starts.ensures ∙ ap (λ (q : Bool). eqb (get_or a.walk.now (a.place + n) 0) 1 && not q) c.covers.ensures)) c.loop-n.invariant)

pub returns : goal.returns
returns c =
    let e : c.loop-n.n ≡ c.args.count = omega arith in
    rw e at c.loop-n.invariant
