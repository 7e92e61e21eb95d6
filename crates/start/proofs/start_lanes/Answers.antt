-- `start::start_lanes`: the lanes that the loop passed have started.
use mathlib.Core.Path.{◌≡◌, refl}
use Prim.Native.Nat.{ℕ, ◌/◌}
use native.Mathlib.Omega.{arith}
use lib.ListN.{length}
use Rattle.walkgraph.specs.Painting.{Rectangle, rectangle}
use Rattle.walkgraph.specs.Ring.{body, ring_box}
use Rattle.lane.specs.Levels.{level_at}
use Rattle.start.specs.Hits.{ring_hit, lanes_hit}
use Rattle.start.proofs.Some.{some_none, started_none}
use Rattle.start.proofs.Turns.{turn_more}
use Rattle.start.proofs.start_lanes.Goals as goal

pub loop-lane-init : goal.loop-lane-init
unfolding lanes_hit
loop-lane-init c = (omega arith, refl, started_none _ _ (λ j. some_none _))

pub start_lane-requires : goal.start_lane-requires
start_lane-requires c =
    let p = c.requires in
    (rw c.loop-lane.invariant.1 p.0, p.1, omega arith, omega (arith, p.2))

pub overflow_step-lane : goal.overflow_step-lane
overflow_step-lane c = omega arith

pub loop-lane-smaller : goal.loop-lane-smaller
loop-lane-smaller c = omega arith

pub loop-lane-preserved : goal.loop-lane-preserved
unfolding lanes_hit
loop-lane-preserved c =
    let a = c.args in
    let resource : ℕ → Rectangle = rectangle a.resources.now in (
      omega arith,
      omega arith,
      turn_more (level_at a.lanes.now) (level_at c.loop-lane.lanes) _ c.loop-lane.lane (λ k. ring_hit a.window a.walk.now a.rows.now (ring_box a.width a.height (resource k)) (body (resource k)) k) c.loop-lane.invariant.2 c.start_lane.ensures,
    )

pub shape_of-lanes : goal.shape_of-lanes
shape_of-lanes c = omega arith

pub returns : goal.returns
returns c =
    let e : c.loop-lane.lane ≡ length c.args.resources.now / 4 = omega arith in
    rw e at c.loop-lane.invariant.2
