-- `start::start_lanes`: the lanes that the loop passed have started.
use mathlib.Core.Path.{◌≡◌}
use Prim.Native.Nat.{◌-◌, ◌/◌, ◌≤◌}
use lib.ListN.{length}
use Rattle.lane.specs.Levels.{level_at}
use Rattle.start.specs.Hits.{started_levels, lanes_hit}
use Rattle.start.proofs.start_lanes.Given as goal

abbrev pub invariant-loop-lane : goal.invariant-loop-lane
invariant-loop-lane l =
    (l.lane ≤ length l.resources / 4) × (length l.lanes ≡ length l.initial.lanes) × (level_at l.lanes ≡ started_levels (level_at l.initial.lanes) (lanes_hit l.window l.walk l.rows l.width l.height l.resources l.lane))

abbrev pub decreases-loop-lane : goal.decreases-loop-lane
decreases-loop-lane l = length l.resources / 4 - l.lane
