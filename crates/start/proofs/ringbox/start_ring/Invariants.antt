-- `ringbox::start_ring`: the rows that the loop passed have started.
use mathlib.Core.Path.{◌≡◌}
use Prim.Native.Nat.{◌+◌, ◌-◌, ◌≤◌}
use Rattle.lane.specs.Levels.{level_at}
use Rattle.cells.specs.Boxes.{box_of}
use Rattle.start.specs.Hits.{some_below, started_levels, row_hit}
use Rattle.start.proofs.ringbox.start_ring.Given as goal

abbrev pub invariant-loop-y : goal.invariant-loop-y
invariant-loop-y l =
    (l.y - l.first ≤ l.past - l.first) × (level_at l.lanes ≡ started_levels (level_at l.initial.lanes) (λ j. some_below (l.y - l.first) (λ k. row_hit l.window l.walk l.rows (box_of l.ring.ring) (box_of l.ring.body) l.lane (l.first + k) j)))
