-- `picks::pick::edge`: the moves that the loop passed are picked.
use Prim.Native.Nat.{◌-◌, ◌≤◌}
use Rattle.picks.specs.Picks.{is_inside, Picked}
use Rattle.picks.proofs.pick.edge.Given as goal

abbrev pub invariant-loop-k : goal.invariant-loop-k
invariant-loop-k l = (l.k ≤ 8) × Picked (is_inside l.width l.height l.x l.y l.over l.down) l.k l.list l.count

abbrev pub decreases-loop-k : goal.decreases-loop-k
decreases-loop-k l = 8 - l.k
