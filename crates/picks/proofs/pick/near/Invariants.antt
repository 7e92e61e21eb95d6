-- `picks::pick::near`: the moves that the loop passed are picked.
use Prim.Native.Nat.{◌≤◌}
use Rattle.picks.specs.Picks.{is_near, Picked}
use Rattle.picks.proofs.pick.near.Given as goal

abbrev pub invariant-loop-k : goal.invariant-loop-k
invariant-loop-k l = (l.k ≤ 8) × Picked (is_near l.states l.width l.index l.steps l.low) l.k l.list l.count
