-- `join::search::search`: the table, and the search after the cells that the loop passed.
use mathlib.Core.Path.{◌≡◌}
use Prim.Native.Nat.{◌-◌}
use lib.ListN.{length}
use Rattle.visits.specs.Lent.{SameBuffers}
use Rattle.join.specs.Search.{Running}
use Rattle.join.proofs.search.search.Given as goal

abbrev pub invariant-loop-head : goal.invariant-loop-head
invariant-loop-head l =
    SameBuffers l.initial.queue l.initial.classes l.queue l.classes
    × Running l.width l.height l.initial.states l.initial.classes.parents.now l.states l.queue.points.now l.classes.parents.now l.classes.ranks.now l.queue.len l.head × (length l.picked ≡ 9)

abbrev pub decreases-loop-head : goal.decreases-loop-head
decreases-loop-head l =
    length l.initial.queue.points.now - l.head
