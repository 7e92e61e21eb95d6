-- `join::expand::expand`: the moves that the loop passed are done.
use Rattle.visits.specs.Lent.{SameBuffers}
use Rattle.join.proofs.Rounds.{Round}
use Rattle.join.proofs.expand.expand.Given as goal

abbrev pub invariant-loop-number : goal.invariant-loop-number
invariant-loop-number l =
    SameBuffers l.initial.queue l.initial.classes l.queue l.classes
    × Round l.width l.height l.initial.states l.initial.queue.points.now l.initial.classes.parents.now l.directions.over l.directions.down l.number-items l.initial.queue.len l.head l.states l.queue.points.now l.classes.parents.now l.classes.ranks.now l.queue.len l.number-index
