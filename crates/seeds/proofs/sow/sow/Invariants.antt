-- `seeds::sow::sow`: the places that the loop passed are done.
use Prim.Native.Nat.{◌+◌}
use Rattle.visits.specs.Lent.{SameBuffers}
use Rattle.seeds.specs.Sowing.{SownSo}
use Rattle.seeds.proofs.sow.sow.Given as goal

abbrev pub invariant-loop-index : goal.invariant-loop-index
invariant-loop-index l =
    SameBuffers l.initial.queue l.initial.classes l.queue l.classes
    × SownSo l.width l.indices l.r l.from l.to (l.from + l.index-index) l.initial.states l.initial.queue.points.now l.initial.classes.parents.now l.initial.classes.ranks.now l.initial.queue.len l.states l.queue.points.now l.classes.parents.now l.classes.ranks.now l.queue.len
