-- `seeds::seed::seed`: the states, the classes, and the lists that the loop passed.
use Rattle.visits.specs.Lent.{SameBuffers}
use Rattle.walkgraph.specs.FieldsPromise.{start_of}
use Rattle.fieldsinput.specs.Input.{as_input}
use Rattle.seeds.specs.Sowing.{SownTo}
use Rattle.seeds.proofs.seed.seed.Given as goal

abbrev pub invariant-loop-r : goal.invariant-loop-r
invariant-loop-r l =
    SameBuffers l.initial.queue l.initial.classes l.queue l.classes
    × SownTo (as_input l.given) l.r (start_of l.given.ends.now l.r) l.states l.queue.points.now l.classes.parents.now l.classes.ranks.now l.queue.len
