-- `visits::plant::plant`: the cell is left alone, meets a label, or is labelled.
use Prim.Native.Nat.{◌<◌}
use lib.ListN.{length}
use Rattle.visits.specs.Plants.{shut, labelled, met}
use Rattle.visits.proofs.plant.plant.Goals.{Else-states-index}
use Rattle.visits.proofs.plant.plant.Goals as goal

pub returns-then-states-index-eq0-clause-planted : goal.returns-then-states-index-eq0-clause-planted
returns-then-states-index-eq0-clause-planted c = shut c.if-states-index-eq0.true

pub meet-requires : goal.meet-requires
meet-requires c = let p = c.requires in (p.forest, p.own, p.other c.if-states-index-eq0.false c.if-states-index.true)

pub returns-then-states-index-clause-planted : goal.returns-then-states-index-clause-planted
returns-then-states-index-clause-planted c = met c.if-states-index-eq0.false c.if-states-index.true c.meet.ensures.met

room : (c : Else-states-index) → c.args.queue.now.len < length c.args.queue.now.points.now
room c = c.requires.room c.if-states-index.false

pub push-requires : goal.push-requires
push-requires c = room (goal.at.push-requires c).Else-states-index

pub returns-clause-planted : goal.returns-clause-planted
returns-clause-planted c = let q = c.push.ensures in rw (q.points, q.len) (labelled c.if-states-index.false)
