-- `visits::visit::visit`: the move is shut, meets a label, or labels the next cell.
use Prim.Native.Nat.{◌<◌}
use native.Mathlib.Omega.{arith}
use lib.ListN.{length}
use Rattle.visits.specs.Visits.{shut, labelled, met}
use Rattle.cellstate.proofs.Answers.{is_shut, is_open}
use mathlib.Core.Path.{ap}
use mathlib.Core.Bool.{not}
use Rattle.visits.proofs.visit.visit.Goals.{Else-states-next}
use Rattle.visits.proofs.visit.visit.Goals as goal

pub overflow_add-next : goal.overflow_add-next
overflow_add-next c = omega (arith, c.requires.0.there)

pub overflow_sub-next : goal.overflow_sub-next
overflow_sub-next c = c.requires.0.first

pub overflow_add-index : goal.overflow_add-index
overflow_add-index c = omega (arith, c.requires.0.here, c.requires.0.across)

pub overflow_sub-index : goal.overflow_sub-index
overflow_sub-index c = c.requires.0.second

pub open-requires : goal.open-requires
open-requires c = let p = c.requires.1 in (p.next_in, p.first_in, p.second_in)

pub returns-then-not-open-clause-visited : goal.returns-then-not-open-clause-visited
returns-then-not-open-clause-visited c = shut (is_shut _ c.«open».ensures (ap not c.if-not-open.true))

pub offset_bounds-states-next : goal.offset_bounds-states-next
offset_bounds-states-next c = omega (arith, c.requires.0.there)

pub bounds-states-next : goal.bounds-states-next
bounds-states-next c = c.requires.1.next_in

pub offset_bounds-states-next-then-states-next : goal.offset_bounds-states-next-then-states-next
offset_bounds-states-next-then-states-next c = omega (arith, c.requires.0.there)

pub bounds-states-next-then-states-next : goal.bounds-states-next-then-states-next
bounds-states-next-then-states-next c = c.requires.1.next_in

pub meet-requires : goal.meet-requires
meet-requires c =
    let p = c.requires.1 in
    (p.forest, p.label, p.labels (is_open _ c.«open».ensures (ap not c.if-not-open.false)) c.if-states-next.true)

pub returns-then-states-next-clause-visited : goal.returns-then-states-next-clause-visited
returns-then-states-next-clause-visited c = met (is_open _ c.«open».ensures (ap not c.if-not-open.false)) c.if-states-next.true c.meet.ensures.met

pub overflow_add-states : goal.overflow_add-states
overflow_add-states c = omega (arith, c.requires.1.label.last, c.requires.1.forest.few)

pub offset_bounds-states-next-2 : goal.offset_bounds-states-next-2
offset_bounds-states-next-2 c = omega (arith, c.requires.0.there)

pub bounds-states-next-2 : goal.bounds-states-next-2
bounds-states-next-2 c = c.requires.1.next_in

room : (c : Else-states-next) → c.args.queue.now.len < length c.args.queue.now.points.now
room c = c.requires.1.room (is_open _ c.«open».ensures (ap not c.if-not-open.false)) c.if-states-next.false

pub overflow_mul-down : goal.overflow_mul-down
overflow_mul-down c = omega (arith, c.requires.0.along)

pub overflow_add-down : goal.overflow_add-down
overflow_add-down c = omega (arith, c.requires.0.across, c.requires.0.along)

pub overflow_cast-down : goal.overflow_cast-down
overflow_cast-down c = omega (arith, c.requires.0.across, c.requires.0.along)

pub overflow_add-point : goal.overflow_add-point
overflow_add-point c = omega (arith, c.requires.0.across, c.requires.0.along, c.requires.0.place)

pub overflow_sub-point : goal.overflow_sub-point
overflow_sub-point c = c.requires.0.low

pub push-requires : goal.push-requires
push-requires c = room (goal.at.push-requires c).Else-states-next

pub returns-clause-visited : goal.returns-clause-visited
returns-clause-visited c =
    let q = c.push.ensures in
    rw (q.points, q.len) (labelled (is_open _ c.«open».ensures (ap not c.if-not-open.false)) c.if-states-next.false)
