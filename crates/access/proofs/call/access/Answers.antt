-- `access::call::access`: judged 1, 4, 7; what is found of the ring is the promise.
use mathlib.Core.Path.{◌≡◌}
use mathlib.Core.Bool.{false}
use Rattle.walkgraph.specs.Refusals.{bad_grid}
use Rattle.fournumbers.specs.Corners.{corners_of}
use Rattle.rings.specs.Rings.{RingOf, Accepted}
use Rattle.badgrid.proofs.Accepted.{grid}
use Rattle.judge.proofs.Judging.{found_bad, found_good}
use Rattle.countanswer.specs.Answers.{listed_of}
use Rattle.ringrows.proofs.OfResources.{found_on_map}
use Rattle.access.proofs.Answers.{grid_refused, resource_refused, ring_answered}
use mathlib.Core.Path.{ap}
use Rattle.std.proofs.Common.{rules}
use mathlib.Core.Bool.{not}
use Rattle.access.proofs.call.access.Goals.{After-ring_of-found, Else-not-grid_ok, In-Some}
use Rattle.access.proofs.call.access.Goals as goal

pub returns-then-not-grid_ok : goal.returns-then-not-grid_ok
unfolding listed_of
returns-then-not-grid_ok c =
    grid_refused c.args.width c.args.height c.args.cells.now (corners_of c.args.rectangle) _ (found_bad c.grid_ok.ensures (ap not c.if-not-grid_ok.true))

good-map : (c : Else-not-grid_ok) → bad_grid c.args.width c.args.height c.args.cells.now ≡ false
good-map c = found_good c.grid_ok.ensures (ap not c.if-not-grid_ok.false)

pub ring_of-found-requires : goal.ring_of-found-requires
ring_of-found-requires c =
    let g = grid c.args.width c.args.height c.args.cells.now (good-map (goal.at.ring_of-found-requires c).Else-not-grid_ok) in (g.across.most, g.along.most)

-- the ring of the rectangle as it was given, in whatever form the code passes it on: an edit of its corners is refused by the corners alone
ring-told : (c : After-ring_of-found) → RingOf c.args.width c.args.height (corners_of c.args.rectangle) c.ring_of-found.result
ring-told c = search rules

pub returns-in_default : goal.returns-in_default
unfolding listed_of RingOf
returns-in_default c =
    resource_refused c.args.width c.args.height c.args.cells.now (corners_of c.args.rectangle) _ (good-map (goal.at.returns-in_default c).Else-not-grid_ok) (rw c.in_default.is at (ring-told (goal.at.returns-in_default c).After-ring_of-found))

-- its ring box and its body
present : (c : In-Some) → (RingOf c.args.width c.args.height (corners_of c.args.rectangle) c.ring_of-found.result) → Accepted c.args.width c.args.height (corners_of c.args.rectangle) c.in-Some.ring
unfolding RingOf
present c of_ring-told = rw c.in-Some.is at of_ring-told

pub list_ring-requires : goal.list_ring-requires
list_ring-requires c =
    let p = present (goal.at.list_ring-requires c).In-Some (ring-told (goal.at.list_ring-requires c).After-ring_of-found) in
    found_on_map c.args.width c.args.height c.args.cells.now (corners_of c.args.rectangle) (good-map (goal.at.list_ring-requires c).Else-not-grid_ok) p.good _ p

pub returns : goal.returns
returns c =
    let p = present (goal.at.returns c).In-Some (ring-told (goal.at.returns c).After-ring_of-found) in
    ring_answered c.args.width c.args.height c.args.cells.now (corners_of c.args.rectangle) (good-map (goal.at.returns c).Else-not-grid_ok) p.good _ p c.list_ring.ensures
