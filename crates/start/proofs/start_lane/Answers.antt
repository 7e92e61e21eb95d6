-- `start::start_lane`: the resource has a ring, since all have one.
use mathlib.Core.Path.{◌≡◌}
use mathlib.Core.Bool.{false}
use Rattle.walkgraph.specs.Painting.{rectangle}
use Rattle.walkgraph.specs.Refusals.{bad_resource}
use Rattle.rings.proofs.Search.{all_good}
use Rattle.rings.proofs.Sources.{has_ring, found_ring}
use Rattle.start.proofs.Rooms.{ring_limits}
use Rattle.start.proofs.start_lane.Goals.{Start}
use Rattle.start.proofs.start_lane.Goals as goal

good : (s : Start) → bad_resource s.args.width s.args.height (rectangle s.args.resources.now s.args.lane) ≡ false
good s = let p = s.requires in all_good s.args.width s.args.height s.args.resources.now p.1.good s.args.lane p.2

pub unwrap-ring-requires : goal.unwrap-ring-requires
unwrap-ring-requires c = has_ring _ _ _ _ c.ring_at.ensures (good (goal.at.unwrap-ring-requires c).Start)

pub start_ring-requires : goal.start_ring-requires
start_ring-requires c =
    let p = c.requires in
    (p.0, ring_limits _ _ _ _ p.1.wide p.1.high (found_ring _ _ _ c.unwrap-ring.result c.ring_at.ensures c.unwrap-ring.ensures), p.3)

pub returns : goal.returns
returns c =
    let r = found_ring _ _ _ c.unwrap-ring.result c.ring_at.ensures c.unwrap-ring.ensures in
    rw (r.ring, r.body) at c.start_ring.ensures
