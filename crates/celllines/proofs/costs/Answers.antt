-- `celllines::costs`: the costs of the resources that the loop passed are put.
use mathlib.Core.Path.{◌≡◌}
use native.Mathlib.Omega.{arith}
use Rattle.page.proofs.Putting.{puts_none, puts_more, room_next}
use Rattle.costtext.specs.Costs.{cost_at}
use Rattle.celllines.proofs.Lines.{costs_none, costs_more, costs_room}
use Rattle.celllines.proofs.costs.Goals as goal

pub loop-l-init : goal.loop-l-init
loop-l-init c = rw (costs_none c.args.part.now) (puts_none _)

pub cost_at-requires : goal.cost_at-requires
cost_at-requires c =
    let a = c.args in
    let l = c.loop-l in
    room_next (cost_at a.part.now l.l) l.invariant c.requires (costs_room a.part.now l.l a.resources c.loop-l-test.true)

pub loop-l-preserved : goal.loop-l-preserved
loop-l-preserved c = let l = c.loop-l in rw (costs_more c.args.part.now l.l) (puts_more l.invariant c.cost_at.ensures)

pub returns : goal.returns
returns c = let e : c.loop-l.l ≡ c.args.resources = omega arith in rw e at c.loop-l.invariant
