-- `onelane::slant`: the levels of its calls, put together as the code puts the calls together.
use mathlib.Core.Path.{ap₂, ◌∙◌}
use Prim.Native.Nat.{◌+◌, min, max}
use borrow.Author.Rules.{sfits_of}
use Rattle.lane.proofs.Levels.{read}
use Rattle.onelane.specs.Takes.{slant_at}
use Rattle.onelane.proofs.Places.{lane_read}
use Rattle.onelane.proofs.slant.Goals as goal

pub returns : goal.returns
unfolding slant_at
returns c =
    let a = c.args in
    let left = read c.most.result (sfits_of c.most.type_inv) ∙ c.most.ensures
    ∙ ap₂ max (lane_read a.lanes.now (a.west + a.k) (sfits_of c.most-arg-1.given)) (lane_read a.gates.now (a.west_gate + a.k) (sfits_of c.most-arg-2-1.given)) in
    let right = read c.most-2.result (sfits_of c.most-2.type_inv) ∙ c.most-2.ensures
    ∙ ap₂ max (lane_read a.lanes.now (a.east + a.k) (sfits_of c.most-arg-3-1.given)) (lane_read a.gates.now (a.east_gate + a.k) (sfits_of c.most-arg-4-1.given)) in
    read c.least.result (sfits_of c.least.type_inv) ∙ c.least.ensures ∙ ap₂ min left right
