-- `onelane::back`: the levels of its calls, put together as the code puts the calls together.
use mathlib.Core.Path.{refl, ap, ap₂, ◌∙◌}
use Prim.Native.Nat.{◌+◌, min, max}
use borrow.Author.Rules.{sfits_of}
use Rattle.lane.specs.Levels.{saturated, back_level}
use Rattle.lane.proofs.Levels.{read}
use Rattle.onelane.specs.Takes.{back_at}
use Rattle.onelane.proofs.Places.{lane_read}
use Rattle.onelane.proofs.back.Goals as goal

pub returns : goal.returns
unfolding back_at back_level
returns c =
    let a = c.args in
    let beside = read c.stepped.result (sfits_of c.stepped.type_inv) ∙ c.stepped.ensures 500 refl ∙ ap (λ n. saturated n 500) (read a.beside c.ranges.beside) in
    let lower = read c.least.result (sfits_of c.least.type_inv) ∙ c.least.ensures ∙ ap₂ min (lane_read a.lanes.now (a.i + a.k) (sfits_of c.least-arg-1.given)) beside in
    read c.most.result (sfits_of c.most.type_inv) ∙ c.most.ensures ∙ ap₂ max lower (lane_read a.gates.now (a.walk_gate + a.k) (sfits_of c.most-arg-1.given))
