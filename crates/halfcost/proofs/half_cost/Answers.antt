-- `halfcost::half_cost`: the lane of unreachable holds none; another and 15,234 is a half cost, or below 0.
use mathlib.Core.Path.{◌≡◌, sym, ap, ◌∙◌}
use Prim.Native.Nat.{◌<◌}
use native.Mathlib.Omega.{arith}
use lib.IntN.{pos, ◌+ℤ◌}
use mir.Syntax.{w16, w32}
use mir.Val.{to_z, of_z}
use mir.Facts.{sfits_lit}
use Rattle.std.proofs.lemmas.Int.{ints}
use Rattle.lane.specs.Levels.{level}
use Rattle.lane.proofs.Signed.{up_under}
use Rattle.lane.proofs.Machine.{equal}
use Rattle.lane.proofs.Levels.{level_one}
use Rattle.halfcost.proofs.Costs.{cost_unreachable, cost_converted}
use Rattle.halfcost.proofs.half_cost.Goals as goal

pub returns-then-lane-eq32767 : goal.returns-then-lane-eq32767
returns-then-lane-eq32767 c =
    let e = equal w16 c.args.lane (pos 32767) c.ranges.lane (sfits_lit tt) c.if-lane-eq32767.true in
    rw e (sym cost_unreachable)

pub returns : goal.returns
returns c =
    let lane = c.args.lane in
    let other : (level lane ≡ 65535 → ⊥) = λ e. c.if-lane-eq32767.false (ap (of_z w16) (level_one lane (pos 32767) c.ranges.lane.sfits (omega arith) e)) in
    let top : level lane < 65535 = omega (arith, up_under 32768 lane c.ranges.lane.sfits) in
    let sum : to_z w32 (of_z w32 (to_z w32 (of_z w32 c.from.result) +ℤ pos 15234)) ≡ lane +ℤ pos 15234 = omega (arith, ints, c.from.ensures, c.ranges.lane) in
    c.ok.ensures.value ∙ cost_converted lane c.try_from.result top (rw sum at c.try_from.ensures)
