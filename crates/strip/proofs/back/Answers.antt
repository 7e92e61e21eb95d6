-- `strip::back`: the first k lanes have the levels of the way back.
use mathlib.Core.Path.{ap, ◌∙◌}
use Prim.Native.Nat.{ℕ}
use native.Mathlib.Omega.{arith}
use borrow.Author.Rules.{sfits_of}
use Rattle.std.proofs.lemmas.List.{length-replicate}
use Rattle.lane.specs.Levels.{level_at}
use Rattle.onelane.specs.Takes.{back_at}
use Rattle.onelane.proofs.Places.{lane_read}
use Rattle.strip.proofs.Strips.{filled_none, filled_more, filled_all}
use Rattle.strip.proofs.back.Goals as goal

pub loop-k-init : goal.loop-k-init
loop-k-init g c = filled_none _ _ _ (length-replicate _ _)

pub loop-k-preserved : goal.loop-k-preserved
loop-k-preserved g c =
    let a = c.args in
    let k = c.loop-k.k in
    filled_more c.back.result (sfits_of c.back.type_inv) c.loop-k-test.true
    (c.back.ensures ∙ ap (λ (n : ℕ). back_at (level_at a.lanes.now) (level_at a.gates.now) a.i n a.walk_gate k) (lane_read a.beside k (sfits_of c.back-arg-1.given)))
    c.loop-k.invariant

pub returns : goal.returns
returns g c = filled_all c.loop-k.invariant (omega arith)
