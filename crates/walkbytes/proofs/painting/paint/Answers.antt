-- `painting::paint`: the blockers that the loop passed are painted.
use mathlib.Core.Path.{◌≡◌}
use Prim.Native.Nat.{◌/◌}
use native.Mathlib.Omega.{arith}
use lib.ListN.{length}
use Rattle.walkbytes.proofs.Boxed.{blockers_none, blockers_more}
use Rattle.walkbytes.proofs.painting.paint.Goals as goal

pub loop-k-init : goal.loop-k-init
loop-k-init c = blockers_none _ _ _ _ _

pub paint_blocker-requires : goal.paint_blocker-requires
paint_blocker-requires c =
    let p = c.requires in (rw c.loop-k.auto.walk p.0, p.1, p.2, omega arith)

pub loop-k-preserved : goal.loop-k-preserved
loop-k-preserved c =
    let l = c.loop-k in
    let a = c.args in
    blockers_more a.window a.width a.height a.blockers.now _ l.k _ _ l.invariant c.paint_blocker.ensures

pub returns : goal.returns
returns c = let e : c.loop-k.k ≡ length c.args.blockers.now / 4 = omega arith in rw e at c.loop-k.invariant
