-- `roots::rooted`: the members that the loop passed have their roots as parents.
use native.Mathlib.Omega.{arith}
use Rattle.roots.proofs.Rooting.{rooting_none, rooting_more, rooting_all}
use Rattle.roots.proofs.rooted.Goals as goal

pub loop-i-init : goal.loop-i-init
loop-i-init c = rooting_none c.requires

pub find-requires : goal.find-requires
find-requires c = let l = c.loop-i.invariant in (l.forest, omega (arith, l.size, c.loop-i-test.true))

pub loop-i-preserved : goal.loop-i-preserved
loop-i-preserved c = rooting_more c.requires c.loop-i-test.true c.loop-i.invariant c.find.ensures (omega arith)

pub returns : goal.returns
returns c = rooting_all (omega (arith, c.loop-i-test.false, c.loop-i.invariant.size)) c.loop-i.invariant
