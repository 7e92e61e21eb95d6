-- `painting::paint`: the blockers that the loop passed are painted.
use mathlib.Core.Path.{◌≡◌}
use Rattle.window.specs.Fills.{entries}
use Rattle.walkbytes.specs.Painting.{blockers_painted}
use Rattle.walkbytes.proofs.painting.paint.Given as goal

abbrev pub invariant-loop-k : goal.invariant-loop-k
invariant-loop-k l = entries l.walk ≡ blockers_painted l.window l.width l.height l.blockers l.k (entries l.initial.walk)
