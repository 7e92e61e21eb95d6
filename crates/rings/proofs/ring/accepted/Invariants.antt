-- `rings::ring::accepted`: the loop has passed only accepted resources, so the search from k on gives what it gives from 0 on.
use mathlib.Core.Path.{◌≡◌}
use Rattle.walkgraph.specs.Refusals.{first_bad_resource}
use Rattle.rings.proofs.Search.{first_bad_from}
use Rattle.rings.proofs.ring.accepted.Given as goal

abbrev pub invariant-loop-k : goal.invariant-loop-k
invariant-loop-k l = first_bad_from l.width l.height l.resources l.k ≡ first_bad_resource l.width l.height l.resources
