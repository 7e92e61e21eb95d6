-- `disjoint::find::find`: ranks rise toward the root, so what is left below the largest rank falls with each call on the parent.
use Prim.Native.Nat.{◌-◌}
use lib.ListN.{get_or}
use Rattle.disjoint.proofs.find.+find.Given as goal

abbrev pub decreases-find : goal.decreases-find
decreases-find l = 10 - get_or l.ranks.now l.member 0
