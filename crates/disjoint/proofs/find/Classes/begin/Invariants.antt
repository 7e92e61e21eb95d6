-- `disjoint::find::Classes::begin`: the members that the loop passed are their own parents.
use mathlib.Core.Path.{◌≡◌}
use Prim.Native.Nat.{ℕ, ◌<◌}
use Rattle.disjoint.specs.Forest.{of}
use Rattle.disjoint.proofs.find.Classes.begin.Given as goal

abbrev pub invariant-loop-i : goal.invariant-loop-i
invariant-loop-i l = (j : ℕ) → j < l.i → of l.parent-items j ≡ j
