-- `seeds::ground::ground`: the states that the loop passed are those of their cells.
use mathlib.Core.Path.{◌≡◌}
use Prim.Native.Nat.{ℕ, ◌*◌, ◌<◌}
use Rattle.disjoint.specs.Forest.{of}
use Rattle.seeds.proofs.ground.ground.Given as goal

abbrev pub invariant-loop-k : goal.invariant-loop-k
invariant-loop-k l = (j : ℕ) → j < l.k → of l.states j ≡ of l.cells j * 65535
