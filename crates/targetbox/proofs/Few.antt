-- The target cells are few.
use Prim.Native.Nat.{◌+◌, ◌-◌, ◌≤◌}
use native.Mathlib.Nat.{mul-le-mul}
use native.Mathlib.Omega.{arith}
use Rattle.walkgraph.specs.Map.{Box}
use Rattle.cells.specs.Boxes.{InMap}
use Rattle.targetbox.specs.Targets.{target_cells}

-- at most 3,600 cells
pub cells_few : (targets : Box) → InMap 60 60 targets → target_cells targets ≤ 3600
unfolding target_cells
cells_few targets box =
    let p : targets.right + 1 - targets.left ≤ 60 = omega (arith, box.wide) in
    let q : targets.bottom + 1 - targets.top ≤ 60 = omega (arith, box.tall) in
    mul-le-mul p q
