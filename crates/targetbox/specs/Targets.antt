-- The number of target cells.
use Rattle.std.specs.Prelude.{ℕ, ◌+◌, ◌*◌, ◌-◌}
use Rattle.walkgraph.specs.Map.{Box}

-- "number of target cells"
unfoldable pub target_cells : Box → ℕ
target_cells targets = (targets.right + 1 - targets.left) * (targets.bottom + 1 - targets.top)
