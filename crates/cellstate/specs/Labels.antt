-- A cell's state: 0 where it is unwalkable, 65,535 where it is walkable and not labelled, else 32 times the resource's number from 1, plus the depth.
use Rattle.std.specs.Prelude.{ℕ, ◌+◌, ◌*◌, ◌-◌, ◌/◌, ◌%◌, ◌≤◌}

-- the resource of a label, from 0
abbrev pub owner_of : ℕ → ℕ
owner_of state = state / 32 - 1

-- how many steps the cell is from an access cell of it
abbrev pub depth_of : ℕ → ℕ
depth_of state = state % 32

-- a label of one of n resources
pub record Label (n state : ℕ) : Type 0 where
  pub first : 1 ≤ state / 32
  pub last : state / 32 ≤ n

-- the cell of a point: a point is 1,024 times the row, plus the column
abbrev pub cell_of : ℕ → ℕ → ℕ
cell_of width point = point / 1024 * width + point % 1024
