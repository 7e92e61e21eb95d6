-- The flags of a cell, by the walk bytes of its neighbours and its own.
use Rattle.std.specs.Prelude.{ℕ, ◌+◌, ◌*◌}

-- "walkable 1, plus 2, 4, 8, 16 for a NW, NE, SW, SE move into it": a product of two such bytes is 1 exactly where both are
unfoldable pub flags_of : (cell west east north south : ℕ) → ℕ
flags_of cell west east north south = cell + 2 * (west * north) + 4 * (east * north) + 8 * (west * south) + 16 * (east * south)
