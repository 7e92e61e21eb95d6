-- What the search reads of states: whether a move is open, and which states a cell looks at.
use Rattle.std.specs.Prelude.{Bool, cond, ◌&&◌, List, ℕ, ◌+◌, ◌*◌, ◌/◌, ◌%◌, ltb, eqb}
use Rattle.disjoint.specs.Forest.{of}

-- "both ends walkable; a diagonal step also needs both cells that share a side with both ends to be walkable"
unfoldable pub opens : List ℕ → ℕ → ℕ → ℕ → Bool
opens states next first second = ltb 0 (of states next) && (ltb 0 (of states first) && ltb 0 (of states second))

-- the highest state that a cell does not look at
unfoldable pub highest : ℕ → ℕ
highest state = cond (eqb (state % 32) 15) 0 (state / 32 * 32 + 31)
