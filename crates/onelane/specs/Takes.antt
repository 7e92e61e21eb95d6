-- What one lane takes from its neighbours on each way along a row.
use Rattle.std.specs.Prelude.{ℕ, ◌+◌, ◌≤◌, min, max}
use Rattle.lane.specs.Levels.{out_level, back_level}

-- the first `count` lanes of the two cells beside the one in the feeding row are in a buffer of `cells` lanes, and those of their gates in a table of `table` lanes
pub record SlantFits (count west east west_gate east_gate cells table : ℕ) : Type 0 where
  pub left : west + count ≤ cells
  pub right : east + count ≤ cells
  pub left_gate : west_gate + count ≤ table
  pub right_gate : east_gate + count ≤ table

-- ---- lane k: F and G are the levels of the buffer and of the table of gates

-- the lesser of the two lanes beside the one in the feeding row, where their gates are open
unfoldable pub slant_at : (F G : ℕ → ℕ) (west east west_gate east_gate : ℕ) → ℕ → ℕ
slant_at F G west east west_gate east_gate k = min (max (F (west + k)) (G (west_gate + k))) (max (F (east + k)) (G (east_gate + k)))

-- the way out of a walkable cell, whose own gate is open
unfoldable pub out_at : (F G : ℕ → ℕ) (i over west east beside west_gate east_gate : ℕ) → ℕ → ℕ
out_at F G i over west east beside west_gate east_gate k =
    out_level (F (i + k)) (F (over + k)) (F (west + k)) (F (east + k)) beside (G (west_gate + k)) (G (east_gate + k)) 0

-- and the way back
unfoldable pub back_at : (F G : ℕ → ℕ) (i beside walk_gate : ℕ) → ℕ → ℕ
back_at F G i beside walk_gate k = back_level (F (i + k)) beside (G (walk_gate + k))
