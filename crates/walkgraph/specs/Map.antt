-- Document 01, "What the sheets need": the map. A cell is a column x and a row y, both from 0.
use Rattle.std.specs.Prelude.{Bool, ◌&&◌, List, ℕ, ◌+◌, ◌*◌, ◌≤◌, get_or, leb, ltb, eqb}

-- "one byte a cell, row by row, 1 walkable and 0 not"; beside the map nothing is walkable
unfoldable pub walkable : ℕ → ℕ → List ℕ → ℕ → ℕ → Bool
walkable width height cells x y = ltb x width && ltb y height && eqb (get_or cells (y * width + x) 0) 1

-- a box of cells, both ends in it
pub record Box : Type 0 where
  pub left : ℕ
  pub top : ℕ
  pub right : ℕ
  pub bottom : ℕ

-- the cell (x, y) is in the box
abbrev pub In : Box → ℕ → ℕ → Type 0
In b x y = (b.left ≤ x) × (x ≤ b.right) × (b.top ≤ y) × (y ≤ b.bottom)

-- the same as a test
unfoldable pub in_box : Box → ℕ → ℕ → Bool
in_box b x y = leb b.left x && leb x b.right && leb b.top y && leb y b.bottom
