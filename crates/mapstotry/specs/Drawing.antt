-- Maps, negative numbers, rectangles and boxes as document 01 writes them.
use Rattle.std.specs.Prelude.{cond, List, [], ◌∷◌, ◌++◌, ℕ, ◌+◌, ◌*◌, ◌-◌, length, get_or, replicate, ℤ, pos, eqb}
use Prim.Native.Char.{code}
use Prim.Native.String.{String, [] as empty_text, ◌∷◌ as ◌then◌}
use Rattle.std.proofs.Math.IntN.{sub_ℕ}
use Rattle.walkgraph.specs.Map.{Box}

-- a map: its size, and "one byte a cell, row by row, 1 walkable and 0 not"
pub record Terrain : Type 0 where
  pub width : ℕ
  pub height : ℕ
  pub cells : List ℕ

-- "`.` walkable and `#` not"
unfoldable pub bytes : String → List ℕ
bytes empty_text = []
bytes (character then row) = cond (eqb (code character) (code ".")) 1 0 ∷ bytes row

-- "row by row"
unfoldable pub bytes_of_rows : List String → List ℕ
bytes_of_rows [] = []
bytes_of_rows (row ∷ rows) = bytes row ++ bytes_of_rows rows

-- the map with these rows, which are of equal length
unfoldable pub drawn : List String → Terrain
drawn rows = record { width = length (bytes (get_or rows 0 "")); height = length rows; cells = bytes_of_rows rows }

-- "one open row" of so many cells
unfoldable pub open_row : ℕ → Terrain
open_row width = record { width = width; height = 1; cells = replicate width 1 }

-- a negative number
unfoldable pub minus : ℕ → ℤ
minus n = sub_ℕ 0 n

-- a rectangle of pixels that are not negative: left, top, right, bottom
unfoldable pub pixels : ℕ → ℕ → ℕ → ℕ → List ℤ
pixels left top right bottom = pos left ∷ pos top ∷ pos right ∷ pos bottom ∷ []

-- the rectangle that is cell x of a row
unfoldable pub on_cell : ℕ → List ℤ
on_cell x = pixels (8 * x) 0 (8 * x + 8) 8

-- a box of cells: left, top, right, bottom, both ends in it
unfoldable pub box : ℕ → ℕ → ℕ → ℕ → Box
box left top right bottom = record { left = left; top = top; right = right; bottom = bottom }

-- "Window left, top, width, height", of a window that is not empty
unfoldable pub window_box : ℕ → ℕ → ℕ → ℕ → Box
window_box left top width height = box left top (left + width - 1) (top + height - 1)
