-- The access cells of many rectangles, one list after another, and where each of these lists ends.
use Rattle.std.specs.Prelude.{List, ℕ, ◌+◌, length, ℤ}
use Rattle.walkgraph.specs.Lists.{tabulate}
use Rattle.walkgraph.specs.Painting.{rectangle}
use Rattle.walkgraph.specs.Ring.{access_cells}
use Rattle.ringlists.specs.Places.{in_order}

-- those of rectangle k
unfoldable pub cells_of : ℕ → ℕ → List ℕ → List ℤ → ℕ → List ℕ
cells_of width height cells rectangles k = access_cells width height cells (rectangle rectangles k)

-- those of rectangle 0, then of 1, up to n - 1
unfoldable pub all_cells : ℕ → ℕ → List ℕ → List ℤ → ℕ → List ℕ
all_cells width height cells rectangles n = in_order (cells_of width height cells rectangles) n

-- "Access cells come as u32 indices with n u32 ends.": end k is how many stand before the end of rectangle k's
unfoldable pub ends_of : ℕ → ℕ → List ℕ → List ℤ → ℕ → List ℕ
ends_of width height cells rectangles n = tabulate n (λ k. length (all_cells width height cells rectangles (k + 1)))
