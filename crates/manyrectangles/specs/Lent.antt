-- What access of many rectangles is lent, and what it leaves there.
use Rattle.std.specs.Prelude.{List, ◌++◌, ℕ, ◌/◌, length, drop, ℤ}
use Rattle.manyrectangles.specs.AllCells.{all_cells, ends_of}

-- what the call is lent: "u32 indices with n u32 ends"
pub record ListsLent : Type 0 where
  pub indices : List ℕ
  pub ends : List ℕ

-- both buffers after an accepted call: "Entries past the used part stay."
unfoldable pub listed_in : ℕ → ℕ → List ℕ → List ℤ → ListsLent → ListsLent
listed_in width height cells rectangles before =
    let n = length rectangles / 4 in
    let all = all_cells width height cells rectangles n in
    record { indices = all ++ drop (length all) before.indices; ends = ends_of width height cells rectangles n ++ drop n before.ends }
