-- What the parts of the call assume and what they leave.
use Rattle.std.specs.Prelude.{◌≡◌, false, List, ℕ, ◌+◌, ◌/◌, ◌≤◌, ◌<◌, length, ℤ}
use Rattle.walkgraph.specs.Refusals.{bad_grid, bad_fours, first_bad_resource}
use Rattle.manyrectangles.specs.AllCells.{cells_of, all_cells}
use Rattle.manyrectangles.specs.Lent.{ListsLent, listed_in}

-- both lent buffers
abbrev pub lent : List ℕ → List ℕ → ListsLent
lent indices ends = record { indices = indices; ends = ends }

-- neither the map, the number of rectangles nor a rectangle is refused
pub record Judged (width height : ℕ) (cells : List ℕ) (rectangles : List ℤ) : Type 0 where
  pub map : bad_grid width height cells ≡ false
  pub fours : bad_fours 512 rectangles ≡ false
  pub good : first_bad_resource width height rectangles ≡ length rectangles / 4

-- and there is a rectangle k
pub record OneOf (width height : ℕ) (cells : List ℕ) (rectangles : List ℤ) (k : ℕ) : Type 0 where
  pub judged : Judged width height cells rectangles
  pub there : k < length rectangles / 4

-- with room for its access cells behind `used` entries of so many
pub record OneFits (width height : ℕ) (cells : List ℕ) (rectangles : List ℤ) (k used lent : ℕ) : Type 0 where
  pub one : OneOf width height cells rectangles k
  pub room : used + length (cells_of width height cells rectangles k) ≤ lent

-- there is room for all access cells and all ends
pub record AllFit (width height : ℕ) (cells : List ℕ) (rectangles : List ℤ) (indices ends : ℕ) : Type 0 where
  pub judged : Judged width height cells rectangles
  pub room : length (all_cells width height cells rectangles (length rectangles / 4)) ≤ indices
  pub ends_room : length rectangles / 4 ≤ ends

-- all are listed, and how many they are
pub record AllListed (width height : ℕ) (cells : List ℕ) (rectangles : List ℤ) (before after : ListsLent) (count : ℕ) : Type 0 where
  pub buffers : after ≡ listed_in width height cells rectangles before
  pub counted : count ≡ length (all_cells width height cells rectangles (length rectangles / 4))
