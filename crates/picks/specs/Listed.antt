-- The moves that a cell makes, by the eight directions as a table.
use Rattle.std.specs.Prelude.{◌≡◌, List, ℕ, ◌+◌, ◌*◌, ◌-◌, ◌≤◌, ◌<◌, T, length}
use Rattle.disjoint.specs.Forest.{of}
use Rattle.cellstate.specs.Looks.{highest}
use Rattle.picks.specs.Picks.{is_inside}

-- the eight directions as a table: by how many columns and rows from the cell before, and how far along the states
pub record Table (width : ℕ) (over down steps : List ℕ) : Type 0 where
  pub across : (k : ℕ) → k < 8 → of over k ≤ 2
  pub along : (k : ℕ) → k < 8 → of down k ≤ 2
  pub moves : (k : ℕ) → k < 8 → of over k ≡ 1 → of down k ≡ 1 → ⊥
  pub offset : (k : ℕ) → k < 8 → of steps k ≡ of down k * width + of over k
  pub every : (a b : ℕ) → a ≤ 2 → b ≤ 2 → (a ≡ 1 → b ≡ 1 → ⊥) → (k : ℕ) × (k < 8) × (of over k ≡ a) × (of down k ≡ b)

-- a cell of the map
pub record OnMap (width height : ℕ) (states : List ℕ) (x y : ℕ) : Type 0 where
  pub column : x < width
  pub row : y < height
  pub wide : width ≤ 1024
  pub tall : height ≤ 1024
  pub cells : length states ≡ height * width

-- moves are listed: each stays in the map, and each that stays in the map and leads to a state that the cell looks at is among them
pub record Listed (width height : ℕ) (states over down steps : List ℕ) (x y state : ℕ) (list : List ℕ) (count : ℕ) : Type 0 where
  pub long : length list ≡ 9
  pub few : count ≤ 8
  pub only : (j : ℕ) → j < count → (of list j < 8) × T (is_inside width height x y over down (of list j))
  pub every : (k : ℕ) → k < 8 → T (is_inside width height x y over down k) → highest state < of states ((y * width + x) + of steps k - width - 1) →
      (j : ℕ) × (j < count) × (of list j ≡ k)
