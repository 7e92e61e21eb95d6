-- The moves that are picked from the eight.
use Rattle.std.specs.Prelude.{◌≡◌, Bool, true, false, cond, ◌&&◌, List, ℕ, ◌+◌, ◌-◌, ◌≤◌, ◌<◌, T, ltb, leb, get_or, length, set}

-- 1 where a test passes
unfoldable pub one : Bool → ℕ
one b = cond b 1 0

-- a column or a row, counted from 1, is in the map
unfoldable pub within : ℕ → ℕ → Bool
within place size = leb 1 place && leb place size

-- a column or a row, counted from 0, has one on each side
unfoldable pub inner : ℕ → ℕ → Bool
inner place size = ltb 0 place && ltb (place + 1) size

-- the first `count` entries of a list of nine places are the numbers below m that pass the test
pub record Picked (test : ℕ → Bool) (m : ℕ) (list : List ℕ) (count : ℕ) : Type 0 where
  pub long : length list ≡ 9
  pub few : count ≤ m
  pub only : (j : ℕ) → j < count → (get_or list j 0 < m) × T (test (get_or list j 0))
  pub every : (k : ℕ) → k < m → T (test k) → (j : ℕ) × (j < count) × (get_or list j 0 ≡ k)

-- a number at the end of a list, where it is picked
pub data Kept (list : List ℕ) (count k : ℕ) : Bool → List ℕ → ℕ → Type 0 where
  left_out : Kept list count k false list count
  put : Kept list count k true (set list count k) (count + 1)

-- the state that move k leads to is above a number
unfoldable pub is_near : List ℕ → ℕ → ℕ → List ℕ → ℕ → ℕ → Bool
is_near states width index steps low k = ltb low (get_or states (index + get_or steps k 0 - width - 1) 0)

-- each of the eight moves from the cell leads to a cell of the map
pub record Around (states : List ℕ) (width index : ℕ) (steps : List ℕ) : Type 0 where
  pub low : width + 1 ≤ index
  pub high : index + width + 1 < length states
  pub short : (k : ℕ) → k < 8 → get_or steps k 0 ≤ width + width + 2

-- move k leads to a cell of the map: its column and its row, counted from 1
unfoldable pub is_inside : ℕ → ℕ → ℕ → ℕ → List ℕ → List ℕ → ℕ → Bool
is_inside width height x y over down k = within (x + get_or over k 0) width && within (y + get_or down k 0) height

-- a cell of a map, and the columns and rows that the moves lead by, each counted from one before it
pub record Edge (x y : ℕ) (over down : List ℕ) : Type 0 where
  pub column : x < 1024
  pub row : y < 1024
  pub across : (k : ℕ) → k < 8 → get_or over k 0 ≤ 2
  pub along : (k : ℕ) → k < 8 → get_or down k 0 ≤ 2
