-- Document 01, "Room text and the program": a row of the map.
use Rattle.std.specs.Prelude.{◌≡◌, Bool, true, false, ◌||◌, List, ◌∷◌, ◌++◌, ℕ, ◌+◌, ◌<◌, eqb, length, get_or, take, drop}

-- "of `.` walkable and `#` not": the bytes 46 and 35
unfoldable pub is_cell : ℕ → Bool
is_cell byte = eqb byte 46 || eqb byte 35

-- a row of that width
pub record RowOf (width : ℕ) (row : List ℕ) : Type 0 where
  pub size : length row ≡ width
  pub each : (k : ℕ) → k < length row → is_cell (get_or row k 0) ≡ true

-- a row of that width stands at a place, with its LF, or none does
pub data JudgesRow (text : List ℕ) (at width : ℕ) : Bool → Type 0 where
  row_stands : RowOf width (take width (drop at text)) → drop at text ≡ take width (drop at text) ++ (10 ∷ drop (at + width + 1) text) → at + width < length text → JudgesRow text at width true
  no_row : ((row after : List ℕ) → RowOf width row → drop at text ≡ row ++ (10 ∷ after) → ⊥) → JudgesRow text at width false
