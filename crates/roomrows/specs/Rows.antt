-- Document 01, "Room text and the program": the rows of the map, and what reading them finds.
use Rattle.std.specs.Prelude.{◌≡◌, cond, List, [], ◌∷◌, ◌++◌, map, ℕ, ◌≤◌, ◌<◌, eqb, length, drop}
use Rattle.std.proofs.lemmas.List.Edits.{sets}
use Rattle.roomlines.specs.Forms.{BreaksIn, LinesAt}
use Rattle.rowform.specs.Rows.{RowOf}

-- "one byte a cell, row by row, 1 walkable and 0 not"
unfoldable pub cell_of : ℕ → ℕ
cell_of byte = cond (eqb byte 46) 1 0

-- the bytes of all rows
unfoldable pub cells_of : List (List ℕ) → List ℕ
cells_of [] = []
cells_of (row ∷ rows) = map cell_of row ++ cells_of rows

-- "equal length"
pub data AllRows (width : ℕ) : List (List ℕ) → Type 0 where
  nothing : AllRows width []
  more : {row : List ℕ} {rows : List (List ℕ)} → RowOf width row → AllRows width rows → AllRows width (row ∷ rows)

-- so many rows of equal length, "not empty"
pub record RowLines (n : ℕ) (rows : List (List ℕ)) : Type 0 where
  pub width : ℕ
  pub some : 0 < width
  pub all : AllRows width rows
  pub number : length rows ≡ n

-- ---- rows
pub data RowsFound : Type 0 where
  rows : (width past : ℕ) → RowsFound
  rows_broken : (passed : ℕ) → RowsFound

-- rows that were read, their cells stored from the buffer's start on
pub record RowsTaken (text : List ℕ) (at n : ℕ) (before after : List ℕ) (width past : ℕ) : Type 0 where
  pub lines : List (List ℕ)
  pub some : 0 < width
  pub all : AllRows width lines
  pub number : length lines ≡ n
  pub stand : LinesAt text at lines past
  pub stored : after ≡ sets before 0 (cells_of lines)

-- what reading rows finds: them, or how many of them stand before the line that breaks their form
pub data TakesRows (text : List ℕ) (at n : ℕ) (before after : List ℕ) : RowsFound → Type 0 where
  takes_rows : {width past : ℕ} → RowsTaken text at n before after width past → TakesRows text at n before after (rows width past)
  breaks_rows : {passed : ℕ} → BreaksIn (RowLines n) (drop at text) passed → TakesRows text at n before after (rows_broken passed)

-- a buffer as long as the text
pub record CellsFit (text : List ℕ) (at : ℕ) (cells : List ℕ) : Type 0 where
  pub inside : at ≤ length text
  pub long : length text ≤ length cells
