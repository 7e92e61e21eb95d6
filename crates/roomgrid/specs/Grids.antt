-- Document 01, "Room text and the program": the section of the rows of the map, and what reading it finds.
use Rattle.std.specs.Prelude.{◌≡◌, List, ◌∷◌, ℕ, ◌≤◌, ◌<◌, pos, length, drop}
use Rattle.std.proofs.lemmas.List.Edits.{sets}
use Rattle.decimal.specs.Numbers.{decimal_of}
use Rattle.roomlines.specs.Forms.{BreaksIn, LinesAt, Counted}
use Rattle.roomrows.specs.Rows.{cells_of, AllRows, RowLines}

-- the size of a map and the place after it, or how many lines there are before the one that breaks
pub data GridFound : Type 0 where
  grid : (width height past : ℕ) → GridFound
  grid_broken : (passed : ℕ) → GridFound

-- "rows (at least one ..)": their count is not 0
pub record GridTaken (text : List ℕ) (at : ℕ) (before after : List ℕ) (width height past : ℕ) : Type 0 where
  pub lines : List (List ℕ)
  pub some : 0 < width
  pub all : AllRows width lines
  pub number : length lines ≡ height
  pub low : 1 ≤ height
  pub high : height ≤ 2147483647
  pub stand : LinesAt text at (decimal_of (pos height) ∷ lines) past
  pub stored : after ≡ sets before 0 (cells_of lines)

-- what reading the count and the rows finds: them, or how many lines stand before the one that breaks the form
pub data TakesGrid (text : List ℕ) (at : ℕ) (before after : List ℕ) : GridFound → Type 0 where
  takes_grid : {width height past : ℕ} → GridTaken text at before after width height past → TakesGrid text at before after (grid width height past)
  breaks_grid : {passed : ℕ} → BreaksIn (Counted RowLines 1 2147483647) (drop at text) passed → TakesGrid text at before after (grid_broken passed)
