-- Document 01, "Room text and the program": the text of a room, and where a text first breaks the form.
use Rattle.std.specs.Prelude.{◌≡◌, List, [], ◌∷◌, ◌++◌, map, ℕ, ◌+◌, ◌≤◌, ◌<◌, length}
use Rattle.textlines.specs.Lines.{text_of}
use Rattle.roomlines.specs.Fours.{Four, four_line, FourFits, AllFit}
use Rattle.roomrows.specs.Rows.{AllRows}
use Rattle.rectangles.specs.Readings.{counted}

-- rows of bytes, rectangles, and the target box
pub record Room : Type 0 where
  pub rows : List (List ℕ)
  pub blockers : List Four
  pub resources : List Four
  pub targets : Four

-- "Sections in a fixed order": "rows", "blockers, resources, targets (count 1)"
unfoldable pub room_lines : Room → List (List ℕ)
room_lines room = counted room.rows ++ (counted (map four_line room.blockers) ++ (counted (map four_line room.resources) ++ counted (four_line room.targets ∷ [])))

-- "Every line ends in LF, nothing follows"
unfoldable pub room_text : Room → List ℕ
room_text room = text_of (room_lines room)

-- "rows (at least one, of `.` walkable and `#` not, equal length, not empty)"; "Numbers are decimal i32", and counts are numbers
pub record Formed (room : Room) : Type 0 where
  pub width : ℕ
  pub not_empty : 0 < width
  pub equal : AllRows width room.rows
  pub at_least_one : 1 ≤ length room.rows
  pub row_count : length room.rows ≤ 2147483647
  pub blocker_count : length room.blockers ≤ 2147483647
  pub resource_count : length room.resources ≤ 2147483647
  pub blockers : AllFit room.blockers
  pub resources : AllFit room.resources
  pub targets : FourFits room.targets

-- "first line that breaks it, from 1; a missing line is the one after the last": the lines before it are the first lines of a room text, and with it they are not, or it is not there and they are no whole room text
pub record Breaks (text : List ℕ) (line : ℕ) : Type 0 where
  pub first : List (List ℕ)
  pub rest : List ℕ
  pub split : text ≡ text_of first ++ rest
  pub number : line ≡ length first + 1
  pub room : Room
  pub formed : Formed room
  pub more : List (List ℕ)
  pub starts : room_lines room ≡ first ++ more
  pub stops : (other : Room) → Formed other → (content after : List ℕ) (others : List (List ℕ)) → rest ≡ content ++ (10 ∷ after) → room_lines other ≡ first ++ (content ∷ others) → ⊥
  pub unfinished : (other : Room) → Formed other → text ≡ room_text other → ⊥
