-- What reading a room text finds.
use Rattle.std.specs.Prelude.{◌≡◌, List, [], ◌∷◌, ◌++◌, ℕ, ◌≤◌, ℤ, length}
use Rattle.std.proofs.lemmas.List.Edits.{sets}
use Rattle.roomlines.specs.Fours.{numbers_of}
use Rattle.roomlines.specs.Forms.{Counted}
use Rattle.roomrows.specs.Rows.{cells_of, RowLines}
use Rattle.rectangles.specs.Readings.{Both, TailForm}
use Rattle.roomtext.specs.Room.{Room, room_text, Formed, Breaks}

-- the forms of the rows and of the whole
abbrev pub RowsForm : List (List ℕ) → Type 0
RowsForm = Counted RowLines 1 2147483647

-- "Sections in a fixed order": rows, and then the rectangles
abbrev pub RoomForm : List (List ℕ) → Type 0
RoomForm = Both RowsForm TailForm

-- ---- the whole text
pub data RoomFound : Type 0 where
  room : (width height blockers resources : ℕ) → RoomFound
  broken_at : (line : ℕ) → RoomFound

-- the text is that of a room, and this room's cells and numbers stand at the start of the buffers, whose other entries stay: "1 walkable and 0 not", row by row; blockers, resources, and the target box
pub record RoomTaken (text cells-before cells-after : List ℕ) (numbers-before numbers_after : List ℤ) (width height blockers resources : ℕ) : Type 0 where
  pub is : Room
  pub formed : Formed is
  pub text_is : text ≡ room_text is
  pub width_is : formed.width ≡ width
  pub height_is : length is.rows ≡ height
  pub blockers_are : length is.blockers ≡ blockers
  pub resources_are : length is.resources ≡ resources
  pub cells_are : cells-after ≡ sets cells-before 0 (cells_of is.rows)
  pub numbers_are : numbers_after ≡ sets numbers-before 0 (numbers_of (is.blockers ++ (is.resources ++ (is.targets ∷ []))))

-- a text in the form is read as its room, and any other is refused at the first line that breaks the form
pub data ReadsRoom (text cells-before cells-after : List ℕ) (numbers-before numbers_after : List ℤ) : RoomFound → Type 0 where
  reads_room : {width height blockers resources : ℕ} → RoomTaken text cells-before cells-after numbers-before numbers_after width height blockers resources → ReadsRoom text cells-before cells-after numbers-before numbers_after (room width height blockers resources)
  breaks_at : {line : ℕ} → Breaks text line → ReadsRoom text cells-before cells-after numbers-before numbers_after (broken_at line)

-- buffers as long as the text: each cell is a byte of it, and each number takes two at least
pub record RoomFits (text cells : List ℕ) (numbers : List ℤ) : Type 0 where
  pub short : length text ≤ 8192
  pub cells_long : length text ≤ length cells
  pub numbers_long : length text ≤ length numbers
