-- Document 01, "Room text and the program": the sheet of any text.
use Rattle.std.specs.Prelude.{◌≡◌, Bool, true, false, List, ℕ, ◌+◌, ◌*◌, ◌≤◌, ◌<◌, ℤ, length, take}
use Rattle.std.proofs.Math.Seq.{slice}
use Rattle.walkgraph.specs.Painting.{rectangle}
use Rattle.walkgraph.specs.Refusals.{FieldInput}
use Rattle.rings.specs.Rings.{corners}
use Rattle.plan.specs.Plans.{input_of}
use Rattle.roomlines.specs.Fours.{numbers_of}
use Rattle.roomrows.specs.Rows.{cells_of}
use Rattle.roomtext.specs.Room.{Room, room_text, Formed, Breaks}
use Rattle.roomlimits.specs.Limits.{in_limits}
use Rattle.textverdict.specs.Verdicts.{Verdict, accepted, refused}
use Rattle.page.specs.declared.Page.{Page}
use Rattle.page.specs.Lines.{refusal_line}
use Rattle.sheettext.specs.Sheets.{PutsWithin}
use Rattle.sheets.specs.Shown.{SheetFits}
use Rattle.sheets.specs.Drawings.{Drawing, PutsDrawing}

-- ---- the sheet of a text

-- a room is not "over .. 60 rows, 60 columns, 64 blockers or 8 resources"
abbrev pub inside : (room : Room) → Formed room → Bool
inside room formed = in_limits formed.width (length room.rows) (length room.blockers) (length room.resources)

-- a room as the field call is given it: "one byte a cell, row by row", "(8 lanes)", and a rectangle's four numbers in a row
abbrev pub field_input : (room : Room) → Formed room → FieldInput
field_input room formed =
    let box = room.targets in
    input_of formed.width (length room.rows) (cells_of room.rows) 8 (numbers_of room.blockers) (numbers_of room.resources) (corners box.left box.top box.right box.bottom)

-- "Program: 8,192 bytes, 9, the other limits of 10, then the field call's order."; "A refusal prints only `refused`, number, place on one line."
pub data SheetOf (text : List ℕ) : List ℕ → Type 0 where
  too_many_bytes : 8192 < length text → SheetOf text (refusal_line 10 0)
  breaks_form : {line : ℕ} → length text ≤ 8192 → Breaks text line → SheetOf text (refusal_line 9 line)
  too_large : length text ≤ 8192 → (room : Room) (formed : Formed room) → text ≡ room_text room → inside room formed ≡ false → SheetOf text (refusal_line 10 0)
  room_sheet : {sheet : List ℕ} → length text ≤ 8192 → (room : Room) (formed : Formed room) → text ≡ room_text room → inside room formed ≡ true → Drawing (field_input room formed) sheet →
      SheetOf text sheet

-- ---- on a page

-- a sheet put on a page
pub record PutsSheet (text : List ℕ) (before after : Page) : Type 0 where
  pub sheet : List ℕ
  pub is : SheetOf text sheet
  pub puts : PutsWithin 200000 sheet before after

-- what stands in the buffers of a text that was read, as the field call is given it: the cells of the map, so many blockers and so many resources, and the target box
abbrev pub read_input : (width height blockers resources : ℕ) (cells : List ℕ) (numbers : List ℤ) → FieldInput
read_input width height blockers resources cells numbers =
    input_of width height (take (width * height) cells) 8 (take (4 * blockers) numbers) (slice (4 * blockers) (4 * (blockers + resources)) numbers) (rectangle numbers (blockers + resources))

-- a verdict on a text that is no room over the limits
unfoldable pub small : Verdict → Bool
small (accepted width height blockers resources) = in_limits width height blockers resources
small (refused number place) = true

-- a room that was read is in the limits, it stands there, and the page is long enough
pub record ReadFits (verdict : Verdict) (cells : List ℕ) (numbers : List ℤ) (page : Page) : Type 0 where
  pub limits : small verdict ≡ true
  pub cells_room : 8192 ≤ length cells
  pub numbers_room : 8192 ≤ length numbers
  pub page_room : SheetFits page

-- the line of a refusal, or the sheet of the room that was read, put on a page
pub data PutsVerdict (cells : List ℕ) (numbers : List ℤ) (before after : Page) : Verdict → Type 0 where
  puts_line : {number place : ℕ} → PutsWithin 200000 (refusal_line number place) before after → PutsVerdict cells numbers before after (refused number place)
  puts_drawing : {width height blockers resources : ℕ} → PutsDrawing (read_input width height blockers resources cells numbers) before after →
      PutsVerdict cells numbers before after (accepted width height blockers resources)
