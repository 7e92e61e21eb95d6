-- Document 01, "Room text and the program", Output: what the sheet of a room is whose field is made, and what is put on a page that has room for it or for a refusal.
use Rattle.std.specs.Prelude.{◌≡◌, List, ℕ, ◌+◌, ◌/◌, ◌≤◌, ◌<◌, ℤ, length, replicate}
use Rattle.walkgraph.specs.Map.{Box}
use Rattle.walkgraph.specs.Painting.{Rectangle}
use Rattle.walkgraph.specs.Reading.{WindowRecord}
use Rattle.walkgraph.specs.Promise.{FieldAnswer, refusal, made}
use Rattle.cells.specs.Boxes.{InMap}
use Rattle.targetbox.specs.TargetBox.{Natural, cells_of}
use Rattle.page.specs.declared.Page.{Page}
use Rattle.page.specs.Lines.{refusal_line}
use Rattle.groups.specs.Groups.{GroupsFit, Grouped}
use Rattle.sheettext.specs.Sheets.{sheet_text, PutsWithin}

-- an answer for each of 8 resources
abbrev pub zero_answers : List ℕ
zero_answers = replicate 8 0

-- "number of fields; per resource its field", behind the window, the sweep count and the target cells
pub record Shown (width height : ℕ) (cells : List ℕ) (resources : List ℤ) (window : WindowRecord) (sweeps : ℕ) (targets : Box) (lanes : List ℤ) (text : List ℕ) : Type 0 where
  pub groups : ℕ
  pub answers : List ℕ
  pub grouped : Grouped width height cells resources zero_answers answers groups
  pub is : text ≡ sheet_text window sweeps targets lanes (length resources / 4) groups answers

-- the page has 200,000 bytes from its place on
abbrev pub SheetFits : Page → Type 0
SheetFits page = page.at + 200000 ≤ length page.bytes.now

-- on a page
pub record PutsShown (width height : ℕ) (cells : List ℕ) (resources : List ℤ) (window : WindowRecord) (sweeps : ℕ) (targets : Box) (lanes : List ℤ) (before after : Page) : Type 0 where
  pub text : List ℕ
  pub shown : Shown width height cells resources window sweeps targets lanes text
  pub puts : PutsWithin 200000 text before after

-- a room whose field is made, with a window and targets on its map, and a page
pub record ShownFits (width height : ℕ) (cells : List ℕ) (resources : List ℤ) (window : WindowRecord) (sweeps : ℕ) (targets : Box) (page : Page) : Type 0 where
  pub groups : GroupsFit width height cells resources zero_answers
  pub left : window.left < 1000
  pub top : window.top < 1000
  pub wide : window.width < 1000
  pub tall : window.height < 1000
  pub swept : sweeps < 1000
  pub box : InMap 60 60 targets
  pub room : SheetFits page

-- ---- what the field call answers

-- a page for the line of a refusal; a room whose field is made, with a target box that is not negative
pub data AnswerFits (width height : ℕ) (cells : List ℕ) (resources : List ℤ) (targets : Rectangle) (page : Page) : FieldAnswer → Type 0 where
  line_fits : {number place : ℕ} → SheetFits page → AnswerFits width height cells resources targets page (refusal number place)
  shown_fits : {window : WindowRecord} {sweeps : ℕ} → Natural targets → ShownFits width height cells resources window sweeps (cells_of targets) page →
      AnswerFits width height cells resources targets page (made window sweeps)

-- "A refusal prints only `refused`, number, place on one line."; else the sheet
pub data PutsAnswer (width height : ℕ) (cells : List ℕ) (resources : List ℤ) (targets : Rectangle) (lanes : List ℤ) (before after : Page) : FieldAnswer → Type 0 where
  puts_line : {number place : ℕ} → PutsWithin 200000 (refusal_line number place) before after → PutsAnswer width height cells resources targets lanes before after (refusal number place)
  puts_shown : {window : WindowRecord} {sweeps : ℕ} → PutsShown width height cells resources window sweeps (cells_of targets) lanes before after →
      PutsAnswer width height cells resources targets lanes before after (made window sweeps)
