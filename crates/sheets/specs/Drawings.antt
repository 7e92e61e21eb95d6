-- Document 01, "Room text and the program", Output: what the sheet of a room is, whose text was accepted, and when a page has room for it.
use Rattle.std.specs.Prelude.{◌≡◌, List, ℕ, ◌≤◌, pos, replicate}
use Rattle.walkgraph.specs.Buffers.{Lent}
use Rattle.walkgraph.specs.Reading.{WindowRecord}
use Rattle.walkgraph.specs.Refusals.{FieldInput, field_verdict, refused}
use Rattle.walkgraph.specs.Promise.{FieldPromise, made}
use Rattle.cells.specs.Boxes.{reach}
use Rattle.targetbox.specs.TargetBox.{cells_of}
use Rattle.make.specs.Makes.{lent}
use Rattle.page.specs.declared.Page.{Page}
use Rattle.page.specs.Lines.{refusal_line}
use Rattle.sheettext.specs.Sheets.{PutsWithin}
use Rattle.sheets.specs.Shown.{Shown, SheetFits}

-- buffers of zeros for the field of 60 rows of 60 columns at 8 lanes: "P x lanes i16, P bytes of walk, P bytes of flags, 2H u16 of row intervals (two a row), and three version
-- buffers of H+2 u32"
abbrev pub zero_field : Lent
zero_field = lent (replicate 30752 (pos 0)) (replicate 3844 0) (replicate 3844 0) (replicate 120 0) (replicate 62 0) (replicate 62 0) (replicate 62 0)

-- ---- the sheet of a room

-- the field, and the sheet that shows it
pub record Drawn (input : FieldInput) (text : List ℕ) : Type 0 where
  pub left : Lent
  pub window : WindowRecord
  pub sweeps : ℕ
  pub promise : FieldPromise reach input zero_field left (made window sweeps)
  pub shown : Shown input.width input.height input.cells input.resources window sweeps (cells_of input.targets) left.lanes text

-- the sheet of a room: the field call judges it
pub data Drawing (input : FieldInput) : List ℕ → Type 0 where
  -- "A refusal prints only `refused`, number, place on one line."
  refused_line : {number place : ℕ} → field_verdict reach input zero_field ≡ refused number place → Drawing input (refusal_line number place)
  drawn : {text : List ℕ} → Drawn input text → Drawing input text

-- ---- on a page

-- the sheet of a room, or its refusal, put on a page
pub record PutsDrawing (input : FieldInput) (before after : Page) : Type 0 where
  pub text : List ℕ
  pub drawing : Drawing input text
  pub puts : PutsWithin 200000 text before after

-- "60 rows, 60 columns", and a page
pub record DrawFits (width height : ℕ) (page : Page) : Type 0 where
  pub columns : width ≤ 60
  pub rows : height ≤ 60
  pub room : SheetFits page
