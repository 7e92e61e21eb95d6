-- What is put on the page is the sheet of the room, or the line of its refusal.
use Prim.Native.Nat.{ℕ, ◌≤◌}
use native.Mathlib.Omega.{arith}
use lib.ListN.{length}
use Rattle.walkgraph.specs.Buffers.{Lent}
use Rattle.walkgraph.specs.Refusals.{FieldInput}
use Rattle.walkgraph.specs.Promise.{FieldAnswer, FieldPromise, refuses, nothing, makes}
use Rattle.cells.specs.Boxes.{reach}
use Rattle.page.specs.declared.Page.{Page}
use Rattle.page.specs.Puts.{Puts, Room}
use Rattle.page.specs.Lines.{refusal_line}
use Rattle.page.proofs.Lengths.{refusal_most}
use Rattle.sheettext.specs.Sheets.{PutsWithin}
use Rattle.sheets.specs.Shown.{SheetFits, PutsAnswer, puts_line, puts_shown}
use Rattle.sheets.specs.Drawings.{zero_field, refused_line, drawn, PutsDrawing}

-- ---- what the field call answers
module _ (i : FieldInput) {page done : Page} where
  pub answer_put : {after : Lent} {answer : FieldAnswer} → FieldPromise reach i zero_field after answer →
      PutsAnswer i.width i.height i.cells i.resources i.targets after.lanes page done answer → PutsDrawing i page done
  answer_put (refuses e) (puts_line p) = record { text = _; drawing = refused_line e; puts = p }
  answer_put (nothing ok none) (puts_shown s) =
      record { text = s.text; drawing = drawn (record { left = _; window = _; sweeps = _; promise = nothing ok none; shown = s.shown }); puts = s.puts }
  answer_put (makes ok some f) (puts_shown s) =
      record { text = s.text; drawing = drawn (record { left = _; window = _; sweeps = _; promise = makes ok some f; shown = s.shown }); puts = s.puts }

-- ---- the line of a refusal
module _ (number place : ℕ) (h : number ≤ 4294967295) (i : place ≤ 4294967295) where
  line_short : length (refusal_line number place) ≤ 30
  line_short = refusal_most 10 number place (omega arith) (omega arith) (omega arith)

  pub line_room : (page : Page) → SheetFits page → Room (refusal_line number place) page
  line_room page k = record { room = omega (arith, line_short, k) }

  pub line_put : {page done : Page} → Puts (refusal_line number place) page done → PutsWithin 200000 (refusal_line number place) page done
  line_put p = record { puts = p; short = omega (arith, p.ends, line_short) }
