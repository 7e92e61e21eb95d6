-- `sheets::answersheet::answered`: the answer is a refusal, whose line is put, or the field, whose resources' fields are found and whose sheet is put.
use native.Mathlib.Omega.{arith}
use Rattle.walkgraph.specs.Promise.{refusal}
use Rattle.refusal.specs.Table.{number_of, place_of}
use Rattle.window.specs.Windows.{as_record}
use Rattle.fournumbers.specs.Corners.{corners_of}
use Rattle.fieldanswer.specs.Answers.{answer_of}
use Rattle.targetbox.specs.TargetBox.{Natural, cells_of}
use Rattle.sheets.specs.Shown.{ShownFits, AnswerFits, puts_line, puts_shown}
use Rattle.sheets.proofs.FieldShown.{sheet_room, shown_put, line_page, made_parts}
use Rattle.sheets.proofs.RoomDrawn.{line_room, line_put}
use Rattle.sheets.proofs.answersheet.answered.Goals.{In-Ok, In-Err}
use Rattle.sheets.proofs.answersheet.answered.Goals as goal

-- refused
told : (c : In-Err) → let a = c.args in AnswerFits a.width a.height a.cells.now a.resources.now (corners_of a.targets) a.page.now (refusal (number_of c.in-Err.refusal) (place_of c.in-Err.refusal))
unfolding answer_of
told c = rw c.in-Err.is at c.requires

-- made
done : (c : In-Ok) → let a = c.args in Natural (corners_of a.targets) × ShownFits a.width a.height a.cells.now a.resources.now (as_record c.in-Ok.made.window) c.in-Ok.made.sweeps (cells_of (corners_of a.targets)) a.page.now
unfolding answer_of
done c = made_parts (rw c.in-Ok.is at c.requires)

pub groups-fields-requires : goal.groups-fields-requires
groups-fields-requires c = (done (goal.at.groups-fields-requires c).In-Ok).1.groups

pub cells_of-boxed-requires : goal.cells_of-boxed-requires
cells_of-boxed-requires c = (done (goal.at.cells_of-boxed-requires c).In-Ok).0

pub sheet-requires : goal.sheet-requires
sheet-requires c =
    let g = c.groups-fields in
    rw c.cells_of-boxed.ensures (sheet_room g.ensures (done (goal.at.sheet-requires c).In-Ok).1 (omega (arith, g.auto)))

pub returns-in-Ok : goal.returns-in-Ok
unfolding answer_of
returns-in-Ok c =
    rw c.in-Ok.is (puts_shown (shown_put c.groups-fields.ensures (rw c.cells_of-boxed.ensures at c.sheet.ensures)))

pub refusal-requires : goal.refusal-requires
refusal-requires c = line_room _ _ (omega arith) (omega arith) _ (line_page (told (goal.at.refusal-requires c).In-Err))

pub returns-in-Err : goal.returns-in-Err
unfolding answer_of
returns-in-Err c =
    rw c.in-Err.is (puts_line (rw (c.number.ensures, c.place.ensures) at (line_put c.number.result c.place.result (omega arith) (omega arith) c.refusal.ensures)))
