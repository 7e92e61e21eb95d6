-- `sheets::drawing::draw`: the field call answers, and the sheet shows what it answers.
use mathlib.Core.Path.{refl}
use Rattle.walkgraph.specs.Buffers.{Lent}
use Rattle.walkgraph.specs.Refusals.{FieldInput}
use Rattle.walkgraph.specs.Promise.{FieldPromise}
use Rattle.cells.specs.Boxes.{reach}
use Rattle.fournumbers.specs.Corners.{corners_of}
use Rattle.plan.specs.Plans.{input_of}
use Rattle.field.specs.Buffers.{lent_of}
use Rattle.fieldanswer.specs.Answers.{answer_of}
use Rattle.sheets.specs.Drawings.{zero_field}
use Rattle.sheets.proofs.Accepted.{can_answer}
use Rattle.sheets.proofs.RoomDrawn.{answer_put}
use Rattle.sheets.proofs.drawing.draw.Goals.{Start, After-field-found}
use Rattle.sheets.proofs.drawing.draw.Goals as goal

-- what the field call is given
abbrev input : Start → FieldInput
input s = let a = s.args in input_of a.width a.height a.cells.now 8 a.blockers.now a.resources.now (corners_of a.targets)

-- and what it leaves
abbrev after : After-field-found → Lent
after c = lent_of c.field-found.new.buffers

-- what it promises
promised : (c : After-field-found) → let a = c.args in
    FieldPromise reach (input_of a.width a.height a.cells.now 8 a.blockers.now a.resources.now (corners_of a.targets)) zero_field (after c) (answer_of c.field-found.result)
promised c = c.field-found.ensures.promise

pub answered-requires : goal.answered-requires
answered-requires c =
    let d = (goal.at.answered-requires c).After-field-found in
    can_answer (input (goal.at.answered-requires c).Start) _ c.requires refl {after = after d} (promised d)

pub returns : goal.returns
returns c =
    let d = (goal.at.returns c).After-field-found in
    answer_put (input (goal.at.returns c).Start) {after = after d} (promised d) c.answered.ensures
