-- `roomrows::rows_of`: the rows so far are read and stored.
use mathlib.Core.Bool.{true}
use native.Mathlib.Omega.{arith}
use borrow.Author.Rules.{rules}
use Rattle.rowform.specs.Rows.{JudgesRow}
use Rattle.roomrows.specs.Answers.{rows_found}
use Rattle.roomrows.proofs.Bits.{row_stored}
use Rattle.roomrows.proofs.Lined.{rows_none, rows_room, rows_turn, rows_taken, rows_stop}
use Rattle.roomrows.proofs.rows_of.Goals.{Else-not-is_row}
use Rattle.roomrows.proofs.rows_of.Goals as goal

pub loop-passed-init : goal.loop-passed-init
loop-passed-init c = rows_none c.requires.0

pub is_row-requires : goal.is_row-requires
is_row-requires c = c.loop-passed.invariant.stand.inside

pub returns-then-not-is_row : goal.returns-then-not-is_row
unfolding rows_found
returns-then-not-is_row c = rows_stop c.loop-passed.invariant c.requires.2 c.requires.1 (rw (c.if-not-is_row.true) at c.is_row.ensures) c.loop-passed-test.true

-- the next line is a row
stands : (c : Else-not-is_row) → JudgesRow c.args.text.now c.loop-passed.from c.args.width true
stands c = rw (c.if-not-is_row.false) at c.is_row.ensures

pub overflow_add-to : goal.overflow_add-to
overflow_add-to c = let w = rows_room c.loop-passed.invariant c.requires.0 (stands (goal.at.overflow_add-to c).Else-not-is_row) in omega (arith, w.0, w.1)

pub slice_bounds-store-end-in-loop-passed : goal.slice_bounds-store-end-in-loop-passed
slice_bounds-store-end-in-loop-passed c = let w = rows_room c.loop-passed.invariant c.requires.0 (stands (goal.at.slice_bounds-store-end-in-loop-passed c).Else-not-is_row) in search rules

pub loop-passed-preserved : goal.loop-passed-preserved
loop-passed-preserved c =
    let l = c.loop-passed in
    let stand = stands (goal.at.loop-passed-preserved c).Else-not-is_row in
    let room = rows_room l.invariant c.requires.0 stand in
    let stored = row_stored c.args.text.now l.cells c.store.new.cells l.from l.to c.args.width (omega (arith, room.0)) room.1 c.store.ensures in
    rows_turn l.invariant stand stored c.loop-passed-test.true (omega arith) (omega arith) (omega arith)

pub returns : goal.returns
unfolding rows_found
returns c = rows_taken c.loop-passed.invariant c.requires.2 (omega arith)
