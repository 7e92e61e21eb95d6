-- `roomlines::fours::four`: each number and the byte after it, in their order.
use mir.Syntax.{w32}
use mir.ValLaws.{to_z-of_z}
use Rattle.integers.specs.Answers.{integer_found}
use Rattle.roomlines.specs.Answers.{four_found}
use Rattle.roomlines.proofs.Corners.{Next, next_fits, four_none_1, four_none_2, four_none_3, four_none_4, four_reads}
use Rattle.roomlines.proofs.fours.four.Goals.{In_ok-left, In_ok-top, In_ok-right, In_ok-bottom}
use Rattle.roomlines.proofs.fours.four.Goals as goal

-- the numbers that were read
left : (c : In_ok-left) → Next 32 c.args.text.now c.args.at c.in_ok-left.left c.in_ok-left.to_top
unfolding integer_found
left c = c.in_ok-left.ensures

top : (c : In_ok-top) → Next 32 c.args.text.now c.in_ok-left.to_top c.in_ok-top.top c.in_ok-top.to_right
unfolding integer_found
top c = c.in_ok-top.ensures

right : (c : In_ok-right) → Next 32 c.args.text.now c.in_ok-top.to_right c.in_ok-right.right c.in_ok-right.to_bottom
unfolding integer_found
right c = c.in_ok-right.ensures

bottom : (c : In_ok-bottom) → Next 10 c.args.text.now c.in_ok-right.to_bottom c.in_ok-bottom.bottom c.in_ok-bottom.past
unfolding integer_found
bottom c = c.in_ok-bottom.ensures

pub returns-in_err-left : goal.returns-in_err-left
unfolding integer_found four_found
returns-in_err-left c = rw c.from_residual.ensures (four_none_1 c.in_err-left.ensures)

pub returns-in_err-top : goal.returns-in_err-top
unfolding integer_found four_found
returns-in_err-top c = rw c.from_residual-in_err-top.ensures (four_none_2 c.in_ok-left.ensures c.in_err-top.ensures)

pub returns-in_err-right : goal.returns-in_err-right
unfolding integer_found four_found
returns-in_err-right c = rw c.from_residual-in_err-right.ensures (four_none_3 c.in_ok-left.ensures c.in_ok-top.ensures c.in_err-right.ensures)

pub returns-in_err-bottom : goal.returns-in_err-bottom
unfolding integer_found four_found
returns-in_err-bottom c =
    rw c.from_residual-in_err-bottom.ensures (four_none_4 c.in_ok-left.ensures c.in_ok-top.ensures c.in_ok-right.ensures c.in_err-bottom.ensures)

pub returns : goal.returns
unfolding four_found
returns c =
    let a = left (goal.at.returns c).In_ok-left in
    let b = top (goal.at.returns c).In_ok-top in
    let d = right (goal.at.returns c).In_ok-right in
    let e = bottom (goal.at.returns c).In_ok-bottom in
    rw (to_z-of_z w32 c.in_ok-left.left (next_fits a), to_z-of_z w32 c.in_ok-top.top (next_fits b), to_z-of_z w32 c.in_ok-right.right (next_fits d), to_z-of_z w32 c.in_ok-bottom.bottom (next_fits e)) (four_reads a b d e)
