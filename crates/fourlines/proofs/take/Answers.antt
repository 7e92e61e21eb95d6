-- `fourlines::take`: what was read is stored.
use mathlib.Core.Path.{◌≡◌}
use borrow.Author.Rules.{rules}
use lib.ListN.{length}
use Rattle.roomlines.specs.Fours.{FourAt}
use Rattle.roomlines.specs.Answers.{four_of, four_found}
use Rattle.fourlines.specs.Storing.{takes_four}
use Rattle.fourlines.specs.Answers.{line_taken}
use Rattle.fourlines.proofs.Stored.{four_at_lem, four_room, four_stored, take_none}
use Rattle.fourlines.proofs.take.Goals.{In_ok-four}
use Rattle.fourlines.proofs.take.Goals as goal

pub returns-in_err-four : goal.returns-in_err-four
unfolding four_found line_taken
returns-in_err-four c = rw c.from_residual.ensures (take_none (rw c.in_err-four.was at c.four_at.ensures))

-- the four numbers that were read
read : (c : In_ok-four) → FourAt c.args.text.now c.args.at (four_of c.in_ok-four.four) c.in_ok-four.past
unfolding four_found
read c = four_at_lem (rw c.in_ok-four.was at c.four_at.ensures)

pub slice_bounds-copy_from_slice-end : goal.slice_bounds-copy_from_slice-end
slice_bounds-copy_from_slice-end c = let r = four_room (read (goal.at.slice_bounds-copy_from_slice-end c).In_ok-four) c.requires in search rules

pub returns : goal.returns
unfolding line_taken
returns c =
    let a = read (goal.at.returns c).In_ok-four in
    let size : length c.in_ok-four.four ≡ 4 = search rules in
    takes_four a (rw c.copy_from_slice.ensures.after (four_stored c.args.numbers.now c.in_ok-four.four c.args.place size (four_room a c.requires)))
