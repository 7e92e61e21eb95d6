-- `roomlines::counts::count`: a number in the limits and LF.
use Rattle.std.proofs.Common.{pos, arith}
use mir.Syntax.{w32}
use mir.ValLaws.{to_z-of_z, to_z_pos}
use Rattle.decimal.specs.Numbers.{ReadsFollowed, number}
use Rattle.integers.specs.Answers.{integer_found}
use Rattle.roomlines.specs.Answers.{count_found}
use Rattle.roomlines.proofs.Counting.{count_none, count_reads, count_fits, count_sign}
use Rattle.roomlines.proofs.counts.count.Goals.{In_ok-number}
use Rattle.roomlines.proofs.counts.count.Goals as goal

pub returns-in_err-number : goal.returns-in_err-number
unfolding integer_found count_found
returns-in_err-number c =
    rw c.from_residual.ensures
    (count_none (rw (to_z_pos w32 c.args.lowest (omega arith), to_z_pos w32 c.args.highest (omega arith)) at c.in_err-number.ensures))

-- what was read, within the limits as they were given
read : (c : In_ok-number) → ReadsFollowed 10 (pos c.args.lowest) (pos c.args.highest) c.args.text.now c.args.at (number c.in_ok-number.number c.in_ok-number.past)
unfolding integer_found
read c = rw (to_z_pos w32 c.args.lowest (omega arith), to_z_pos w32 c.args.highest (omega arith)) at c.in_ok-number.ensures

pub overflow_cast-result : goal.overflow_cast-result
overflow_cast-result c =
    let r = read (goal.at.overflow_cast-result c).In_ok-number in
    rw (to_z-of_z w32 c.in_ok-number.number (count_fits c.requires.1 r)) ((count_sign r).0, record { fits = omega (arith, (count_sign r).1) })

pub returns : goal.returns
unfolding count_found
returns c =
    let r = read (goal.at.returns c).In_ok-number in
    rw (to_z-of_z w32 c.in_ok-number.number (count_fits c.requires.1 r)) (count_reads r)
