-- `followednumbers::followed`: the byte after the number decides.
use Rattle.std.proofs.Common.{arith}
use Rattle.std.proofs.lemmas.Grind.{common_steps}
use mir.Syntax.{w32}
use mir.ValLaws.{to_z-of_z}
use Rattle.decimal.specs.Numbers.{Reads, number}
use Rattle.integers.specs.Answers.{integer_found}
use Rattle.integers.proofs.Limits.{read_fits}
use Rattle.followednumbers.proofs.Following.{followed_nothing, followed_reads, followed_other}
use Rattle.followednumbers.proofs.followed.Goals.{In_ok-number}
use Rattle.followednumbers.proofs.followed.Goals as goal

pub returns-in_err-number : goal.returns-in_err-number
unfolding integer_found
returns-in_err-number c =
    let b = c in
    rw c.from_residual.ensures
    (followed_nothing b.requires (rw (to_z-of_z w32 b.args.lowest b.ranges.lowest, to_z-of_z w32 b.args.highest b.ranges.highest) at c.in_err-number.ensures))

-- what was read, within the limits as they were given
read : (c : In_ok-number) → Reads c.args.lowest c.args.highest c.args.text.now c.args.at (number c.in_ok-number.number c.in_ok-number.past)
unfolding integer_found
read c = let b = c in rw (to_z-of_z w32 b.args.lowest b.ranges.lowest, to_z-of_z w32 b.args.highest b.ranges.highest) at c.in_ok-number.ensures

pub returns-then-ne : goal.returns-then-ne
unfolding integer_found
returns-then-ne c = followed_other c.requires (read (goal.at.returns-then-ne c).In_ok-number) (λ h e. grind (arith, common_steps))

pub returns : goal.returns
unfolding integer_found
returns c =
    let b = c in
    let r = read (goal.at.returns c).In_ok-number in
    rw (to_z-of_z w32 c.in_ok-number.number (read_fits b.ranges.lowest b.ranges.highest r))
    (followed_reads b.requires r (grind (arith, common_steps)) (grind (arith, common_steps)))
