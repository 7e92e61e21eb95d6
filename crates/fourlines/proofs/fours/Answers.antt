-- `fourlines::fours`: the lines so far are read and stored.
use mathlib.Core.Path.{◌≡◌}
use native.Mathlib.Omega.{arith}
use borrow.Author.Rules.{rules}
use Rattle.std.specs.Prelude.{Some, None, Err}
use Rattle.fourlines.specs.Storing.{TakesFour, line_up_to}
use Rattle.fourlines.specs.Answers.{line_taken, lines_found}
use Rattle.fourlines.proofs.Stored.{read_none, read_turn, turn_inside, read_fits, fours_broken, fours_taken}
use Rattle.fourlines.proofs.fours.Goals.{In_ok-from}
use Rattle.fourlines.proofs.fours.Goals as goal

pub loop-passed-init : goal.loop-passed-init
loop-passed-init c = read_none c.requires

pub take-requires : goal.take-requires
take-requires c = read_fits c.loop-passed.invariant c.requires

pub returns-in_err-from : goal.returns-in_err-from
unfolding line_taken lines_found
returns-in_err-from c =
    let n : c.take.result ≡ None = search rules in
    let e : c.from_residual.result ≡ Err (record { passed = c.loop-passed.passed }) = search rules in
    rw e (fours_broken c.loop-passed.invariant (rw n at c.take.ensures) c.loop-passed-test.true)

-- a line more was read and stored
turn : (c : In_ok-from) → TakesFour c.args.text.now c.loop-passed.from c.loop-passed.to c.loop-passed.numbers c.take.new.numbers (line_up_to c.in_ok-from.from)
unfolding line_taken
turn c =
    let n : c.take.result ≡ Some c.in_ok-from.from = search rules in
    rw n at c.take.ensures

pub overflow_add-to : goal.overflow_add-to
overflow_add-to c = let i = turn_inside c.loop-passed.invariant (turn (goal.at.overflow_add-to c).In_ok-from) in search rules

pub loop-passed-preserved : goal.loop-passed-preserved
loop-passed-preserved c = read_turn c.loop-passed.invariant (turn (goal.at.loop-passed-preserved c).In_ok-from) c.loop-passed-test.true (omega arith) (omega arith)

pub returns : goal.returns
unfolding lines_found
returns c = fours_taken c.loop-passed.invariant (omega arith)
