-- `roomrows::rows`: the first line tells the width.
use mathlib.Core.Path.{◌≡◌}
use native.Mathlib.Omega.{arith}
use borrow.Author.Rules.{rules}
use Rattle.std.specs.Prelude.{Some, None, Err}
use Rattle.textlines.specs.Lines.{FindsLine, ends}
use Rattle.textlines.specs.Answers.{line_found}
use Rattle.roomrows.specs.Answers.{rows_found}
use Rattle.roomrows.proofs.Lined.{unended_broken, empty_broken, line_from, first_line}
use Rattle.roomrows.proofs.rows.Goals.{In_ok-end}
use Rattle.roomrows.proofs.rows.Goals as goal

pub returns-in_err-end : goal.returns-in_err-end
unfolding line_found rows_found
returns-in_err-end c =
    let n : c.line_end.result ≡ None = search rules in
    let e : c.from_residual.result ≡ Err (record { passed = 0 }) = search rules in
    rw e (unended_broken c.requires.1 (rw n at c.line_end.ensures))

-- the first line ends
ended : (c : In_ok-end) → FindsLine c.args.text.now c.args.at (ends c.in_ok-end.end)
unfolding line_found
ended c =
    let n : c.line_end.result ≡ Some c.in_ok-end.end = search rules in
    rw n at c.line_end.ensures

pub returns-then-end-at : goal.returns-then-end-at
unfolding rows_found
returns-then-end-at c = empty_broken c.requires.1 (ended (goal.at.returns-then-end-at c).In_ok-end) c.if-end-at.true

pub overflow_sub-end : goal.overflow_sub-end
overflow_sub-end c = line_from (ended (goal.at.overflow_sub-end c).In_ok-end)

pub rows_of-requires : goal.rows_of-requires
rows_of-requires c = let e = ended (goal.at.rows_of-requires c).In_ok-end in (c.requires.0, first_line e, omega (arith, line_from e, c.if-end-at.false))
