-- `textlines::line_end`: the first LF from the place on.
use Rattle.std.proofs.Common.{arith}
use Rattle.textlines.specs.Answers.{line_found}
use Rattle.textlines.proofs.Lines.{feed_ends, feed_unended, past_unended}
use Rattle.textlines.proofs.line_end.Goals as goal

pub returns-in_err-get : goal.returns-in_err-get
unfolding line_found
returns-in_err-get c = rw c.from_residual.ensures (past_unended (omega (arith, c.in_err-get.ensures.lookup.0)))

pub returns-in_err-size : goal.returns-in_err-size
unfolding line_found
returns-in_err-size c = rw c.from_residual-in_err-size.ensures (feed_unended _ _ _ c.in_ok-get.ensures.lookup.0.2 c.in_err-size.ensures)

pub returns : goal.returns
unfolding line_found
returns c = feed_ends _ _ _ c.in_ok-get.ensures.lookup.0.2 c.in_ok-size.ensures
